use Rattle.std.proofs.Common.{◌<◌, vec_items}
use Rattle.std.specs.List.{AllByRecursion}
use Rattle.mission.proofs.words.gusts.Given as goal

abbrev pub invariant-loop-part : goal.invariant-loop-part
invariant-loop-part l = AllByRecursion (λ w. w < l.count) (vec_items l.gusts)
