use Rattle.std.proofs.Common.{rules}
use Rattle.guard.specs.Regions.{larger}
use Rattle.guard.proofs.Regions.{same_point}
use Rattle.guard.proofs.geometry.Point.max.Goals as goal

pub returns : goal.returns
returns c = same_point _ (larger c.args.self c.args.other) (search rules) (search rules) (search rules)
