use Rattle.std.proofs.Common.{take, vec_items}
use Rattle.executive.proofs.Replaying.{Going}
use Rattle.executive.proofs.replay.replay.Given as goal

abbrev pub invariant-loop-call : goal.invariant-loop-call
invariant-loop-call g l =
    let p = l.initial.executive.guard in
    Going (g.G.Guard.meaning p) p l.mission (take l.call-index l.calls) (vec_items l.answers) l.executive
