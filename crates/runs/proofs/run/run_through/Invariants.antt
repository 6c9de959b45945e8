use Rattle.std.proofs.Common.{length}
use Rattle.records.specs.Readers.{unread}
use Rattle.runs.proofs.Running.{Going}
use Rattle.runs.proofs.run.run_through.Given as goal

abbrev pub invariant-loop-due : goal.invariant-loop-due
invariant-loop-due g l = Going (g.G.Guard.meaning l.initial.e.guard) l.tape l.initial.log l.initial.e l.place l.written l.log l.e (unread l.reader)

abbrev pub decreases-loop-due : goal.decreases-loop-due
decreases-loop-due g l = length (unread l.reader)
