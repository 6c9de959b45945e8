use Rattle.std.proofs.Common.{◌+◌, ◌≤◌, length}
use Rattle.mission.proofs.show.print.Given as goal

-- each record has taken a byte at least
abbrev pub invariant-loop-record : goal.invariant-loop-record
invariant-loop-record l = l.number + length l.reader.tape.now ≤ length l.tape

abbrev pub decreases-loop-record : goal.decreases-loop-record
decreases-loop-record l = length l.reader.tape.now
