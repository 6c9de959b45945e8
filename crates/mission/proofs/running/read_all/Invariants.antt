use Rattle.std.proofs.Common.{length}
use Rattle.mission.proofs.running.read_all.Given as goal

abbrev pub decreases-loop : goal.decreases-loop
decreases-loop l = length l.reader.tape.now
