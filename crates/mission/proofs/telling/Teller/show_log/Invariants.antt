use Rattle.std.proofs.Common.{length}
use Rattle.mission.proofs.telling.Teller.show_log.Given as goal

abbrev pub decreases-loop-reader : goal.decreases-loop-reader
decreases-loop-reader l = length l.reader.tape.now
