use Rattle.std.proofs.Common.{◌+◌, ◌≤◌, length, vec_len}
use Rattle.mission.proofs.options.read.Given as goal

-- each word is a place at most
abbrev pub invariant-loop-rest : goal.invariant-loop-rest
invariant-loop-rest g l = vec_len l.places + length l.rest ≤ length l.words

abbrev pub decreases-loop-rest : goal.decreases-loop-rest
decreases-loop-rest g l = length l.rest
