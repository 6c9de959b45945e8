use Rattle.std.proofs.Common.{vec_items}
use Rattle.text.proofs.Meant.{Standing}
use Rattle.text.proofs.hex.bytes.Given as goal

abbrev pub invariant-loop-i : goal.invariant-loop-i
invariant-loop-i l = Standing l.text (vec_items l.bytes) l.i l.high
