use Rattle.std.proofs.Common.{arith}
use Rattle.std.proofs.lemmas.Int.{to_z-of_z}
use Rattle.std.proofs.lemmas.Bool.Decides.{nat_tests}
use Rattle.cart.proofs.state.CartState.after.Goals as goal

pub returns-then-w-lt-GUSTS : goal.returns-then-w-lt-GUSTS
returns-then-w-lt-GUSTS c = grind (arith, nat_tests, to_z-of_z, c.held.ensures)
