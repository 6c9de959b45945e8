use Rattle.std.proofs.Common.{arith}
use Rattle.std.proofs.lemmas.Int.{ints, clamps}
use Rattle.machines.proofs.Rolling.{slowed_held}
use Rattle.cart.proofs.state.CartState.slowed.Goals as goal

pub returns-clause-value : goal.returns-clause-value
returns-clause-value c = let e = slowed_held c.args.by c.args.self.v in omega (arith, ints, clamps)
