use Rattle.std.proofs.Common.{rules}
use Rattle.cart.specs.States.{state_at}
use Rattle.cart.specs.StatesLemmas.{same_state}
use Rattle.cart.proofs.state.CartState.held.Goals as goal

pub returns : goal.returns
returns c = same_state _ (state_at c.args.x c.args.v) (search rules) (search rules)
