use Rattle.std.proofs.lemmas.Bool.Decides.{Decides-at}
use Rattle.cart.specs.Laws.{cart_exact}
use Rattle.cart.proofs.guarding.CartGuard.recoverable.Goals as goal

pub returns : goal.returns
returns c =
    let cart = c.args.self.now in
    record { value = c.stops_on_rail.ensures; exact = Decides-at _ _ c.stops_on_rail.ensures (cart_exact cart.length cart.short c.args.r) }
