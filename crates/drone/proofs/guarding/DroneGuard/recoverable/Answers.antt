use Rattle.std.proofs.lemmas.Bool.Decides.{Decides-at}
use Rattle.drone.specs.Making.{size}
use Rattle.drone.specs.Laws.{drone_exact, fits_below}
use Rattle.drone.proofs.guarding.DroneGuard.recoverable.Goals as goal

pub returns : goal.returns
returns c =
    let d = c.args.self.now in
    let e = c.lands_in_hall.ensures in
    record { value = e; exact = Decides-at _ _ e (drone_exact (size d) (record { x = fits_below _ d.x.fit; y = fits_below _ d.y.fit }) c.args.r) }
