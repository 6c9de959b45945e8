-- A drone that was made has the size that was asked for.
use Rattle.std.proofs.Common.{◌≡◌, ◌&&◌, Bool, true, false, cond, ℤ, Ok, Err, Result}
use Rattle.guard.specs.Meaning.{Numbers}
use Rattle.drone.specs.HallSize.{fits}
use Rattle.drone.specs.Making.{sized}
use Rattle.machines.specs.declared.making.MakingRefusal.{MakingRefusal}
use Rattle.machines.specs.declared.making.MakingRefusal.TheVariants.{HallSize}

by_fit : (b : Bool) (s t : Numbers) → Ok s ≡ cond {A = Result Numbers MakingRefusal} b (Ok t) (Err HallSize) → s ≡ t
by_fit true s t e = cc
by_fit false s t e = cc

pub size_as_asked : (x y z : ℤ) (s : Numbers) → Ok s ≡ sized x y z → s ≡ (x, y, z)
size_as_asked x y z s e = by_fit ((fits x && fits y) && fits z) s (x, y, z) e
