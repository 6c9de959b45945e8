-- Which drones are made.
use Rattle.std.specs.Prelude.{◌≡◌, true, false, cond, ◌&&◌, ℤ, Ok, Err, Result, MatchResult}
use Rattle.guard.specs.Meaning.{Numbers}
use Rattle.drone.specs.HallSize.{fits}
use Rattle.drone.specs.declared.Drone.{Drone}
use Rattle.drone.specs.declared.Side.{Side}
use Rattle.machines.specs.declared.making.MakingRefusal.{MakingRefusal}
use Rattle.machines.specs.declared.making.MakingRefusal.TheVariants.{HallSize}

-- a drone is the size of its hall
abbrev pub size : Drone → Numbers
size d = (d.x.length, d.y.length, d.z.length)

abbrev pub sizes : Result Drone MakingRefusal → Result Numbers MakingRefusal
sizes (Ok d) = Ok (size d)
sizes (Err e) = Err e

-- the hall of the given size, if it is from 1 to 63 on each axis
abbrev pub sized : ℤ → ℤ → ℤ → Result Numbers MakingRefusal
sized x y z = cond ((fits x && fits y) && fits z) (Ok (x, y, z)) (Err HallSize)

-- a side that fits is made as it is, and any other refused
abbrev pub TakesSide : ℤ → Result Side MakingRefusal → Type 0
TakesSide n r = MatchResult r (λ s. (fits n ≡ true) × (s.length ≡ n)) (λ e. (fits n ≡ false) × (e ≡ HallSize))
