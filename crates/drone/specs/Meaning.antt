-- What a drone means as a guard.
use Rattle.std.specs.Prelude.{ℤ, pos, ◌+ℤ◌, ◌-ℤ◌}
use Rattle.guard.specs.declared.geometry.Point.{Point}
use Rattle.guard.specs.declared.geometry.Region.{Region}
use Rattle.guard.specs.Meaning.{Meaning, Numbers}
use Rattle.guard.specs.Regions.{holds, encloses}
use Rattle.drone.specs.declared.state.DroneState.{DroneState}
use Rattle.drone.specs.States.{after, draw, numbers, made}

abbrev pub point : ℤ → ℤ → ℤ → Point
point x y z = record { x = x; y = y; z = z }

abbrev pub place : DroneState → Point
place s = point s.x s.y (pos s.z)

-- from the cell down to the ground, and as far to each side as down
abbrev pub low_corner : DroneState → Point
low_corner s = point (s.x -ℤ pos s.z) (s.y -ℤ pos s.z) (pos 0)

abbrev pub high_corner : DroneState → Point
high_corner s = point (s.x +ℤ pos s.z) (s.y +ℤ pos s.z) (pos s.z)

abbrev pub cover : DroneState → Region
cover s = record { low = low_corner s; high = high_corner s }

-- the hall from 0 to the given size on each axis
abbrev pub hall : Numbers → Region
hall size = record { low = point (pos 0) (pos 0) (pos 0); high = point size.0 size.1 size.2 }

-- the drone in the hall of this size
abbrev pub drone : Numbers → Meaning DroneState
drone size = record {
  actions = 7;
  gusts = 9;
  after = after;
  draw = draw;
  place = place;
  cover = cover;
  ticks = λ s. s.z;
  fallback = λ s. 6;
  fallback_draw = 2;
  safe = λ r. holds (hall size) (place r.state);
  recoverable = λ r. encloses (hall size) (cover r.state);
  numbers = numbers;
  made = made;
}
