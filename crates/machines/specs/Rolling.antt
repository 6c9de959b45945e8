-- A machine that rolls along one axis and brakes: its place, its brake, and what its braking covers.
use Rattle.std.specs.Prelude.{ℕ, suc, ◌-◌, ℤ, pos, negsuc, ◌+ℤ◌, ◌-ℤ◌, neg_ℤ}
use Rattle.guard.specs.declared.geometry.Point.{Point}
use Rattle.guard.specs.declared.geometry.Region.{Region}

abbrev pub on_axis : ℤ → Point
on_axis x = record { x = x; y = pos 0; z = pos 0 }

abbrev pub stretch : ℤ → ℤ → Region
stretch from to = record { low = on_axis from; high = on_axis to }

-- the speed v with n taken off its size, never past 0
abbrev pub slowed : ℕ → ℤ → ℤ
slowed n (pos v) = pos (v - n)
slowed n (negsuc v) = neg_ℤ (pos (suc v - n))

-- from the place x to where the longest braking from the speed v ends, where d has the braking distance for each speed size
abbrev pub braking_cover : (ℕ → ℕ) → ℤ → ℤ → Region
braking_cover d x (pos v) = stretch x (x +ℤ pos (d v))
braking_cover d x (negsuc v) = stretch (x -ℤ pos (d (suc v))) x
