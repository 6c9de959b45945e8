-- Regions of whole coordinates: lying in one, lying within one, and touching.
use Rattle.std.specs.Prelude.{Bool, ◌&&◌, ℤ, ◌≤ℤ◌, int_le}
use Rattle.std.specs.Int.{int_max}
use Rattle.guard.specs.declared.geometry.Point.{Point}
use Rattle.guard.specs.declared.geometry.Region.{Region}

-- c lies from low to high, both ends included
pub record Between (low c high : ℤ) : Type 0 where
  pub from : low ≤ℤ c
  pub to : c ≤ℤ high

-- the point p lies in the region b
pub record Inside (p : Point) (b : Region) : Type 0 where
  pub x : Between b.low.x p.x b.high.x
  pub y : Between b.low.y p.y b.high.y
  pub z : Between b.low.z p.z b.high.z

-- each point of a lies in b
abbrev pub Within : Region → Region → Type 0
Within a b = (p : Point) → Inside p a → Inside p b

-- some point lies in both
abbrev pub Touching : Region → Region → Type 0
Touching a b = (p : Point) × Inside p a × Inside p b

-- The tests that decide these.

unfoldable pub between : ℤ → ℤ → ℤ → Bool
between low c high = int_le low c && int_le c high

abbrev pub holds : Region → Point → Bool
holds b p =
    (between b.low.x p.x b.high.x && between b.low.y p.y b.high.y)
    && between b.low.z p.z b.high.z

-- both corners of a lie in b
abbrev pub encloses : Region → Region → Bool
encloses b a = holds b a.low && holds b a.high

-- the larger coordinate on each axis
abbrev pub larger : Point → Point → Point
larger p q = record { x = int_max p.x q.x; y = int_max p.y q.y; z = int_max p.z q.z }

-- the first point that could lie in both does
abbrev pub touches : Region → Region → Bool
touches a b = let p = larger a.low b.low in holds a p && holds b p
