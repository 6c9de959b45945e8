-- The tests on regions decide what they stand for.
use Rattle.std.proofs.Common.{◌≡◌, ℤ, ◌≤ℤ◌, Decides, arith}
use lib.Signed.{le_z}
use Rattle.std.specs.Int.{int_max}
use Rattle.std.proofs.lemmas.Int.{ints, clamps}
use Rattle.std.proofs.lemmas.Bool.Decides.{Decides-and, Decides-like}
use Rattle.guard.specs.declared.geometry.Point.{Point}
use Rattle.guard.specs.declared.geometry.Region.{Region}
use Rattle.guard.specs.Regions.{Between, Inside, Within, Touching, between, holds, encloses, larger, touches}

decides_le_z : (a b : ℤ) → Decides (le_z a b) (a ≤ℤ b)
decides_le_z a b = (λ e. grind (arith, ints), λ h. grind (arith, ints))

decides_between : (low c high : ℤ) → Decides (between low c high) (Between low c high)
unfolding between
decides_between low c high =
    Decides-like _ (λ h. record { from = h.0; to = h.1 }) (λ h. (h.from, h.to)) (Decides-and _ _ (decides_le_z low c) (decides_le_z c high))

pub decides_holds : (b : Region) (p : Point) → Decides (holds b p) (Inside p b)
decides_holds b p =
    Decides-like _ (λ h. record { x = h.0.0; y = h.0.1; z = h.1 }) (λ h. ((h.x, h.y), h.z))
    (Decides-and _ _ (Decides-and _ _ (decides_between _ _ _) (decides_between _ _ _)) (decides_between _ _ _))

-- a point of both is not below the larger of the two lower ends
first_left : (low high from to c : ℤ) → Between low c high → Between from c to → Between low (int_max low from) high
first_left low high from to c i j = record { from = omega (arith, ints, clamps); to = omega (arith, ints, clamps) }

first_right : (low high from to c : ℤ) → Between low c high → Between from c to → Between from (int_max low from) to
first_right low high from to c i j = record { from = omega (arith, ints, clamps); to = omega (arith, ints, clamps) }

first_in_both : (a b : Region) → Touching a b → Inside (larger a.low b.low) a × Inside (larger a.low b.low) b
first_in_both a b h =
    let i = h.1 in
    let j = h.2 in (
      record { x = first_left _ _ _ _ _ i.x j.x; y = first_left _ _ _ _ _ i.y j.y; z = first_left _ _ _ _ _ i.z j.z },
      record { x = first_right _ _ _ _ _ i.x j.x; y = first_right _ _ _ _ _ i.y j.y; z = first_right _ _ _ _ _ i.z j.z },
    )

pub decides_touches : (a b : Region) → Decides (touches a b) (Touching a b)
decides_touches a b =
    let p = larger a.low b.low in
    Decides-like _ (λ h. (p, h.0, h.1)) (first_in_both a b) (Decides-and _ _ (decides_holds a p) (decides_holds b p))

pub within_by_corners : (b a : Region) → Inside a.low b → Inside a.high b → Within a b
within_by_corners b a low high p i =
    let x = i.x in
    let y = i.y in
    let z = i.z in
    record {
      x = record { from = omega (arith, ints, low.x.from); to = omega (arith, ints, high.x.to) };
      y = record { from = omega (arith, ints, low.y.from); to = omega (arith, ints, high.y.to) };
      z = record { from = omega (arith, ints, low.z.from); to = omega (arith, ints, high.z.to) };
    }

-- a region with points holds its own corners
upper_corner : (a : Region) → Inside a.low a → Inside a.high a
upper_corner a i =
    let x = i.x in
    let y = i.y in
    let z = i.z in
    record {
      x = record { from = omega (arith, ints); to = omega (arith, ints) };
      y = record { from = omega (arith, ints); to = omega (arith, ints) };
      z = record { from = omega (arith, ints); to = omega (arith, ints) };
    }

pub decides_encloses : (b a : Region) → Inside a.low a → Decides (encloses b a) (Within a b)
decides_encloses b a i =
    Decides-like _ (λ h. within_by_corners b a h.0 h.1) (λ h. (h a.low i, h a.high (upper_corner a i)))
    (Decides-and _ _ (decides_holds b a.low) (decides_holds b a.high))

pub same_point : (p q : Point) → p.x ≡ q.x → p.y ≡ q.y → p.z ≡ q.z → p ≡ q
same_point p q x y z = λ i. record { x = x i; y = y i; z = z i }
