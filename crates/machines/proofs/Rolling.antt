-- Braking along one axis, for any brake that takes at least a given amount off the speed's size in each tick.
use Rattle.std.proofs.Common.{◌≡◌, ℕ, zero, suc, ◌+◌, ◌-◌, ◌<◌, ◌≤◌, ℤ, pos, negsuc, ◌+ℤ◌, ◌-ℤ◌, neg_ℤ, nat_abs, ◌≤ℤ◌, sym, refl, subst, inl, inr, arith}
use Rattle.std.proofs.lemmas.Int.{ints, clamps}
use Rattle.std.proofs.lemmas.Bool.{cases_eq}
use Rattle.guard.specs.declared.geometry.Point.{Point}
use Rattle.guard.specs.declared.geometry.Region.{Region}
use Rattle.guard.specs.Regions.{Between, Inside, Within}
use Rattle.guard.proofs.Regions.{within_by_corners, same_point}
use Rattle.machines.specs.Held.{held}
use Rattle.machines.specs.Rolling.{on_axis, stretch, slowed, braking_cover}

-- what a brake takes off is the speed, held within what the brake can take off
pub slowed_held : (n : ℕ) (v : ℤ) → v -ℤ held n v ≡ slowed n v
slowed_held n (pos v) = omega (arith, ints, clamps)
slowed_held n (negsuc v) = omega (arith, ints, clamps)

pub slowed_size : (n : ℕ) (v : ℤ) → nat_abs (slowed n v) ≡ nat_abs v - n
slowed_size n (pos v) = refl
slowed_size n (negsuc v) = omega (arith, ints)

stretch_within : (a b c e : ℤ) → a ≤ℤ c → e ≤ℤ b → Within (stretch c e) (stretch a b)
stretch_within a b c e from to p i = let x = i.x in record { x = record { from = omega (arith, ints); to = omega (arith, ints) }; y = i.y; z = i.z }

zero_between : Between (pos 0) (pos 0) (pos 0)
zero_between = record { from = record { le = tt }; to = record { le = tt } }

low_corner : (a b : ℤ) → a ≤ℤ b → Inside (on_axis a) (stretch a b)
low_corner a b h = record { x = record { from = omega (arith, ints); to = h }; y = zero_between; z = zero_between }

high_corner : (a b : ℤ) → a ≤ℤ b → Inside (on_axis b) (stretch a b)
high_corner a b h = record { x = record { from = h; to = omega (arith, ints) }; y = zero_between; z = zero_between }

-- d has the braking distances for speed sizes up to top, of a brake that takes at least n off
pub record Braking (n top : ℕ) (d : ℕ → ℕ) : Type 0 where
  pub some : 0 < n
  pub still : d 0 ≡ 0
  pub step : (u : ℕ) → u ≤ top → d u ≡ (u - n) + d (u - n)

module _ {n top : ℕ} (d : ℕ → ℕ) (b : Braking n top d) where
  monotone : (fuel a u : ℕ) → u ≤ fuel → a ≤ u → u ≤ top → d a ≤ d u
  monotone zero a u f h t = let e : a ≡ u = omega arith in subst (λ (k : ℕ). d a ≤ d k) e (omega arith)
  monotone (suc fuel) a u f h t =
      let p = b.some in
      let s = b.step a (omega arith) in
      let r = b.step u t in
      elim (cases_eq u 0) [
        | inl z ↦ let e : a ≡ u = omega arith in subst (λ (k : ℕ). d a ≤ d k) e (omega arith)
        | inr l ↦ let i = monotone fuel (a - n) (u - n) (omega arith) (omega arith) (omega arith) in omega arith
      ]

  -- whatever the brake takes off, the machine rolls no farther than the braking distance
  pub rolls : (k u : ℕ) → n ≤ k → u ≤ top → (u - k) + d (u - k) ≤ d u
  rolls k u h t =
      let i = monotone (u - n) (u - k) (u - n) (omega arith) (omega arith) (omega arith) in
      let s = b.step u t in
      omega arith

  cover_backward : (x : ℤ) (k : ℕ) → braking_cover d x (neg_ℤ (pos k)) ≡ stretch (x -ℤ pos (d k)) x
  cover_backward x zero =
      let z = b.still in
      let low : x ≡ x -ℤ pos (d 0) = omega (arith, ints) in
      let high : x +ℤ pos (d 0) ≡ x = omega (arith, ints) in
      λ i. stretch (low i) (high i)
  cover_backward x (suc k) = refl

  forward_shrinks : (x y : ℤ) (u k : ℕ) → u ≤ top → n ≤ k → x ≤ℤ y → y ≤ℤ (x +ℤ pos (u - k)) → Within (stretch y (y +ℤ pos (d (u - k)))) (stretch x (x +ℤ pos (d u)))
  forward_shrinks x y u k t h from to = let r = rolls k u h t in stretch_within _ _ _ _ from (omega (arith, ints))

  backward_shrinks : (x y : ℤ) (u k : ℕ) → u ≤ top → n ≤ k → y ≤ℤ x → (x -ℤ pos (u - k)) ≤ℤ y → Within (stretch (y -ℤ pos (d (u - k))) y) (stretch (x -ℤ pos (d u)) x)
  backward_shrinks x y u k t h from to = let r = rolls k u h t in stretch_within _ _ _ _ (omega (arith, ints)) from

  -- a tick of the brake that takes k off stays within the braking cover, also where the place is held within −m to m
  pub brake_shrinks : (m : ℕ) (x v : ℤ) (k : ℕ) → nat_abs x ≤ m → nat_abs v ≤ top → n ≤ k → Within (braking_cover d (held m (x +ℤ slowed k v)) (slowed k v)) (braking_cover d x v)
  brake_shrinks m x (pos u) k r t h = forward_shrinks x _ u k t h (omega (arith, ints, clamps)) (omega (arith, ints, clamps))
  brake_shrinks m x (negsuc u) k r t h =
      let y = held m (x +ℤ neg_ℤ (pos (suc u - k))) in
      subst (λ (c : Region). Within c (braking_cover d x (negsuc u))) (sym (cover_backward y (suc u - k)))
      (backward_shrinks x y (suc u) k t h (omega (arith, ints, clamps)) (omega (arith, ints, clamps)))

  pub cover_corner : (x v : ℤ) → Inside (braking_cover d x v).low (braking_cover d x v)
  cover_corner x (pos u) = low_corner _ _ (omega (arith, ints))
  cover_corner x (negsuc u) = low_corner _ _ (omega (arith, ints))

  pub cover_place : (x v : ℤ) → Inside (on_axis x) (braking_cover d x v)
  cover_place x (pos u) = low_corner _ _ (omega (arith, ints))
  cover_place x (negsuc u) = high_corner _ _ (omega (arith, ints))

  -- at rest the cover is the place alone
  pub cover_alone : (x v : ℤ) → nat_abs v ≡ 0 → (p : Point) → Inside p (braking_cover d x v) → p ≡ on_axis x
  cover_alone x (pos u) e p i =
      let z = b.still in
      let f : d u ≡ 0 = subst (λ (k : ℕ). d k ≡ 0) (sym e) z in
      let a = i.x in
      let c = i.y in
      let g = i.z in
      same_point p (on_axis x) (omega (arith, ints)) (omega (arith, ints)) (omega (arith, ints))
  cover_alone x (negsuc u) e p i = absurd (omega arith)

  -- the brake that takes n off, as little as can be, reaches the cover's far end
  pub brake_reaches : (hall : Region) (x v : ℤ) → nat_abs v ≤ top → Inside (on_axis x) hall → Within (braking_cover d (x +ℤ slowed n v) (slowed n v)) hall → Within (braking_cover d x v) hall
  brake_reaches hall x (pos u) t i w =
      let s = b.step u t in
      let j = w _ (high_corner (x +ℤ pos (u - n)) ((x +ℤ pos (u - n)) +ℤ pos (d (u - n))) (omega (arith, ints))) in
      let e : x +ℤ pos (d u) ≡ (x +ℤ pos (u - n)) +ℤ pos (d (u - n)) = omega (arith, ints) in
      within_by_corners hall _ i (subst (λ (z : ℤ). Inside (on_axis z) hall) (sym e) j)
  brake_reaches hall x (negsuc u) t i w =
      let s = b.step (suc u) t in
      let y = x +ℤ neg_ℤ (pos (suc u - n)) in
      let c = subst (λ (c : Region). Within c hall) (cover_backward y (suc u - n)) w in
      let j = c _ (low_corner (y -ℤ pos (d (suc u - n))) y (omega (arith, ints))) in
      let e : x -ℤ pos (d (suc u)) ≡ y -ℤ pos (d (suc u - n)) = omega (arith, ints) in
      within_by_corners hall _ (subst (λ (z : ℤ). Inside (on_axis z) hall) (sym e) j) i
