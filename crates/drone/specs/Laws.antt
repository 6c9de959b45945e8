-- The drone keeps the laws of a guard, and is recoverable exactly where it withstands every list of gusts.
use Rattle.std.specs.Prelude.{◌≡◌, ℕ, ◌-◌, ◌<◌, ◌≤◌, min, true, ◌&&◌, ◌⊎◌, ℤ, pos, negsuc, ◌+ℤ◌, ◌-ℤ◌, ◌≤ℤ◌, Some, ◌==◌, ◌≢◌, int_le, nat_le, nat_lt, unsigned_abs, refl}
use Rattle.std.proofs.Common.{sym, ap, subst, ◌∙◌, inl, inr, arith, lit<, lit≤}
use Rattle.std.proofs.lemmas.Int.{ints, clamps}
use Rattle.std.proofs.lemmas.Bool.{cases_eq, cond-true, cond-false, lt-ltb, le-ltb, le-leb, leb-true, eq-eqb, ne_eqb, and_from, and_left, and_right, and_parts}
use Rattle.std.proofs.lemmas.Bool.Decides.{nat_tests}
use Rattle.guard.specs.declared.geometry.Point.{Point}
use Rattle.guard.specs.Regions.{Inside, Within}
use Rattle.guard.specs.Meaning.{Laws, Numbers}
use Rattle.guard.specs.Driven.{Exact}
use Rattle.guard.proofs.Regions.{within_by_corners, same_point}
use Rattle.guard.proofs.Exactness.{exact}
use Rattle.drone.specs.declared.state.DroneState.{DroneState}
use Rattle.machines.specs.Held.{held}
use Rattle.drone.specs.HallSize.{fits}
use Rattle.drone.specs.States.{cell_at, flown, after, numbers, made}
use Rattle.drone.specs.Meaning.{place, cover, hall, drone}
use Rattle.machines.proofs.Held.{held_still}
use Rattle.drone.specs.StatesLemmas.{same_cell}
use Rattle.machines.proofs.Made.{made_where}
use Rattle.machines.proofs.Housed as housed
use Rattle.machines.proofs.Housed.{Housed}

-- a tick of the descent
module _ (s : DroneState) (w : ℕ) (h : w < 9) where
  grounded : s.z ≡ 0 → after s 6 w ≡ s
  grounded e = cond-true (nat_lt w 9) _ s (lt-ltb w 9 h) ∙ cond-true (s.z == 0) s (flown s 6 w) (eq-eqb s.z 0 e)

  descent : (s.z ≢ 0) → after s 6 w ≡ flown s 6 w
  descent ne = cond-true (nat_lt w 9) _ s (lt-ltb w 9 h) ∙ cond-false (s.z == 0) s (flown s 6 w) (ne_eqb s.z 0 ne)

  -- a gust pushes a descending drone no farther to the side than it has come down
  flown_shrinks : (s.z ≢ 0) → Within (cover (flown s 6 w)) (cover s)
  flown_shrinks ne p i =
      let x = i.x in
      let y = i.y in
      let z = i.z in
      record {
        x = record { from = omega (arith, ints, clamps, s.near); to = omega (arith, ints, clamps, s.near) };
        y = record { from = omega (arith, ints, clamps, s.close); to = omega (arith, ints, clamps, s.close) };
        z = record { from = i.z.from; to = omega (arith, ints) };
      }

cover_corner : (s : DroneState) → Inside (cover s).low (cover s)
cover_corner s = record {
  x = record { from = omega (arith, ints); to = omega (arith, ints) };
  y = record { from = omega (arith, ints); to = omega (arith, ints) };
  z = record { from = omega (arith, ints); to = omega (arith, ints) };
}

cover_top : (s : DroneState) → Inside (cover s).high (cover s)
cover_top s = record {
  x = record { from = omega (arith, ints); to = omega (arith, ints) };
  y = record { from = omega (arith, ints); to = omega (arith, ints) };
  z = record { from = omega (arith, ints); to = omega (arith, ints) };
}

cover_place : (s : DroneState) → Inside (place s) (cover s)
cover_place s = record {
  x = record { from = omega (arith, ints); to = omega (arith, ints) };
  y = record { from = omega (arith, ints); to = omega (arith, ints) };
  z = record { from = omega (arith, ints); to = omega (arith, ints) };
}

cover_alone : (s : DroneState) → s.z ≡ 0 → (p : Point) → Inside p (cover s) → p ≡ place s
cover_alone s e p i =
    let x = i.x in
    let y = i.y in
    let z = i.z in
    same_point p (place s) (omega (arith, ints)) (omega (arith, ints)) (omega (arith, ints))

shrinks : (s : DroneState) (w : ℕ) → w < 9 → Within (cover (after s 6 w)) (cover s)
shrinks s w h =
    elim (cases_eq s.z 0) [
      | inl e ↦ subst (λ (t : DroneState). Within (cover t) (cover s)) (sym (grounded s w h e)) (λ p i. i)
      | inr ne ↦ subst (λ (t : DroneState). Within (cover t) (cover s)) (sym (descent s w h ne)) (flown_shrinks s w h ne)
    ]

falls : (s : DroneState) (w : ℕ) → w < 9 → ((after s 6 w).z < s.z) ⊎ ((s.z ≡ 0) × ((after s 6 w).z ≡ 0))
falls s w h =
    elim (cases_eq s.z 0) [
      | inl e ↦ inr (e, ap (λ (t : DroneState). t.z) (grounded s w h e) ∙ e)
      | inr ne ↦ inl (let d = ap (λ (t : DroneState). t.z) (descent s w h ne) in omega arith)
    ]

-- the hall's sizes, as orders
pub record Sized (size : Numbers) : Type 0 where
  pub x : size.0 ≤ℤ pos 63
  pub y : size.1 ≤ℤ pos 63

pub fits_below : (n : ℤ) → fits n ≡ true → n ≤ℤ pos 63
unfolding fits
fits_below n e = let p = and_parts (int_le (pos 1) n) (int_le n (pos 63)) e in grind (arith, ints)

-- along one axis of a hall well within the range of cells, a push down and a push up lead to the cover's ends
module _ (c end : ℤ) (z : ℕ) (above : z ≡ 0 → ⊥) (range : z ≤ 1000) (from : pos 0 ≤ℤ c) (to : c ≤ℤ end) (small : end ≤ℤ pos 63) where
  low_end : pos 0 ≤ℤ (held 1000 ((c +ℤ pos 0) +ℤ negsuc 0) -ℤ pos (min (z - 1) 1000)) → pos 0 ≤ℤ (c -ℤ pos z)
  low_end h = omega (arith, ints, clamps)

  high_end : (held 1000 ((c +ℤ pos 0) +ℤ pos 1) +ℤ pos (min (z - 1) 1000)) ≤ℤ end → (c +ℤ pos z) ≤ℤ end
  high_end h = omega (arith, ints, clamps)

-- so the gusts 0 and 8 lead to the cover's corners
flown_reaches : (size : Numbers) → Sized size → (s : DroneState) → (s.z ≢ 0) → Inside (place s) (hall size) → Within (cover (flown s 6 0)) (hall size) → Within (cover (flown s 6 8)) (hall size) → Within (cover s) (hall size)
flown_reaches size small s ne i low high =
    let px = i.x in
    let py = i.y in
    let pz = i.z in
    let l = low _ (cover_corner (flown s 6 0)) in
    let t = high _ (cover_top (flown s 6 8)) in
    within_by_corners (hall size) (cover s)
    (record {
      x = record { from = low_end s.x size.0 s.z ne s.low px.from px.to small.x l.x.from; to = omega (arith, ints) };
      y = record { from = low_end s.y size.1 s.z ne s.low py.from py.to small.y l.y.from; to = omega (arith, ints) };
      z = record { from = omega (arith, ints); to = omega (arith, ints) };
    })
    (record {
      x = record { from = omega (arith, ints); to = high_end s.x size.0 s.z ne s.low px.from px.to small.x t.x.to };
      y = record { from = omega (arith, ints); to = high_end s.y size.1 s.z ne s.low py.from py.to small.y t.y.to };
      z = pz;
    })

reaches : (size : Numbers) → Sized size → (s : DroneState) → Inside (place s) (hall size) → ((w : ℕ) → w < 9 → Within (cover (after s 6 w)) (hall size)) → Within (cover s) (hall size)
reaches size small s i e =
    elim (cases_eq s.z 0) [
      | inl z ↦ subst (λ (t : DroneState). Within (cover t) (hall size)) (grounded s 0 (lit< tt) z) (e 0 (lit< tt))
      | inr ne ↦ flown_reaches size small s ne i
          (subst (λ (t : DroneState). Within (cover t) (hall size)) (descent s 0 (lit< tt) ne) (e 0 (lit< tt)))
          (subst (λ (t : DroneState). Within (cover t) (hall size)) (descent s 8 (lit< tt) ne) (e 8 (lit< tt)))
    ]

drone_housed : (size : Numbers) → Sized size → Housed (drone size) (hall size)
drone_housed size small = record {
  safe_is = λ r. refl;
  recoverable_is = λ r. refl;
  corner = cover_corner;
  placed = cover_place;
  alone = cover_alone;
  shrinks = shrinks;
  falls = falls;
  reached = reaches size small;
}

made_again : (s : DroneState) → made (numbers s) ≡ Some s
made_again s =
    let e : ((nat_le (unsigned_abs s.x) 1000 && nat_le (unsigned_abs s.y) 1000) && (int_le (pos 0) (pos s.z) && int_le (pos s.z) (pos 1000))) ≡ true =
    and_from _ _ (and_from _ _ (le-leb _ _ s.near) (le-leb _ _ s.close)) (and_from _ _ (le-leb 0 s.z (omega arith)) (le-leb _ _ s.low)) in
    cond-true _ _ _ e ∙ ap Some (same_cell (cell_at s.x s.y s.z) s (held_still 1000 s.x s.near) (held_still 1000 s.y s.close) (omega (arith, s.low)))

numbers_again : (n : Numbers) (s : DroneState) → made n ≡ Some s → numbers s ≡ n
numbers_again n s e =
    let m = made_where _ (cell_at n.0 n.1 (unsigned_abs n.2)) s e in
    let p = and_parts _ _ m.0 in
    let q = and_parts _ _ p.0 in
    let r = and_parts _ _ p.1 in
    let x : s.x ≡ n.0 = sym (ap (λ (t : DroneState). t.x) m.1) ∙ held_still 1000 n.0 (leb-true _ _ q.0) in
    let y : s.y ≡ n.1 = sym (ap (λ (t : DroneState). t.y) m.1) ∙ held_still 1000 n.1 (leb-true _ _ q.1) in
    let d : min (unsigned_abs n.2) 1000 ≡ s.z = ap (λ (t : DroneState). t.z) m.1 in
    let low : int_le (pos 0) n.2 ≡ true = r.0 in
    let high : int_le n.2 (pos 1000) ≡ true = r.1 in
    let z : pos s.z ≡ n.2 = omega (arith, ints) in
    λ i. (x i, y i, z i)

pub drone_laws : (size : Numbers) → Sized size → Laws (drone size)
drone_laws size small =
    let m = drone size in
    let h = drone_housed size small in
    record {
      actions_range = (lit≤ tt, lit≤ tt);
      gusts_range = (lit≤ tt, lit≤ tt);
      draw_range = λ s a. grind (arith, nat_tests);
      ticks_range = λ s. s.low;
      fallback_draw_range = lit≤ tt;
      no_action = λ s a w k. cond-false _ _ s (and_left _ _ (le-ltb a 7 k));
      no_gust = λ s a w k. cond-false _ _ s (and_right _ _ (le-ltb w 9 k));
      no_draw = λ s a k. grind (arith, nat_tests);
      safely = housed.safely m (hall size) h;
      stays = housed.stays m (hall size) h;
      sooner = λ r t k f. housed.sooner m (hall size) h r t f;
      covered = λ r t k f. housed.covered m (hall size) h r t f;
      placed = λ r k. cover_place r.state;
      cheap = λ r k. grind (arith, nat_tests);
      free_at_rest = λ r k z. grind (arith, nat_tests);
      charged = λ r p l k. housed.charged m (hall size) h r p k;
      fallback_known = λ s. lit< tt;
      made_from_numbers = made_again;
      numbers_of_made = numbers_again;
    }

pub drone_exact : (size : Numbers) → Sized size → Exact (drone size)
drone_exact size small = exact (drone size) (drone_laws size small) (housed.tight (drone size) (hall size) (drone_housed size small))
