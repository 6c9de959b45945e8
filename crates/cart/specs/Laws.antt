-- The cart keeps the laws of a guard, and is recoverable exactly where it withstands every list of gusts.
use Rattle.std.specs.Prelude.{◌≡◌, ℕ, ◌+◌, ◌-◌, ◌<◌, ◌≤◌, true, ◌&&◌, ◌⊎◌, ℤ, pos, ◌+ℤ◌, ◌≤ℤ◌, Some, nat_le, nat_lt, unsigned_abs, refl}
use Rattle.std.proofs.Common.{sym, ap, subst, ◌∙◌, inl, inr, arith, lit<, lit≤}
use Rattle.std.proofs.lemmas.Int.{ints}
use Rattle.std.proofs.lemmas.Bool.{cases_eq, cond-true, cond-false, cond_both, lt-ltb, le-ltb, ltb-true, le-leb, leb-true, eqb-true, and_from, and_left, and_right, and_parts}
use Rattle.std.proofs.lemmas.Bool.Decides.{nat_tests}
use Rattle.guard.specs.declared.geometry.Region.{Region}
use Rattle.guard.specs.Regions.{Inside, Within}
use Rattle.guard.specs.Meaning.{Laws, Numbers}
use Rattle.guard.specs.Driven.{Exact}
use Rattle.guard.proofs.Exactness.{exact}
use Rattle.cart.specs.declared.state.CartState.{CartState}
use Rattle.machines.specs.Held.{held}
use Rattle.machines.specs.Rolling.{on_axis, stretch, slowed, braking_cover}
use Rattle.cart.specs.BrakingDistance.{distance}
use Rattle.cart.specs.States.{state_at, after, moved, draw, ticks, numbers, made}
use Rattle.cart.specs.Meaning.{cart}
use Rattle.machines.proofs.Held.{held_still}
use Rattle.machines.proofs.Rolling.{Braking, slowed_size, brake_shrinks, cover_corner, cover_place, cover_alone, brake_reaches}
use Rattle.cart.specs.BrakingDistanceLemmas.{distance_step}
use Rattle.cart.specs.StatesLemmas.{same_state}
use Rattle.machines.proofs.Made.{made_where}
use Rattle.machines.proofs.Housed as housed
use Rattle.machines.proofs.Housed.{Housed}

braking : Braking 2 40 distance
braking = record { some = lit< tt; still = refl; step = λ u h. distance_step u (omega arith) }

-- a tick of the brake, by its numbers
module _ (s : CartState) (w : ℕ) (h : w < 3) where
  brake : after s 7 w ≡ moved s (slowed (2 + w) s.v)
  brake = cond-true (nat_lt w 3) (moved s (slowed (2 + w) s.v)) s (lt-ltb w 3 h)

  brake_x : (after s 7 w).x ≡ held 1000000 (s.x +ℤ slowed (2 + w) s.v)
  brake_x = ap (λ (t : CartState). t.x) brake

  brake_v : (after s 7 w).v ≡ slowed (2 + w) s.v
  brake_v = ap (λ (t : CartState). t.v) brake ∙ held_still 40 _ (omega (arith, slowed_size (2 + w) s.v, s.slow))

  brake_cover : braking_cover distance (after s 7 w).x (after s 7 w).v ≡ braking_cover distance (held 1000000 (s.x +ℤ slowed (2 + w) s.v)) (slowed (2 + w) s.v)
  brake_cover = λ i. braking_cover distance (brake_x i) (brake_v i)

  brake_ticks : (ticks (after s 7 w) < ticks s) ⊎ ((ticks s ≡ 0) × (ticks (after s 7 w) ≡ 0))
  brake_ticks =
      let e : unsigned_abs (after s 7 w).v ≡ unsigned_abs s.v - (2 + w) = ap unsigned_abs brake_v ∙ slowed_size (2 + w) s.v in
      elim (cases_eq (unsigned_abs s.v) 0) [ inl z ↦ inr (omega arith, omega arith) | inr some ↦ inl (omega arith) ]

-- on a rail that ends well within the range of places, the gust that takes the least off leads to the cover's far end
reaches : (length : ℤ) → length ≤ℤ pos 100000 → (s : CartState) → Inside (on_axis s.x) (stretch (pos 0) length) → Within (braking_cover distance (after s 7 0).x (after s 7 0).v) (stretch (pos 0) length) → Within (braking_cover distance s.x s.v) (stretch (pos 0) length)
reaches length short s i w =
    let hall = stretch (pos 0) length in
    let on-rail = i.x in
    let small = slowed_size 2 s.v in
    let free : held 1000000 (s.x +ℤ slowed 2 s.v) ≡ s.x +ℤ slowed 2 s.v = held_still 1000000 _ (omega (arith, ints, s.slow)) in
    let e : braking_cover distance (after s 7 0).x (after s 7 0).v ≡ braking_cover distance (s.x +ℤ slowed 2 s.v) (slowed 2 s.v) = brake_cover s 0 (lit< tt) ∙ ap (λ (x : ℤ). braking_cover distance x (slowed 2 s.v)) free in
    brake_reaches distance braking hall s.x s.v s.slow i (subst (λ (c : Region). Within c hall) e w)

cart_housed : (length : ℤ) → length ≤ℤ pos 100000 → Housed (cart length) (stretch (pos 0) length)
cart_housed length short = record {
  safe_is = λ r. refl;
  recoverable_is = λ r. refl;
  corner = λ s. cover_corner distance braking s.x s.v;
  placed = λ s. cover_place distance braking s.x s.v;
  alone = λ s z. cover_alone distance braking s.x s.v (omega arith);
  shrinks = λ s w h. rw (brake_cover s w h) (brake_shrinks distance braking 1000000 s.x s.v (2 + w) s.near s.slow (omega arith));
  falls = brake_ticks;
  reached = λ s i e. reaches length short s i (e 0 (lit< tt));
}

draws_little : (s : CartState) (a : ℕ) → draw s a ≤ 1000
draws_little s a = cond_both (nat_lt a 7) _ _ (λ n. n ≤ 1000) (λ e. omega (arith, ints, ltb-true a 7 e)) (λ e. grind (arith, nat_tests))

no_draw : (s : CartState) (a : ℕ) → 8 ≤ a → draw s a ≡ 0
no_draw s a h = grind (arith, nat_tests)

made_again : (s : CartState) → made (numbers s) ≡ Some s
made_again s =
    let e : ((nat_le (unsigned_abs s.x) 1000000 && nat_le (unsigned_abs s.v) 40) && true) ≡ true = and_from _ _ (and_from _ _ (le-leb _ _ s.near) (le-leb _ _ s.slow)) refl in
    cond-true _ _ _ e ∙ ap Some (same_state (state_at s.x s.v) s (held_still 1000000 s.x s.near) (held_still 40 s.v s.slow))

numbers_again : (n : Numbers) (s : CartState) → made n ≡ Some s → numbers s ≡ n
numbers_again n s e =
    let m = made_where _ (state_at n.0 n.1) s e in
    let p = and_parts _ _ m.0 in
    let q = and_parts _ _ p.0 in
    let x : s.x ≡ n.0 = sym (ap (λ (t : CartState). t.x) m.1) ∙ held_still 1000000 n.0 (leb-true _ _ q.0) in
    let v : s.v ≡ n.1 = sym (ap (λ (t : CartState). t.v) m.1) ∙ held_still 40 n.1 (leb-true _ _ q.1) in
    let z : pos 0 ≡ n.2 = omega (arith, ints, eqb-true _ _ p.1) in
    λ i. (x i, v i, z i)

pub cart_laws : (length : ℤ) → length ≤ℤ pos 100000 → Laws (cart length)
cart_laws length short =
    let m = cart length in
    let hall = stretch (pos 0) length in
    let h = cart_housed length short in
    record {
      actions_range = (lit≤ tt, lit≤ tt);
      gusts_range = (lit≤ tt, lit≤ tt);
      draw_range = draws_little;
      ticks_range = λ s. omega (arith, s.slow);
      fallback_draw_range = lit≤ tt;
      no_action = λ s a w k. cond-false _ _ s (and_left _ _ (le-ltb a 8 k));
      no_gust = λ s a w k. cond-false _ _ s (and_right _ _ (le-ltb w 3 k));
      no_draw = no_draw;
      safely = housed.safely m hall h;
      stays = housed.stays m hall h;
      sooner = λ r t k f. housed.sooner m hall h r t f;
      covered = λ r t k f. housed.covered m hall h r t f;
      placed = λ r k. h.placed r.state;
      cheap = λ r k. grind (arith, nat_tests);
      free_at_rest = λ r k z. grind (arith, nat_tests);
      charged = λ r p l k. housed.charged m hall h r p k;
      fallback_known = λ s. lit< tt;
      made_from_numbers = made_again;
      numbers_of_made = numbers_again;
    }

pub cart_exact : (length : ℤ) → length ≤ℤ pos 100000 → Exact (cart length)
cart_exact length short = exact (cart length) (cart_laws length short) (housed.tight (cart length) (stretch (pos 0) length) (cart_housed length short))
