-- The tests of the decision rule decide what can follow.
use Rattle.std.proofs.Common.{◌≡◌, ℕ, ◌<◌, ◌≤◌, Bool, true, false, T, ltb, leb, Some, Decides, sym, refl, ap, ◌∙◌, inl, inr, arith}
use Rattle.std.proofs.lemmas.Bool.Decides.{Decides-and, Decides-like, Decides-int_eq}
use Rattle.std.proofs.lemmas.Bool.{and_parts, and_from, and_cases, ltb-true, ltb-false, lt-ltb, le-leb, leb-true}
pub use Rattle.std.specs.Bool.{passes as true_T}
use Rattle.guard.specs.declared.reading.Reading.{Reading}
use Rattle.guard.specs.Bounded.{each, any}
use Rattle.guard.specs.Meaning.{Meaning, Laws, Follows, Numbers, lowest_charge}
use Rattle.guard.specs.Driven.{lowest}
use Rattle.guard.specs.Decision.{admissible, calm, same_numbers, state_follows, charge_follows, follows, Admits, Endangers, Calm}
use Rattle.guard.proofs.Bounded.{each_at, each_all, each_but, any_at, any_some}

pub T_true : (b : Bool) → T b → b ≡ true
T_true true t = refl
T_true false t = absurd t

-- what an action comes to under a gust, with the most charge drawn, can follow
pub lowest_follows : {S : Type 0} (m : Meaning S) (r : Reading S) (a w : ℕ) → a < m.actions → w < m.gusts → Follows m r a (lowest m r a w)
lowest_follows m r a w h k = record { action = h; gust = (w, k, refl); low = omega arith; high = omega arith }

same_numbers_Decides : (a b : Numbers) → Decides (same_numbers a b) (a ≡ b)
same_numbers_Decides a b =
    Decides-like _ (λ h i. (h.0.0 i, h.0.1 i, h.1 i)) (λ e. ((ap (λ n. n.0) e, ap (λ n. n.1) e), ap (λ n. n.2) e))
    (Decides-and _ _ (Decides-and _ _ (Decides-int_eq a.0 b.0) (Decides-int_eq a.1 b.1)) (Decides-int_eq a.2 b.2))

module _ {S : Type 0} (m : Meaning S) (laws : Laws m) where
  -- different states have different numbers
  pub named_apart : (s t : S) → m.numbers s ≡ m.numbers t → s ≡ t
  named_apart s t e =
      let a = laws.made_from_numbers s in
      let b = laws.made_from_numbers t in
      let c : Some s ≡ Some t = sym a ∙ ap m.made e ∙ b in
      cc

  -- more charge than the lowest does no harm
  recoverable_above : (r t : Reading S) (a w : ℕ) → T (m.recoverable (lowest m r a w)) → t.state ≡ m.after r.state a w → lowest_charge m r a ≤ t.charge → T (m.recoverable t)
  recoverable_above r t a w h e l = rw e (laws.charged (lowest m r a w) t.charge l h)

  pub decides_admissible : (r : Reading S) (a : ℕ) → Decides (admissible m r a) (Admits m r a)
  decides_admissible r a = (
    λ e.
        let p = and_parts (ltb a m.actions) (each m.gusts (λ w. m.recoverable (lowest m r a w))) e in
        record {
          action = ltb-true a m.actions p.0;
          kept = λ t f. recoverable_above r t a f.gust.0 (true_T _ (each_at m.gusts f.gust.0 (λ w. m.recoverable (lowest m r a w)) f.gust.1 p.1)) f.gust.2 f.low;
        },
    λ h. and_from _ _ (lt-ltb a m.actions h.action) (each_all m.gusts (λ w. m.recoverable (lowest m r a w)) (λ w k. T_true _ (h.kept (lowest m r a w) (lowest_follows m r a w h.action k)))),
  )

  pub endangers : (r : Reading S) (a : ℕ) → admissible m r a ≡ false → a < m.actions → Endangers m r a
  endangers r a e h =
      elim (and_cases (ltb a m.actions) (each m.gusts (λ w. m.recoverable (lowest m r a w))) e) [
        | inl p ↦ absurd (omega (arith, ltb-false a m.actions p))
        | inr p ↦ let s = each_but m.gusts (λ w. m.recoverable (lowest m r a w)) p in (lowest m r a s.0, lowest_follows m r a s.0 h s.1, s.2)
      ]

  pub decides_calm : (r : Reading S) → Decides (calm m r) (Calm m r)
  decides_calm r = (
    λ e a t f. ((decides_admissible r a).0 (each_at m.actions a (λ b. admissible m r b) f.action e)).kept t f,
    λ h. each_all m.actions (λ b. admissible m r b) (λ a k. (decides_admissible r a).1 (record { action = k; kept = h a })),
  )

  pub decides_follows : (r : Reading S) (a : ℕ) (t : Reading S) → Decides (follows m r a t) (Follows m r a t)
  decides_follows r a t =
      let f : ℕ → Bool = λ w. same_numbers (m.numbers (m.after r.state a w)) (m.numbers t.state) in (
        λ e.
            let p = and_parts (state_follows m r.state a t.state) (charge_follows m r a t.charge) e in
            let q = and_parts (ltb a m.actions) (any m.gusts f) p.0 in
            let c = and_parts (leb (lowest_charge m r a) t.charge) (leb t.charge r.charge) p.1 in
            let s = any_at m.gusts f q.1 in
            record {
              action = ltb-true a m.actions q.0;
              gust = (s.0, s.1, sym (named_apart _ t.state ((same_numbers_Decides _ _).0 s.2)));
              low = leb-true _ _ c.0;
              high = leb-true _ _ c.1;
            },
        λ h.
            let w = h.gust.0 in
            let e : f w ≡ true = rw (← h.gust.2) ((same_numbers_Decides (m.numbers t.state) (m.numbers t.state)).1 refl) in
            and_from _ _ (and_from _ _ (lt-ltb a m.actions h.action) (any_some m.gusts w f h.gust.1 e)) (and_from _ _ (le-leb _ _ h.low) (le-leb _ _ h.high)),
      )
