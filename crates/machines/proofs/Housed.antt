-- A bare machine in a hall: safe where its place lies in the hall, recoverable where its cover does.
-- What it shows of its covers gives the laws about recoverable readings, and exactness.
use Rattle.std.proofs.Common.{◌≡◌, ℕ, ◌<◌, T, ◌⊎◌, Decides, sym, subst, inl, inr}
use Rattle.std.proofs.lemmas.Bool.Decides.{Decides-at}
use Rattle.guard.specs.declared.geometry.Point.{Point}
use Rattle.guard.specs.declared.geometry.Region.{Region}
use Rattle.guard.specs.declared.reading.Reading.{Reading}
use Rattle.guard.specs.Regions.{Inside, Within, holds, encloses}
use Rattle.guard.specs.Meaning.{Meaning, FallsBack, with_charge}
use Rattle.guard.specs.Driven.{fallen_back}
use Rattle.guard.proofs.Regions.{decides_holds, decides_encloses}
use Rattle.guard.proofs.Decision.{T_true, true_T}
use Rattle.guard.proofs.Exactness.{Tight}

pub record Housed {S : Type 0} (m : Meaning S) (hall : Region) : Type 0 where
  pub safe_is : (r : Reading S) → m.safe r ≡ holds hall (m.place r.state)
  pub recoverable_is : (r : Reading S) → m.recoverable r ≡ encloses hall (m.cover r.state)
  -- a cover has points, the place among them, and at rest no other
  pub corner : (s : S) → Inside (m.cover s).low (m.cover s)
  pub placed : (s : S) → Inside (m.place s) (m.cover s)
  pub alone : (s : S) → m.ticks s ≡ 0 → (p : Point) → Inside p (m.cover s) → p ≡ m.place s
  -- the fallback shrinks the cover and comes nearer to rest, under every gust
  pub shrinks : (s : S) (w : ℕ) → w < m.gusts → Within (m.cover (m.after s (m.fallback s) w)) (m.cover s)
  pub falls : (s : S) (w : ℕ) → w < m.gusts → (m.ticks (m.after s (m.fallback s) w) < m.ticks s) ⊎ ((m.ticks s ≡ 0) × (m.ticks (m.after s (m.fallback s) w) ≡ 0))
  -- the cover is no larger than it has to be
  pub reached : (s : S) → Inside (m.place s) hall → ((w : ℕ) → w < m.gusts → Within (m.cover (m.after s (m.fallback s) w)) hall) → Within (m.cover s) hall

module _ {S : Type 0} (m : Meaning S) (hall : Region) (h : Housed m hall) where
  decides_safe : (r : Reading S) → Decides (m.safe r) (Inside (m.place r.state) hall)
  decides_safe r = Decides-at _ _ (h.safe_is r) (decides_holds hall (m.place r.state))

  decides_recoverable : (r : Reading S) → Decides (m.recoverable r) (Within (m.cover r.state) hall)
  decides_recoverable r = Decides-at _ _ (h.recoverable_is r) (decides_encloses hall (m.cover r.state) (h.corner r.state))

  within : (r : Reading S) → T (m.recoverable r) → Within (m.cover r.state) hall
  within r t = (decides_recoverable r).0 (T_true _ t)

  recovers : (r : Reading S) → Within (m.cover r.state) hall → T (m.recoverable r)
  recovers r i = true_T _ ((decides_recoverable r).1 i)

  pub safely : (r : Reading S) → T (m.recoverable r) → T (m.safe r)
  safely r t = true_T _ ((decides_safe r).1 (within r t (m.place r.state) (h.placed r.state)))

  pub covered : (r t : Reading S) → FallsBack m r t → Within (m.cover t.state) (m.cover r.state)
  covered r t f = let s = r.state in let g = f.gust in subst (λ (u : S). Within (m.cover u) (m.cover s)) (sym g.2) (h.shrinks s g.0 g.1)

  pub stays : (r t : Reading S) → T (m.recoverable r) → FallsBack m r t → T (m.recoverable t)
  stays r t k f = recovers t (λ p i. within r k p (covered r t f p i))

  pub sooner : (r t : Reading S) → FallsBack m r t → (m.ticks t.state < m.ticks r.state) ⊎ ((m.ticks r.state ≡ 0) × (m.ticks t.state ≡ 0))
  sooner r t f = let s = r.state in let g = f.gust in subst (λ (u : S). (m.ticks u < m.ticks s) ⊎ ((m.ticks s ≡ 0) × (m.ticks u ≡ 0))) (sym g.2) (h.falls s g.0 g.1)

  pub charged : (r : Reading S) (p : ℕ) → T (m.recoverable r) → T (m.recoverable (with_charge r p))
  charged r p k = recovers (with_charge r p) (within r k)

  pub tight : Tight m
  tight = record {
    falls = λ s w k. elim (h.falls s w k) [ inl l ↦ inl l | inr z ↦ inr z.0 ];
    at_rest = λ r z k. recovers r (λ p i. subst (λ (q : Point). Inside q hall) (sym (h.alone r.state z p i)) ((decides_safe r).0 (T_true _ k)));
    reached = λ r k e. recovers r (h.reached r.state ((decides_safe r).0 (T_true _ k)) (λ w l. within (fallen_back m r w) (e w l)));
  }
