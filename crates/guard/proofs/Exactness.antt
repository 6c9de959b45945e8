-- Where recoverable says exactly that no list of gusts drives a machine under its fallback into an unsafe reading.
use Rattle.std.proofs.Common.{◌≡◌, ℕ, zero, suc, ◌<◌, ◌≤◌, T, ◌⊎◌, [], ◌∷◌, inl, inr, arith}
use Rattle.std.proofs.lemmas.Bool.{cases_eq}
use Rattle.guard.specs.declared.reading.Reading.{Reading}
use Rattle.guard.specs.Meaning.{Meaning, Laws, FallsBack}
use Rattle.guard.proofs.Decision.{T_true, true_T, lowest_follows}
use Rattle.guard.specs.Driven.{fallen_back, Withstands, Exact}

module _ {S : Type 0} (m : Meaning S) (laws : Laws m) where
  falls_back : (r : Reading S) (w : ℕ) → w < m.gusts → FallsBack m r (fallen_back m r w)
  falls_back r w h = lowest_follows m r (m.fallback r.state) w (laws.fallback_known r.state) h

  pub recoverable_withstands : (r : Reading S) → T (m.recoverable r) → Withstands m r
  recoverable_withstands r h [] a = laws.safely r h
  recoverable_withstands r h (w ∷ ws) a =
      let t = fallen_back m r w in
      recoverable_withstands t (laws.stays r t h (falls_back r w a.0)) ws a.1

-- What a machine shows of one tick, from which its exactness follows: the fallback comes nearer to rest from every state,
-- and a safe reading is recoverable at rest, and wherever each gust leads from it to a recoverable one.
pub record Tight {S : Type 0} (m : Meaning S) : Type 0 where
  pub falls : (s : S) (w : ℕ) → w < m.gusts → (m.ticks (m.after s (m.fallback s) w) < m.ticks s) ⊎ (m.ticks s ≡ 0)
  pub at_rest : (r : Reading S) → m.ticks r.state ≡ 0 → T (m.safe r) → T (m.recoverable r)
  pub reached : (r : Reading S) → T (m.safe r) → ((w : ℕ) → w < m.gusts → T (m.recoverable (fallen_back m r w))) → T (m.recoverable r)

module _ {S : Type 0} (m : Meaning S) (tight : Tight m) where
  fewer : (n : ℕ) (r : Reading S) → m.ticks r.state ≤ suc n → (m.ticks r.state ≡ 0 → ⊥) → (w : ℕ) → w < m.gusts → m.ticks (fallen_back m r w).state ≤ n
  fewer n r h some w k = elim (tight.falls r.state w k) [ inl l ↦ omega arith | inr z ↦ absurd (some z) ]

  within_ticks : (n : ℕ) (r : Reading S) → m.ticks r.state ≤ n → Withstands m r → T (m.recoverable r)
  within_ticks zero r h e = tight.at_rest r (omega arith) (e [] tt)
  within_ticks (suc n) r h e =
      elim (cases_eq (m.ticks r.state) 0) [
        | inl z ↦ tight.at_rest r z (e [] tt)
        | inr some ↦ tight.reached r (e [] tt) (λ w k. within_ticks n (fallen_back m r w) (fewer n r h some w k) (λ ws a. e (w ∷ ws) (k, a)))
      ]

pub exact : {S : Type 0} (m : Meaning S) → Laws m → Tight m → Exact m
exact m laws tight r =
    (λ e. recoverable_withstands m laws r (true_T (m.recoverable r) e), λ h. T_true (m.recoverable r) (within_ticks m tight (m.ticks r.state) r (omega arith) h))
