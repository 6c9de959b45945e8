-- What a due answer tells of the history before it, by kinds of calls.
use Rattle.std.proofs.Common.{◌≡◌, ℕ, ◌<◌, ◌≤◌, Bool, true, false, cond, ◌&&◌, ltb, ◌⊎◌, Some, None, Option, refl, ap, ◌∙◌, inl, inr}
use Rattle.std.proofs.lemmas.Bool.{cond_both, ltb-true, ltb-false}
use Rattle.guard.specs.declared.reading.Reading.{Reading}
use Rattle.guard.specs.Meaning.{Meaning}
use Rattle.guard.specs.Decision.{admissible, calm, state_follows, charge_follows}
use Rattle.history.specs.History.{History, Stage, parked, ready, granted, moving, closed, stage, last, tick, planner, grant, given, spent, won, lost}
use Rattle.history.proofs.Tickets.{same_ticket_Decides}
use Rattle.history.specs.Due.{has_place, choice, same_ticket, due}
use Rattle.history.specs.declared.calls.Ticket.{Ticket}
use Rattle.history.specs.declared.calls.Call.{Call}
use Rattle.history.specs.declared.calls.Call.TheVariants.{Begin, Decide, Spend, Observe, Close}
use Rattle.history.specs.declared.calls.Answer.{Answer}
use Rattle.history.specs.declared.calls.Answer.TheVariants.{Accepted, Granted, Spent, Ended, Refused}
use Rattle.history.specs.declared.calls.CallRefusal.{CallRefusal}
use Rattle.history.specs.declared.calls.CallRefusal.TheVariants.{WrongPhase, NotRecoverable, OtherGrant, StateCannotFollow, ChargeCannotFollow, MissionOver}

-- why an action is granted for the proposal b at the reading r, by who has control
pub data Chosen {S : Type 0} (m : Meaning S) (r : Reading S) (b : ℕ) : Bool → ℕ → ℕ → Type 0 where
  approved : b < m.actions → admissible m r b ≡ true → Chosen m r b true b 0
  unknown : m.actions ≤ b → Chosen m r b true (m.fallback r.state) 1
  rejected : b < m.actions → admissible m r b ≡ false → Chosen m r b true (m.fallback r.state) 2
  gained : b < m.actions → calm m r ≡ true → Chosen m r b false b 3
  waited : (m.actions ≤ b) ⊎ (calm m r ≡ false) → Chosen m r b false (m.fallback r.state) 0

abbrev pub is_over : CallRefusal → Bool
is_over WrongPhase = false
is_over NotRecoverable = false
is_over OtherGrant = false
is_over StateCannotFollow = false
is_over ChargeCannotFollow = false
is_over MissionOver = true

pub data Told {S : Type 0} (m : Meaning S) (mission : ℕ) (h : History S) : Call S → Answer → Type 0 where
  turned : {c : Call S} {x : CallRefusal} → (is_over x ≡ true → 1000000 ≤ tick h) → Told m mission h c (Refused x)
  begun : {r : Reading S} → stage h ≡ parked → m.recoverable r ≡ true → Told m mission h (Begin r) Accepted
  decided : {b : ℕ} {t : Ticket} (r : Reading S) → stage h ≡ ready → last h ≡ Some r → t.mission ≡ mission → t.tick ≡ tick h → tick h < 1000000 → Chosen m r b (planner h) t.action t.reason → Told m mission h (Decide b) (Granted t)
  done : {p : Ticket} {a : ℕ} → stage h ≡ granted → grant h ≡ Some p → a ≡ p.action → Told m mission h (Spend p) (Spent a)
  observed : {t : Reading S} (r : Reading S) (g : Ticket) → stage h ≡ moving → last h ≡ Some r → grant h ≡ Some g → state_follows m r.state g.action t.state ≡ true → charge_follows m r g.action t.charge ≡ true → Told m mission h (Observe t) Accepted
  ended : (stage h ≡ ready) ⊎ (stage h ≡ moving) → Told m mission h Close (Ended (record { tick = tick h; given = given h; spent = spent h; gains = won h; losses = lost h }))

module _ {S : Type 0} (m : Meaning S) where
  chosen_by_planner : (r : Reading S) (b : ℕ) (k f : Bool) → ltb b m.actions ≡ k → admissible m r b ≡ f → let y : ℕ × ℕ = cond k (cond f (b, 0) (m.fallback r.state, 2)) (m.fallback r.state, 1) in Chosen m r b true y.0 y.1
  chosen_by_planner r b true true e d = approved (ltb-true _ _ e) d
  chosen_by_planner r b true false e d = rejected (ltb-true _ _ e) d
  chosen_by_planner r b false f e d = unknown (ltb-false _ _ e)

  chosen_by_keeper : (r : Reading S) (b : ℕ) (k f : Bool) → ltb b m.actions ≡ k → calm m r ≡ f → let y : ℕ × ℕ = cond (k && f) (b, 3) (m.fallback r.state, 0) in Chosen m r b false y.0 y.1
  chosen_by_keeper r b true true e d = gained (ltb-true _ _ e) d
  chosen_by_keeper r b true false e d = waited (inr d)
  chosen_by_keeper r b false f e d = waited (inl (ltb-false _ _ e))

  pub chosen : (p : Bool) (r : Reading S) (b : ℕ) → Chosen m r b p (choice m p r b).0 (choice m p r b).1
  chosen true r b = chosen_by_planner r b (ltb b m.actions) (admissible m r b) refl refl
  chosen false r b = chosen_by_keeper r b (ltb b m.actions) (calm m r) refl refl

module _ {S : Type 0} (m : Meaning S) (mission : ℕ) (h : History S) where
  -- a refusal for another cause than the mission's end
  other : {c : Call S} (x : CallRefusal) → is_over x ≡ false → Told m mission h c (Refused x)
  other x e = turned (λ d. cc)

  -- a call without a place in the phase
  wrong : (c : Call S) (s : Stage) → stage h ≡ s → has_place s c ≡ false → Told m mission h c (due m mission h c)
  wrong c s e f = rw (e, f) (other WrongPhase refl)

  told_begin : (r : Reading S) → stage h ≡ parked → Told m mission h (Begin r) (due m mission h (Begin r))
  told_begin r e = rw e (cond_both (m.recoverable r) _ _ (Told m mission h (Begin r)) (λ d. begun e d) (λ d. other NotRecoverable refl))

  told_decide : (b : ℕ) (l : Option (Reading S)) → stage h ≡ ready → last h ≡ l → Told m mission h (Decide b) (due m mission h (Decide b))
  told_decide b None e d = rw (e, d) (cond_both (ltb (tick h) 1000000) _ _ (Told m mission h (Decide b)) (λ f. other WrongPhase refl) (λ f. turned (λ _. ltb-false _ _ f)))
  told_decide b (Some r) e d =
      rw (e, d) (cond_both (ltb (tick h) 1000000) _ _ (Told m mission h (Decide b)) (λ f. decided r e d refl refl (ltb-true _ _ f) (chosen m (planner h) r b))
      (λ f. turned (λ _. ltb-false _ _ f)))

  told_spend : (p : Ticket) (g : Option Ticket) → stage h ≡ granted → grant h ≡ g → Told m mission h (Spend p) (due m mission h (Spend p))
  told_spend p None e d = rw (e, d) (other WrongPhase refl)
  told_spend p (Some g) e d =
      rw (e, d) (cond_both (same_ticket g p) _ _ (Told m mission h (Spend p)) (λ f. let n : g ≡ p = (same_ticket_Decides g p).0 f in done e (d ∙ ap Some n) (ap (λ (t : Ticket). t.action) n))
      (λ f. other OtherGrant refl))

  told_observe : (t : Reading S) (l : Option (Reading S)) (g : Option Ticket) → stage h ≡ moving → last h ≡ l → grant h ≡ g → Told m mission h (Observe t) (due m mission h (Observe t))
  told_observe t None g e d f = rw (e, d) (other WrongPhase refl)
  told_observe t (Some r) None e d f = rw (e, d, f) (other WrongPhase refl)
  told_observe t (Some r) (Some g) e d f =
      rw (e, d, f) (cond_both (state_follows m r.state g.action t.state) _ _ (Told m mission h (Observe t)) (λ i. cond_both (charge_follows m r g.action t.charge) _ _ (Told m mission h (Observe t)) (λ j. observed r g e d f i j) (λ j. other ChargeCannotFollow refl))
      (λ i. other StateCannotFollow refl))

  told_at : (s : Stage) → stage h ≡ s → (c : Call S) → Told m mission h c (due m mission h c)
  told_at parked e (Begin r) = told_begin r e
  told_at parked e (Decide b) = wrong (Decide b) parked e refl
  told_at parked e (Spend p) = wrong (Spend p) parked e refl
  told_at parked e (Observe t) = wrong (Observe t) parked e refl
  told_at parked e Close = wrong Close parked e refl
  told_at ready e (Begin r) = wrong (Begin r) ready e refl
  told_at ready e (Decide b) = told_decide b (last h) e refl
  told_at ready e (Spend p) = wrong (Spend p) ready e refl
  told_at ready e (Observe t) = wrong (Observe t) ready e refl
  told_at ready e Close = rw e (ended (inl e))
  told_at granted e (Begin r) = wrong (Begin r) granted e refl
  told_at granted e (Decide b) = wrong (Decide b) granted e refl
  told_at granted e (Spend p) = told_spend p (grant h) e refl
  told_at granted e (Observe t) = wrong (Observe t) granted e refl
  told_at granted e Close = wrong Close granted e refl
  told_at moving e (Begin r) = wrong (Begin r) moving e refl
  told_at moving e (Decide b) = wrong (Decide b) moving e refl
  told_at moving e (Spend p) = wrong (Spend p) moving e refl
  told_at moving e (Observe t) = told_observe t (last h) (grant h) e refl refl
  told_at moving e Close = rw e (ended (inr e))
  told_at closed e c = wrong c closed e refl

  pub told : (c : Call S) → Told m mission h c (due m mission h c)
  told = told_at (stage h) refl
