-- What a call leaves an executive with is what is held after the history with that call.
use Rattle.std.proofs.Common.{◌≡◌, ℕ, ◌+◌, Bool, true, false, cond, ltb, [], ◌∷◌, Some, refl, ap}
use Rattle.std.proofs.lemmas.Bool.{cond_both}
use Rattle.guard.specs.declared.reading.Reading.{Reading}
use Rattle.guard.specs.Meaning.{Meaning, Laws}
use Rattle.guard.specs.Decision.{state_follows, charge_follows}
use Rattle.history.specs.History.{History, Stage, parked, ready, granted, moving, closed, stage, last, grant, tick, planner, given, spent, won, lost}
use Rattle.history.specs.Due.{has_place, same_ticket, due, Right}
use Rattle.history.specs.Outcome.{Held, Outcome, refusing, in_phase, ticket, is_gain, is_loss, began, decided, spending, observed, closing, at, outcome, unused}
use Rattle.history.specs.Use.{Stands, Used, GoesOn}
use Rattle.history.specs.declared.calls.Ticket.{Ticket}
use Rattle.history.specs.declared.calls.Call.{Call}
use Rattle.history.specs.declared.calls.Call.TheVariants.{Begin, Decide, Spend, Observe, Close}
use Rattle.history.specs.declared.calls.Answer.TheVariants.{Accepted, Ended, Refused}
use Rattle.history.specs.declared.calls.CallRefusal.{CallRefusal}
use Rattle.history.specs.declared.calls.CallRefusal.TheVariants.{WrongPhase, NotRecoverable, OtherGrant, StateCannotFollow, ChargeCannotFollow, MissionOver}
use Rattle.history.specs.declared.phase.Phase.{Phase}
use Rattle.history.specs.declared.phase.Phase.TheVariants.{Parked, Ready, Granted, Moving, Closed}
use Rattle.history.proofs.Found.{found}

-- a refusal leaves the phase where it stands
stands_refused : {S : Type 0} (p : Phase S) (h : History S) (c : Call S) (x : CallRefusal) → Stands p h → Stands p (record { call = c; answer = Refused x } ∷ h)
stands_refused Parked h c x s = s
stands_refused (Ready r) h c x s = s
stands_refused (Granted r t) h c x s = s
stands_refused (Moving r a) h c x s = s
stands_refused Closed h c x s = s

-- the numbers that are held, and those of a history
abbrev Counts : Type 0
Counts = ℕ × Bool × ℕ × ℕ × ℕ × ℕ

abbrev counts : {S : Type 0} → Held S → Counts
counts e = (e.tick, e.planner, e.given, e.spent, e.gains, e.losses)

abbrev counted : {S : Type 0} → History S → Counts
counted h = (tick h, planner h, given h, spent h, won h, lost h)

used_by : {S : Type 0} (m : Meaning S) (mission : ℕ) (e : Held S) (h : History S) → Right m mission h → Stands e.phase h → counts e ≡ counted h → Used m mission e h
used_by m mission e h r s c = record {
  right = r;
  stands = s;
  tick_is = ap (λ n. n.0) c;
  planner_is = ap (λ n. n.1) c;
  given_is = ap (λ n. n.2) c;
  spent_is = ap (λ n. n.3) c;
  gains_is = ap (λ n. n.4) c;
  losses_is = ap (λ n. n.5) c;
}

pub used_none : {S : Type 0} (m : Meaning S) (mission : ℕ) → Used m mission unused []
used_none m mission = used_by m mission unused [] tt refl refl

module _ {S : Type 0} (m : Meaning S) (mission : ℕ) (d : Held S) (h : History S) (u : Used m mission d h) where
  -- the history goes on with the call and its outcome
  Going : Call S → Outcome S → Type 0
  Going c o = Used m mission o.held (record { call = c; answer = o.answer } ∷ h)

  going_by : (c : Call S) (o : Outcome S) → o.answer ≡ due m mission h c → Stands o.held.phase (record { call = c; answer = o.answer } ∷ h) → counts o.held ≡ counted (record { call = c; answer = o.answer } ∷ h) → Going c o
  unfolding Going
  going_by c o e s k = used_by m mission o.held _ (e, u.right) s k

  same_counts : counts d ≡ counted h
  same_counts = λ i. (u.tick_is i, u.planner_is i, u.given_is i, u.spent_is i, u.gains_is i, u.losses_is i)

  going_refused : (c : Call S) (x : CallRefusal) → Refused x ≡ due m mission h c → Going c (refusing x d)
  going_refused c x e = going_by c (refusing x d) e (stands_refused d.phase h c x u.stands) same_counts

  -- a call without a place in the phase
  going_wrong : (c : Call S) (s : Stage) → stage h ≡ s → has_place s c ≡ false → Going c (refusing WrongPhase d)
  going_wrong c s e f = going_refused c WrongPhase (rw (e, f))

  going_begin : (r : Reading S) → stage h ≡ parked → Going (Begin r) (began m mission d r)
  going_begin r s =
      cond_both (m.recoverable r) _ _ (Going (Begin r)) (λ e. going_by (Begin r) (record { answer = Accepted; held = in_phase (Ready r) d }) (rw (s, e)) (refl, refl) same_counts)
      (λ e. going_refused (Begin r) NotRecoverable (rw (s, e)))

  going_decide : (r : Reading S) (b : ℕ) → stage h ≡ ready → last h ≡ Some r → Going (Decide b) (decided m mission d r b)
  going_decide r b s l =
      let q = (ticket m mission d r b).reason in
      cond_both (ltb d.tick 1000000) _ _ (Going (Decide b)) (λ e. going_by (Decide b) _ (rw (s, l, ← u.tick_is, ← u.planner_is, e)) (refl, l, refl) (λ i. (u.tick_is i, cond (is_gain q) true (cond (is_loss q) false (u.planner_is i)), u.given_is i + 1, u.spent_is i, cond (is_gain q) (u.gains_is i + 1) (u.gains_is i), cond (is_loss q) (u.losses_is i + 1) (u.losses_is i))))
      (λ e. going_refused (Decide b) MissionOver (rw (s, l, ← u.tick_is, e)))

  going_spend : (r : Reading S) (g t : Ticket) → stage h ≡ granted → last h ≡ Some r → grant h ≡ Some g → Going (Spend t) (spending m mission d r g t)
  going_spend r g t s l k =
      cond_both (same_ticket g t) _ _ (Going (Spend t)) (λ e. going_by (Spend t) _ (rw (s, k, e)) (refl, l, (g, k, refl)) (λ i. (u.tick_is i, u.planner_is i, u.given_is i, u.spent_is i + 1, u.gains_is i, u.losses_is i)))
      (λ e. going_refused (Spend t) OtherGrant (rw (s, k, e)))

  going_observe : (r t : Reading S) (a : ℕ) (g : Ticket) → stage h ≡ moving → last h ≡ Some r → grant h ≡ Some g → g.action ≡ a → Going (Observe t) (observed m mission d r a t)
  going_observe r t a g s l k n =
      cond_both (state_follows m r.state a t.state) _ _ (Going (Observe t)) (λ e. cond_both (charge_follows m r a t.charge) _ _ (Going (Observe t)) (λ f. going_by (Observe t) _ (rw (s, l, k, n, e, f)) (refl, refl) (λ i. (u.tick_is i + 1, u.planner_is i, u.given_is i, u.spent_is i, u.gains_is i, u.losses_is i)))
      (λ f. going_refused (Observe t) ChargeCannotFollow (rw (s, l, k, n, e, f))))
      (λ e. going_refused (Observe t) StateCannotFollow (rw (s, l, k, n, e)))

  going_close : (s : Stage) → stage h ≡ s → has_place {S = S} s Close ≡ true → Going Close (closing m mission d)
  going_close s e f = going_by Close _ (rw (e, f) (λ i. Ended (record { tick = u.tick_is i; given = u.given_is i; spent = u.spent_is i; gains = u.gains_is i; losses = u.losses_is i }))) refl same_counts

  going : (p : Phase S) → Stands p h → (c : Call S) → Going c (at m mission d p c)
  going Parked s (Begin r) = going_begin r s
  going Parked s (Decide b) = going_wrong (Decide b) parked s refl
  going Parked s (Spend t) = going_wrong (Spend t) parked s refl
  going Parked s (Observe t) = going_wrong (Observe t) parked s refl
  going Parked s Close = going_wrong Close parked s refl
  going (Ready r) s (Begin t) = going_wrong (Begin t) ready s.0 refl
  going (Ready r) s (Decide b) = going_decide r b s.0 s.1
  going (Ready r) s (Spend t) = going_wrong (Spend t) ready s.0 refl
  going (Ready r) s (Observe t) = going_wrong (Observe t) ready s.0 refl
  going (Ready r) s Close = going_close ready s.0 refl
  going (Granted r g) s (Begin t) = going_wrong (Begin t) granted s.0 refl
  going (Granted r g) s (Decide b) = going_wrong (Decide b) granted s.0 refl
  going (Granted r g) s (Spend t) = going_spend r g t s.0 s.1 s.2
  going (Granted r g) s (Observe t) = going_wrong (Observe t) granted s.0 refl
  going (Granted r g) s Close = going_wrong Close granted s.0 refl
  going (Moving r a) s (Begin t) = going_wrong (Begin t) moving s.0 refl
  going (Moving r a) s (Decide b) = going_wrong (Decide b) moving s.0 refl
  going (Moving r a) s (Spend t) = going_wrong (Spend t) moving s.0 refl
  going (Moving r a) s (Observe t) = going_observe r t a s.2.0 s.0 s.1 s.2.1 s.2.2
  going (Moving r a) s Close = going_close moving s.0 refl
  going Closed s c = going_wrong c closed s refl

  pub goes_on : Laws m → (c : Call S) → GoesOn m mission d c (outcome m mission d c).answer (outcome m mission d c).held h
  unfolding Going
  goes_on laws c =
      let v = going d.phase u.stands c in
      record { used = v; due_is = v.right.0; findings = found m laws mission _ v.right }
