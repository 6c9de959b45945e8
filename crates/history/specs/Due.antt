-- The answer that is due to a call, by the calls and answers before it.
use Rattle.std.specs.Prelude.{◌≡◌, ℕ, Bool, true, false, cond, ◌&&◌, [], ◌∷◌, Some, None, Option, ◌==◌, nat_lt}
use Rattle.guard.specs.declared.reading.Reading.{Reading}
use Rattle.guard.specs.Meaning.{Meaning}
use Rattle.guard.specs.Decision.{admissible, calm, state_follows, charge_follows}
use Rattle.history.specs.History.{History, Stage, parked, ready, granted, moving, closed, stage, last, tick, planner, grant, given, spent, won, lost}
use Rattle.history.specs.declared.calls.Ticket.{Ticket}
use Rattle.history.specs.declared.calls.Call.{Call}
use Rattle.history.specs.declared.calls.Call.TheVariants.{Begin, Decide, Spend, Observe, Close}
use Rattle.history.specs.declared.calls.Answer.{Answer}
use Rattle.history.specs.declared.calls.Answer.TheVariants.{Accepted, Granted, Spent, Ended, Refused}
use Rattle.history.specs.declared.calls.CallRefusal.TheVariants.{WrongPhase, NotRecoverable, OtherGrant, StateCannotFollow, ChargeCannotFollow, MissionOver}

-- Which calls have a place in which phase.
abbrev pub has_place : {S : Type 0} → Stage → Call S → Bool
has_place parked c = elim c [ Begin r ↦ true | Decide b ↦ false | Spend t ↦ false | Observe r ↦ false | Close ↦ false ]
has_place ready c = elim c [ Begin r ↦ false | Decide b ↦ true | Spend t ↦ false | Observe r ↦ false | Close ↦ true ]
has_place granted c = elim c [ Begin r ↦ false | Decide b ↦ false | Spend t ↦ true | Observe r ↦ false | Close ↦ false ]
has_place moving c = elim c [ Begin r ↦ false | Decide b ↦ false | Spend t ↦ false | Observe r ↦ true | Close ↦ true ]
has_place closed c = false

-- The action and the reason of the grant for the proposal b: with the planner in control, and with the keeper.
abbrev pub choice : {S : Type 0} → Meaning S → Bool → Reading S → ℕ → ℕ × ℕ
choice m true r b = cond (nat_lt b m.actions) (cond (admissible m r b) (b, 0) (m.fallback r.state, 2)) (m.fallback r.state, 1)
choice m false r b = cond (nat_lt b m.actions && calm m r) (b, 3) (m.fallback r.state, 0)

abbrev pub same_ticket : Ticket → Ticket → Bool
same_ticket t u = ((t.mission == u.mission && t.tick == u.tick) && t.action == u.action) && t.reason == u.reason

-- Where there is a last reading or a last grant, what is due of it. In a stage that needs one, there is one.
abbrev pub of_reading : {S : Type 0} → Option (Reading S) → (Reading S → Answer) → Answer
of_reading None f = Refused WrongPhase
of_reading (Some r) f = f r

abbrev pub of_grant : Option Ticket → (Ticket → Answer) → Answer
of_grant None f = Refused WrongPhase
of_grant (Some t) f = f t

module _ {S : Type 0} (m : Meaning S) (mission : ℕ) where
  -- the answer to a call that has a place in its phase
  abbrev pub in_place : History S → Call S → Answer
  in_place h (Begin r) = cond (m.recoverable r) Accepted (Refused NotRecoverable)
  in_place h (Decide b) =
      cond (nat_lt (tick h) 1000000) (of_reading (last h) λ r. Granted (record {
        mission = mission;
        tick = tick h;
        action = (choice m (planner h) r b).0;
        reason = (choice m (planner h) r b).1;
      })) (Refused MissionOver)
  in_place h (Spend t) = of_grant (grant h) λ g. cond (same_ticket g t) (Spent g.action) (Refused OtherGrant)
  in_place h (Observe t) =
      of_reading (last h) λ r. of_grant (grant h) λ g.
      cond (state_follows m r.state g.action t.state) (cond (charge_follows m r g.action t.charge) Accepted (Refused ChargeCannotFollow)) (Refused StateCannotFollow)
  in_place h Close = Ended (record { tick = tick h; given = given h; spent = spent h; gains = won h; losses = lost h })

  abbrev pub due : History S → Call S → Answer
  due h c = cond (has_place (stage h) c) (in_place h c) (Refused WrongPhase)

  -- each answer of the history is the one that is due
  abbrev pub Right : History S → Type 0
  Right [] = Unit {0}
  Right (e ∷ h) = (e.answer ≡ due h e.call) × Right h
