-- What an executive holds, and what a call answers and leaves it with.
use Rattle.std.specs.Prelude.{ℕ, ◌+◌, Bool, true, false, cond, ◌||◌, ◌==◌, nat_lt}
use Rattle.guard.specs.declared.reading.Reading.{Reading}
use Rattle.guard.specs.Meaning.{Meaning}
use Rattle.guard.specs.Decision.{state_follows, charge_follows}
use Rattle.history.specs.Due.{choice, same_ticket}
use Rattle.history.specs.declared.calls.Ticket.{Ticket}
use Rattle.history.specs.declared.calls.Call.{Call}
use Rattle.history.specs.declared.calls.Call.TheVariants.{Begin, Decide, Spend, Observe, Close}
use Rattle.history.specs.declared.calls.Answer.{Answer}
use Rattle.history.specs.declared.calls.Answer.TheVariants.{Accepted, Granted as Gave, Spent, Ended, Refused}
use Rattle.history.specs.declared.calls.CallRefusal.{CallRefusal}
use Rattle.history.specs.declared.calls.CallRefusal.TheVariants.{WrongPhase, NotRecoverable, OtherGrant, StateCannotFollow, ChargeCannotFollow, MissionOver}
use Rattle.history.specs.declared.phase.Phase.{Phase}
use Rattle.history.specs.declared.phase.Phase.TheVariants.{Parked, Ready, Granted, Moving, Closed}

-- all that an executive holds besides its guard and its mission number
pub record Held (S : Type 0) : Type 0 where
  pub phase : Phase S
  pub tick : ℕ
  -- whether the planner has control
  pub planner : Bool
  pub given : ℕ
  pub spent : ℕ
  pub gains : ℕ
  pub losses : ℕ

-- an answer, and what is held then
pub record Outcome (S : Type 0) : Type 0 where
  pub answer : Answer
  pub held : Held S

abbrev pub refusing : {S : Type 0} → CallRefusal → Held S → Outcome S
refusing x e = record { answer = Refused x; held = e }

-- the same in another phase
abbrev pub in_phase : {S : Type 0} → Phase S → Held S → Held S
in_phase p e = record { phase = p; tick = e.tick; planner = e.planner; given = e.given; spent = e.spent; gains = e.gains; losses = e.losses }

-- the grant for the proposal b at the reading r
abbrev pub ticket : {S : Type 0} → Meaning S → ℕ → Held S → Reading S → ℕ → Ticket
ticket m mission e r b = record { mission = mission; tick = e.tick; action = (choice m e.planner r b).0; reason = (choice m e.planner r b).1 }

abbrev pub is_gain : ℕ → Bool
is_gain reason = reason == 3

abbrev pub is_loss : ℕ → Bool
is_loss reason = reason == 1 || reason == 2

-- what is held when the grant t has been given at the reading r
abbrev pub after_giving : {S : Type 0} → Held S → Reading S → Ticket → Held S
after_giving e r t = record {
  phase = Granted r t;
  tick = e.tick;
  planner = cond (is_gain t.reason) true (cond (is_loss t.reason) false e.planner);
  given = e.given + 1;
  spent = e.spent;
  gains = cond (is_gain t.reason) (e.gains + 1) e.gains;
  losses = cond (is_loss t.reason) (e.losses + 1) e.losses;
}

module _ {S : Type 0} (m : Meaning S) (mission : ℕ) (e : Held S) where
  abbrev pub began : Reading S → Outcome S
  began r = cond (m.recoverable r) (record { answer = Accepted; held = in_phase (Ready r) e }) (refusing NotRecoverable e)

  abbrev pub decided : Reading S → ℕ → Outcome S
  decided r b = cond (nat_lt e.tick 1000000) (record { answer = Gave (ticket m mission e r b); held = after_giving e r (ticket m mission e r b) }) (refusing MissionOver e)

  abbrev pub spending : Reading S → Ticket → Ticket → Outcome S
  spending r g t =
      cond (same_ticket g t) (record {
        answer = Spent g.action;
        held = record { phase = Moving r g.action; tick = e.tick; planner = e.planner; given = e.given; spent = e.spent + 1; gains = e.gains; losses = e.losses };
      }) (refusing OtherGrant e)

  abbrev pub observed : Reading S → ℕ → Reading S → Outcome S
  observed r a t =
      cond (state_follows m r.state a t.state) (cond (charge_follows m r a t.charge) (record {
        answer = Accepted;
        held = record { phase = Ready t; tick = e.tick + 1; planner = e.planner; given = e.given; spent = e.spent; gains = e.gains; losses = e.losses };
      }) (refusing ChargeCannotFollow e)) (refusing StateCannotFollow e)

  abbrev pub closing : Outcome S
  closing = record {
    answer = Ended (record { tick = e.tick; given = e.given; spent = e.spent; gains = e.gains; losses = e.losses });
    held = in_phase Closed e;
  }

  -- the phase and the call together decide
  abbrev pub at : Phase S → Call S → Outcome S
  at Parked c = elim c [ Begin r ↦ began r | Decide b ↦ refusing WrongPhase e | Spend t ↦ refusing WrongPhase e | Observe t ↦ refusing WrongPhase e | Close ↦ refusing WrongPhase e ]
  at (Ready r) c = elim c [ Begin t ↦ refusing WrongPhase e | Decide b ↦ decided r b | Spend t ↦ refusing WrongPhase e | Observe t ↦ refusing WrongPhase e | Close ↦ closing ]
  at (Granted r g) c = elim c [ Begin t ↦ refusing WrongPhase e | Decide b ↦ refusing WrongPhase e | Spend t ↦ spending r g t | Observe t ↦ refusing WrongPhase e | Close ↦ refusing WrongPhase e ]
  at (Moving r a) c = elim c [ Begin t ↦ refusing WrongPhase e | Decide b ↦ refusing WrongPhase e | Spend t ↦ refusing WrongPhase e | Observe t ↦ observed r a t | Close ↦ closing ]
  at Closed c = refusing WrongPhase e

  abbrev pub outcome : Call S → Outcome S
  outcome c = at e.phase c

-- what a new executive holds
abbrev pub unused : {S : Type 0} → Held S
unused = record { phase = Parked; tick = 0; planner = false; given = 0; spent = 0; gains = 0; losses = 0 }
