-- What is held after a history, and what one call adds to it.
use Rattle.std.specs.Prelude.{◌≡◌, ℕ, ◌∷◌, Some}
use Rattle.guard.specs.Meaning.{Meaning}
use Rattle.history.specs.History.{History, parked, ready, granted, moving, closed, stage, last, grant, tick, planner, given, spent, won, lost}
use Rattle.history.specs.Due.{due, Right}
use Rattle.history.specs.Findings.{Findings}
use Rattle.history.specs.Outcome.{Held}
use Rattle.history.specs.declared.calls.Ticket.{Ticket}
use Rattle.history.specs.declared.calls.Call.{Call}
use Rattle.history.specs.declared.calls.Answer.{Answer}
use Rattle.history.specs.declared.phase.Phase.{Phase}
use Rattle.history.specs.declared.phase.Phase.TheVariants.{Parked, Ready, Granted, Moving, Closed}

-- the phase is that of the history, with the reading and the grant of the history
abbrev pub Stands : {S : Type 0} → Phase S → History S → Type 0
Stands Parked h = stage h ≡ parked
Stands (Ready r) h = (stage h ≡ ready) × (last h ≡ Some r)
Stands (Granted r t) h = (stage h ≡ granted) × (last h ≡ Some r) × (grant h ≡ Some t)
Stands (Moving r a) h = (stage h ≡ moving) × (last h ≡ Some r) × ((t : Ticket) × (grant h ≡ Some t) × (t.action ≡ a))
Stands Closed h = stage h ≡ closed

-- e is what is held after the history h, in which each answer is the due one
pub record Used {S : Type 0} (m : Meaning S) (mission : ℕ) (e : Held S) (h : History S) : Type 0 where
  pub right : Right m mission h
  pub stands : Stands e.phase h
  pub tick_is : e.tick ≡ tick h
  pub planner_is : e.planner ≡ planner h
  pub given_is : e.given ≡ given h
  pub spent_is : e.spent ≡ spent h
  pub gains_is : e.gains ≡ won h
  pub losses_is : e.losses ≡ lost h

-- whatever history led to d, it goes on with the call c and the answer a, and then e is held
pub record GoesOn {S : Type 0} (m : Meaning S) (mission : ℕ) (d : Held S) (c : Call S) (a : Answer) (e : Held S) (h : History S) : Type 0 where
  pub used : Used m mission e (record { call = c; answer = a } ∷ h)
  pub due_is : a ≡ due m mission h c
  pub findings : Findings m mission (record { call = c; answer = a } ∷ h)
