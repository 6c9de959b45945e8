-- A history of an executive: its calls with their answers, the newest first, and what is read from them alone.
use Rattle.std.specs.Prelude.{ℕ, ◌+◌, Bool, true, false, cond, ◌||◌, List, [], ◌∷◌, Some, None, Option, ◌==◌}
use Rattle.guard.specs.declared.reading.Reading.{Reading}
use Rattle.history.specs.declared.calls.Ticket.{Ticket}
use Rattle.history.specs.declared.calls.Call.{Call}
use Rattle.history.specs.declared.calls.Call.TheVariants.{Begin, Decide, Spend, Observe, Close}
use Rattle.history.specs.declared.calls.Answer.{Answer}
use Rattle.history.specs.declared.calls.Answer.TheVariants.{Accepted, Granted, Spent, Ended, Refused}

-- a call and its answer
pub record Event (S : Type 0) : Type 0 where
  pub call : Call S
  pub answer : Answer

abbrev pub History : Type 0 → Type 0
History S = List (Event S)

-- a call is accepted if it answers its result, and refused if it answers a number
abbrev pub accepted : Answer → Bool
accepted Accepted = true
accepted (Granted t) = true
accepted (Spent a) = true
accepted (Ended e) = true
accepted (Refused r) = false

-- The phase that the last accepted call led to.
pub data Stage : Type 0 where
  parked : Stage
  ready : Stage
  granted : Stage
  moving : Stage
  closed : Stage

abbrev pub leads : {S : Type 0} → Call S → Stage
leads (Begin r) = ready
leads (Decide b) = granted
leads (Spend t) = moving
leads (Observe r) = ready
leads Close = closed

abbrev pub stage : {S : Type 0} → History S → Stage
stage [] = parked
stage (e ∷ h) = cond (accepted e.answer) (leads e.call) (stage h)

-- The last accepted reading: that of a begin or an observe.
abbrev pub reads : {S : Type 0} → Call S → Option (Reading S) → Option (Reading S)
reads (Begin r) before = Some r
reads (Decide b) before = before
reads (Spend t) before = before
reads (Observe r) before = Some r
reads Close before = before

abbrev pub last : {S : Type 0} → History S → Option (Reading S)
last [] = None
last (e ∷ h) = cond (accepted e.answer) (reads e.call (last h)) (last h)

-- The events of which f holds.
abbrev pub count : {S : Type 0} → (Event S → Bool) → History S → ℕ
count f [] = 0
count f (e ∷ h) = cond (f e) (count f h + 1) (count f h)

abbrev pub is_observe : {S : Type 0} → Call S → Bool
is_observe (Begin r) = false
is_observe (Decide b) = false
is_observe (Spend t) = false
is_observe (Observe r) = true
is_observe Close = false

-- the tick is the number of accepted observes
abbrev pub tick : {S : Type 0} → History S → ℕ
tick h = count (λ e. cond (accepted e.answer) (is_observe e.call) false) h

-- an accepted decide gives a grant, an accepted spend spends one
abbrev pub gives : Answer → Bool
gives Accepted = false
gives (Granted t) = true
gives (Spent a) = false
gives (Ended e) = false
gives (Refused r) = false

abbrev pub spends : Answer → Bool
spends Accepted = false
spends (Granted t) = false
spends (Spent a) = true
spends (Ended e) = false
spends (Refused r) = false

-- a grant with reason 3 is a gain, one with reason 1 or 2 a loss
abbrev pub gains : Answer → Bool
gains Accepted = false
gains (Granted t) = t.reason == 3
gains (Spent a) = false
gains (Ended e) = false
gains (Refused r) = false

abbrev pub loses : Answer → Bool
loses Accepted = false
loses (Granted t) = t.reason == 1 || t.reason == 2
loses (Spent a) = false
loses (Ended e) = false
loses (Refused r) = false

-- the planner has control from a gain to the next loss, the keeper at any other time
abbrev pub planner : {S : Type 0} → History S → Bool
planner [] = false
planner (e ∷ h) = cond (gains e.answer) true (cond (loses e.answer) false (planner h))

-- a grant is out when the last accepted decide or spend is a decide
abbrev pub out : {S : Type 0} → History S → Bool
out [] = false
out (e ∷ h) = cond (gives e.answer) true (cond (spends e.answer) false (out h))

-- the last grant given
abbrev pub grant_of : Answer → Option Ticket → Option Ticket
grant_of Accepted before = before
grant_of (Granted t) before = Some t
grant_of (Spent a) before = before
grant_of (Ended e) before = before
grant_of (Refused r) before = before

abbrev pub grant : {S : Type 0} → History S → Option Ticket
grant [] = None
grant (e ∷ h) = grant_of e.answer (grant h)

-- The four counts.
abbrev pub given : {S : Type 0} → History S → ℕ
given h = count (λ e. gives e.answer) h

abbrev pub spent : {S : Type 0} → History S → ℕ
spent h = count (λ e. spends e.answer) h

abbrev pub won : {S : Type 0} → History S → ℕ
won h = count (λ e. gains e.answer) h

abbrev pub lost : {S : Type 0} → History S → ℕ
lost h = count (λ e. loses e.answer) h
