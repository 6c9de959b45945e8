-- What a run makes of its records, read from the history alone: which calls it made, and what its log tells of them.
use Rattle.std.specs.Prelude.{◌≡◌, ℕ, Bool, true, false, List, [], ◌∷◌, ◌++◌, Some, None, Option, ◌≢◌}
use Rattle.std.specs.Option.{option_to_list}
use Rattle.guard.specs.Meaning.{Meaning}
use Rattle.history.specs.History.{Event, History, last}
use Rattle.history.specs.declared.calls.Call.{Call}
use Rattle.history.specs.declared.calls.Call.TheVariants.{Begin, Decide, Spend, Observe, Close}
use Rattle.history.specs.declared.calls.Answer.TheVariants.{Accepted, Granted, Spent, Ended, Refused}
use Rattle.records.specs.declared.record.Record.{Record}
use Rattle.records.specs.declared.record.Record.TheVariants.{Begin as Begins, Decide as Decides, Observe as Observes, Close as Closes, Switch, Refusal, Closing}
use Rattle.runs.specs.Asking.{Request, calls, no_state, nothing, asks}
use Rattle.runs.specs.Deeds.{closing, switch}

-- the call that a record asks for, if it asks for one
abbrev pub call_of : {S : Type 0} → Request S → List (Call S)
call_of (calls c) = c ∷ []
call_of (no_state x) = []
call_of (nothing x) = []

-- the calls that records ask for, in order
abbrev pub asked_for : {S : Type 0} → Meaning S → List Record → List (Call S)
asked_for m [] = []
asked_for m (r ∷ rs) = call_of (asks m r) ++ asked_for m rs

-- a call, unless it spends a grant
abbrev pub unless_spend : {S : Type 0} → Call S → List (Call S)
unless_spend (Begin r) = Begin r ∷ []
unless_spend (Decide b) = Decide b ∷ []
unless_spend (Spend t) = []
unless_spend (Observe r) = Observe r ∷ []
unless_spend Close = Close ∷ []

-- the calls of a history in order, but for those that spend a grant
abbrev pub calls_in : {S : Type 0} → History S → List (Call S)
calls_in [] = []
calls_in (e ∷ h) = calls_in h ++ unless_spend e.call

-- what a log tells of an event, after the history before it: a change of control with the reading it was decided at, or the close
abbrev pub told : {S : Type 0} → Meaning S → Event S → History S → Option Record
told m e before = elim e.answer [ Accepted ↦ None | Granted t ↦ switch m (last before) t | Spent a ↦ None | Ended t ↦ Some (closing t) | Refused x ↦ None ]

-- and of the events one after another, the newest first, after the history before them
abbrev pub tellings : {S : Type 0} → Meaning S → History S → History S → List Record
tellings m [] before = []
tellings m (e ∷ es) before = tellings m es before ++ option_to_list (told m e (es ++ before))

-- a record that tells of an event; the others of a log are refusals
abbrev pub tells : Record → Bool
tells (Begins r) = true
tells (Decides b) = true
tells (Observes r) = true
tells Closes = true
tells (Switch t why r) = true
tells (Refusal i x) = false
tells (Closing t given spent gains losses) = true

-- a run that ended with the number made the calls of the first records of the tape, each grant spent at once: of all of them, unless one
-- of them ended it or the log had no room
pub record Called {S : Type 0} (m : Meaning S) (records : List Record) (events : History S) (number : ℕ) : Type 0 where
  pub dealt : List Record
  pub later : List Record
  pub records_are : records ≡ dealt ++ later
  pub calls_are : calls_in events ≡ asked_for m dealt
  pub whole : (number ≢ 15) → (number ≢ 16) → later ≡ []
