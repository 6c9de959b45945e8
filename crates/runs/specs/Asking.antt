-- What a record of a tape asks of an executive.
use Rattle.std.specs.Prelude.{ℕ, Ok, Err, Result}
use Rattle.std.specs.Option.{ok_or}
use Rattle.guard.specs.Meaning.{Meaning}
use Rattle.guard.specs.declared.reading.Reading.{Reading}
use Rattle.guard.specs.declared.refusal.StateRefusal.{StateRefusal}
use Rattle.guard.specs.declared.refusal.StateRefusal.TheVariants.{NoSuchState}
use Rattle.history.specs.declared.calls.Call.{Call}
use Rattle.history.specs.declared.calls.Call.TheVariants.{Begin, Decide, Observe, Close}
use Rattle.records.specs.Bytes.{Noted}
use Rattle.records.specs.declared.record.Record.{Record}
use Rattle.records.specs.declared.record.Record.TheVariants.{Begin as Begins, Decide as Decides, Observe as Observes, Close as Closes, Switch, Refusal, Closing}
use Rattle.runs.specs.declared.refusal.TapeRefusal.{TapeRefusal}
use Rattle.runs.specs.declared.refusal.TapeRefusal.TheVariants.{LogRecord}

-- a call, or nothing, since no state has the record's numbers or the record is one of a log
pub data Request (S : Type 0) : Type 0 where
  calls : Call S → Request S
  no_state : StateRefusal → Request S
  nothing : TapeRefusal → Request S

-- a reading by the numbers of its state
abbrev pub noted : {S : Type 0} → Meaning S → Reading S → Noted
noted m r = record { state = m.numbers r.state; charge = r.charge }

abbrev pub with_state : {S : Type 0} → ℕ → Result S StateRefusal → Result (Reading S) StateRefusal
with_state q (Ok s) = Ok (record { state = s; charge = q })
with_state q (Err x) = Err x

-- the reading that has these numbers, if a state has them
abbrev pub reading_of : {S : Type 0} → Meaning S → Noted → Result (Reading S) StateRefusal
reading_of m n = with_state n.charge (ok_or (m.made n.state) NoSuchState)

abbrev pub with_reading : {S : Type 0} → (Reading S → Call S) → Result (Reading S) StateRefusal → Request S
with_reading call (Ok r) = calls (call r)
with_reading call (Err x) = no_state x

abbrev pub asks : {S : Type 0} → Meaning S → Record → Request S
asks m (Begins n) = with_reading Begin (reading_of m n)
asks m (Decides b) = calls (Decide b)
asks m (Observes n) = with_reading Observe (reading_of m n)
asks m Closes = calls Close
asks m (Switch t why n) = nothing LogRecord
asks m (Refusal i x) = nothing LogRecord
asks m (Closing t given spent gains losses) = nothing LogRecord
