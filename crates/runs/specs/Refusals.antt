-- The numbers in the table of refusals of what is refused on a tape, and which of them end a run.
use Rattle.std.specs.Prelude.{ℕ, Some, None, Option}
use Rattle.guard.specs.Refusals as states
use Rattle.history.specs.Refusals as calls
use Rattle.records.specs.Refusals.{numbered_read, numbered_write}
use Rattle.runs.specs.declared.refusal.TapeRefusal.{TapeRefusal}
use Rattle.runs.specs.declared.refusal.TapeRefusal.TheVariants.{LogRecord}
use Rattle.runs.specs.declared.refusal.RunRefusal.{RunRefusal}
use Rattle.runs.specs.declared.refusal.RunRefusal.TheVariants.{Read, Tape, Write}
use Rattle.runs.specs.declared.refusal.RecordRefusal.{RecordRefusal}
use Rattle.runs.specs.declared.refusal.RecordRefusal.TheVariants.{State, Call, Ends}

abbrev pub numbered : TapeRefusal → ℕ
numbered LogRecord = 15

abbrev pub numbered_run : RunRefusal → ℕ
numbered_run (Read x) = numbered_read x
numbered_run (Tape x) = numbered x
numbered_run (Write x) = numbered_write x

abbrev pub numbered_record : RecordRefusal → ℕ
numbered_record (State x) = states.numbered x
numbered_record (Call x) = calls.numbered x
numbered_record (Ends x) = numbered_run x

-- what a state or a call is refused for does not end a run
abbrev pub ending_of : RecordRefusal → Option RunRefusal
ending_of (State x) = None
ending_of (Call x) = None
ending_of (Ends x) = Some x

-- the number that a run ends with, 0 at its tape's end
abbrev pub end_number : Option RunRefusal → ℕ
end_number None = 0
end_number (Some x) = numbered_run x
