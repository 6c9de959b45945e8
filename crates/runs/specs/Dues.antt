-- What is due of a record of a tape, by what it came to: an entry for the log, if there is one, or a refusal.
use Rattle.std.specs.Prelude.{ℕ, Some, None, Ok, Err, Option, Result}
use Rattle.records.specs.declared.record.Record.{Record}
use Rattle.records.specs.declared.record.Record.TheVariants.{Refusal}
use Rattle.runs.specs.Refusals.{numbered_record, ending_of}
use Rattle.runs.specs.declared.refusal.RecordRefusal.{RecordRefusal}
use Rattle.runs.specs.declared.refusal.RunRefusal.{RunRefusal}

-- what is logged of the record with the number i
abbrev pub entry_of : ℕ → Result (Option Record) RecordRefusal → Option Record
entry_of i (Ok y) = y
entry_of i (Err x) = Some (Refusal i (numbered_record x))

-- the refusal that ends the run with it
abbrev pub end_of : Result (Option Record) RecordRefusal → Option RunRefusal
end_of (Ok y) = None
end_of (Err x) = ending_of x
