-- The numbers of a record fit their fields, as those of every record of a program do.
use Rattle.std.specs.Prelude.{◌^◌, ◌<◌, FitsSigned}
use Rattle.std.specs.Int.{w32}
use Rattle.records.specs.Bytes.{Noted}
use Rattle.records.specs.declared.record.Record.{Record}
use Rattle.records.specs.declared.record.Record.TheVariants.{Begin, Decide, Observe, Close, Switch, Refusal, Closing}

abbrev pub FitsNoted : Noted → Type 0
FitsNoted r = FitsSigned w32 r.state.0 × FitsSigned w32 r.state.1 × FitsSigned w32 r.state.2 × (r.charge < 2 ^ 16)

-- each number of the record fits its field
abbrev pub Fitting : Record → Type 0
Fitting (Begin r) = FitsNoted r
Fitting (Decide b) = b < 2 ^ 8
Fitting (Observe r) = FitsNoted r
Fitting Close = Unit {0}
Fitting (Switch t why r) = (t < 2 ^ 32) × (why < 2 ^ 8) × FitsNoted r
Fitting (Refusal n x) = (n < 2 ^ 32) × (x < 2 ^ 8)
Fitting (Closing t given spent gains losses) = (t < 2 ^ 32) × (given < 2 ^ 32) × (spent < 2 ^ 32) × (gains < 2 ^ 32) × (losses < 2 ^ 32)
