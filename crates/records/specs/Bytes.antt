-- The bytes of a record: two mark bytes, a kind byte and a body.
use Rattle.std.specs.Prelude.{ℕ, List, [], ◌∷◌, ◌++◌, ℤ}
use Rattle.guard.specs.declared.reading.Reading.{Reading}
use Rattle.records.specs.Kinds.{number_of, mark_of}
use Rattle.records.specs.LittleEndian.{le, signed_le}
use Rattle.records.specs.declared.record.Kind.{Kind}
use Rattle.records.specs.declared.record.Kind.TheVariants.{Begin, Decide, Observe, Close, Switch, Refusal, Closing}
use Rattle.records.specs.declared.record.Record.{Record}
use Rattle.records.specs.declared.record.Record.TheVariants.{Begin as Begins, Decide as Decides, Observe as Observes, Close as Closes, Switch as Switches, Refusal as Refuses, Closing as Ends}

-- a reading by the three numbers of its state
abbrev pub Noted : Type 0
Noted = Reading (ℤ × ℤ × ℤ)

abbrev pub reading_bytes : Noted → List ℕ
reading_bytes r = signed_le r.state.0 ++ signed_le r.state.1 ++ signed_le r.state.2 ++ le 2 r.charge

abbrev pub kind : Record → Kind
kind (Begins r) = Begin
kind (Decides b) = Decide
kind (Observes r) = Observe
kind Closes = Close
kind (Switches t why r) = Switch
kind (Refuses n x) = Refusal
kind (Ends t given spent gains losses) = Closing

abbrev pub body : Record → List ℕ
body (Begins r) = reading_bytes r
body (Decides b) = le 1 b
body (Observes r) = reading_bytes r
body Closes = []
body (Switches t why r) = le 4 t ++ le 1 why ++ reading_bytes r
body (Refuses n x) = le 4 n ++ le 1 x
body (Ends t given spent gains losses) = le 4 t ++ le 4 given ++ le 4 spent ++ le 4 gains ++ le 4 losses

abbrev pub bytes : Record → List ℕ
bytes r = mark_of (kind r) ++ (number_of (kind r) ∷ body r)
