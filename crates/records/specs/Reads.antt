-- What the bytes of a tape are read as.
use Rattle.std.specs.Prelude.{ℕ, ◌+◌, cond, List, [], ◌∷◌, length, take, drop, ℤ, Some, None, Ok, Err, Option, Result, nat_lt}
use Rattle.std.specs.Str.{bytes_eq}
use Rattle.records.specs.Bytes.{Noted}
use Rattle.records.specs.Kinds.{kind_of, mark_of, length_of}
use Rattle.records.specs.LittleEndian.{number, signed_number}
use Rattle.records.specs.declared.record.Kind.{Kind}
use Rattle.records.specs.declared.record.Kind.TheVariants.{Begin, Decide, Observe, Close, Switch, Refusal, Closing}
use Rattle.records.specs.declared.record.Record.{Record}
use Rattle.records.specs.declared.record.Record.TheVariants.{Begin as Begins, Decide as Decides, Observe as Observes, Close as Closes, Switch as Switches, Refusal as Refuses, Closing as Ends}
use Rattle.records.specs.declared.refusal.ReadRefusal.{ReadRefusal}
use Rattle.records.specs.declared.refusal.ReadRefusal.TheVariants.{Cut, WrongMark, UnknownKind}

-- the field of a body that starts at a byte and has so many
abbrev pub field : ℕ → ℕ → List ℕ → ℕ
field at width bs = number (take width (drop at bs))

abbrev pub signed_field : ℕ → List ℕ → ℤ
signed_field at bs = signed_number (take 4 (drop at bs))

abbrev pub reading_at : ℕ → List ℕ → Noted
reading_at at bs = record {
  state = (signed_field at bs, signed_field (at + 4) bs, signed_field (at + 8) bs);
  charge = field (at + 12) 2 bs;
}

-- the record of the kind whose body begins the bytes
abbrev pub record_of : Kind → List ℕ → Record
record_of Begin bs = Begins (reading_at 0 bs)
record_of Decide bs = Decides (field 0 1 bs)
record_of Observe bs = Observes (reading_at 0 bs)
record_of Close bs = Closes
record_of Switch bs = Switches (field 0 4 bs) (field 4 1 bs) (reading_at 5 bs)
record_of Refusal bs = Refuses (field 0 4 bs) (field 4 1 bs)
record_of Closing bs = Ends (field 0 4 bs) (field 4 4 bs) (field 8 4 bs) (field 12 4 bs) (field 16 4 bs)

-- a record and what is left of the tape after it
abbrev pub Found : Type 0
Found = Record × List ℕ

-- a record of the kind, after its mark and its kind byte
abbrev pub read_body : Kind → List ℕ → Result Found ReadRefusal
read_body k bs = cond (nat_lt (length bs) (length_of k)) (Err Cut) (Ok (record_of k bs, drop (length_of k) bs))

abbrev pub read_kind : Option Kind → List ℕ → List ℕ → Result Found ReadRefusal
read_kind None mark bs = Err UnknownKind
read_kind (Some k) mark bs = cond (bytes_eq mark (mark_of k)) (read_body k bs) (Err WrongMark)

abbrev pub some_found : Result Found ReadRefusal → Result (Option Found) ReadRefusal
some_found (Ok x) = Ok (Some x)
some_found (Err e) = Err e

-- none at the end of the tape, else its first record and what is left, or why there is none
abbrev pub read : List ℕ → Result (Option Found) ReadRefusal
read [] = Ok None
read (a ∷ []) = Err Cut
read (a ∷ b ∷ []) = Err Cut
read (a ∷ b ∷ k ∷ bs) = some_found (read_kind (kind_of k) (a ∷ b ∷ []) bs)
