-- What a reader promises.
use Rattle.std.specs.Prelude.{◌≡◌, ℕ, ◌↔◌, List, [], ◌++◌, Some, None, Ok, Err, Option, Result}
use Rattle.std.specs.Borrow.{Bor}
use Rattle.records.specs.Bytes.{bytes}
use Rattle.records.specs.Reads.{Found, read}
use Rattle.records.specs.declared.record.Record.{Record}
use Rattle.records.specs.declared.refusal.ReadRefusal.{ReadRefusal}

-- the answer of a decoder, which hands on what is left of the tape
abbrev pub Decoded : Result Found ReadRefusal → Result (Record × Bor (List ℕ)) ReadRefusal → Type 0
Decoded x (Ok p) = x ≡ Ok (p.0, p.1.now)
Decoded x (Err e) = x ≡ Err e

-- what a reader of the tape is answered, and what is then left to read
abbrev pub answered : Result (Option Found) ReadRefusal → Result (Option Record) ReadRefusal
answered (Ok None) = Ok None
answered (Ok (Some (r, rest))) = Ok (Some r)
answered (Err e) = Err e

abbrev pub left : List ℕ → Result (Option Found) ReadRefusal → List ℕ
left tape (Ok None) = tape
left tape (Ok (Some (r, rest))) = rest
left tape (Err e) = tape

-- where a record is read, the bytes taken are that record's bytes
abbrev pub Taken : List ℕ → Result (Option Record) ReadRefusal → List ℕ → Type 0
Taken tape (Ok None) rest = Unit {0}
Taken tape (Ok (Some r)) rest = tape ≡ bytes r ++ rest
Taken tape (Err e) rest = Unit {0}

-- the same of a decoder
abbrev pub Decodes : List ℕ → Result (Record × Bor (List ℕ)) ReadRefusal → Type 0
Decodes tape (Ok p) = tape ≡ bytes p.0 ++ p.1.now
Decodes tape (Err e) = Unit {0}

-- from the tape, the reader answers y and goes on at the rest
pub record Next (tape : List ℕ) (y : Result (Option Record) ReadRefusal) (rest : List ℕ) : Type 0 where
  pub answer_is : y ≡ answered (read tape)
  pub left_is : rest ≡ left tape (read tape)
  pub taken : Taken tape y rest
  -- none is answered at the end of the tape, and only there
  pub none_is : (y ≡ Ok None) ↔ (tape ≡ [])
