-- The records of a whole tape, read one after another.
use Rattle.std.specs.Prelude.{◌≡◌, ℕ, zero, suc, List, [], ◌∷◌, ◌++◌, length, Some, None, Ok, Err, Option, Result}
use Rattle.records.specs.Bytes.{bytes}
use Rattle.records.specs.Reads.{Found, read}
use Rattle.records.specs.declared.record.Record.{Record}
use Rattle.records.specs.declared.refusal.ReadRefusal.{ReadRefusal}

-- where the reading of a tape stops: at its end, or where there is no record
pub data Stop : Type 0 where
  at_end : Stop
  at_fault : ReadRefusal → Stop

-- the tape has these records, and then stops so
pub data Tape : List ℕ → List Record → Stop → Type 0 where
  ends : {t : List ℕ} → read t ≡ Ok None → Tape t [] at_end
  breaks : {t : List ℕ} {x : ReadRefusal} → read t ≡ Err x → Tape t [] (at_fault x)
  goes_on : {t rest : List ℕ} {r : Record} {rs : List Record} {s : Stop} → read t ≡ Ok (Some (r, rest)) → Tape rest rs s → Tape t (r ∷ rs) s

-- the bytes of records one after another
abbrev pub joined : List Record → List ℕ
joined [] = []
joined (r ∷ rs) = bytes r ++ joined rs

-- what a tape has, by reading at most so many records
pub record Contents : Type 0 where
  pub records : List Record
  pub stop : Stop

abbrev pub with_first : Record → Contents → Contents
with_first r c = record { records = r ∷ c.records; stop = c.stop }

abbrev pub after_read : Result (Option Found) ReadRefusal → (List ℕ → Contents) → Contents
after_read (Ok None) further = record { records = []; stop = at_end }
after_read (Ok (Some (r, rest))) further = with_first r (further rest)
after_read (Err x) further = record { records = []; stop = at_fault x }

unfoldable pub at_most : ℕ → List ℕ → Contents
at_most zero t = record { records = []; stop = at_end }
at_most (suc n) t = after_read (read t) (at_most n)

-- each record has a byte, so a tape has no more records than bytes
abbrev pub contents : List ℕ → Contents
contents t = at_most (suc (length t)) t
