-- What writing a record into a buffer promises.
use Rattle.std.specs.Prelude.{◌≡◌, ℕ, ◌+◌, ◌-◌, cond, List, ◌++◌, length, take, drop, Some, Ok, Err, Result, nat_lt}
use Rattle.records.specs.Bytes.{bytes}
use Rattle.records.specs.Reads.{read}
use Rattle.records.specs.declared.record.Record.{Record}
use Rattle.records.specs.declared.refusal.WriteRefusal.{WriteRefusal}
use Rattle.records.specs.declared.refusal.WriteRefusal.TheVariants.{NoRoom}

-- the buffer with the bytes at the place, and every other byte as it was
abbrev pub placed : List ℕ → ℕ → List ℕ → List ℕ
placed log at bs = take at log ++ (bs ++ drop (at + length bs) log)

-- where the next record goes, or no room
abbrev pub end_of : List ℕ → ℕ → Record → Result ℕ WriteRefusal
end_of log at r = cond (nat_lt (length log - at) (length (bytes r))) (Err NoRoom) (Ok (at + length (bytes r)))

-- what the buffer holds then
abbrev pub with_record : List ℕ → ℕ → Record → List ℕ
with_record log at r = cond (nat_lt (length log - at) (length (bytes r))) log (placed log at (bytes r))

-- the record was to be written into the buffer at the place; the answer is y, and the buffer holds then what after has
pub record Written (log : List ℕ) (at : ℕ) (r : Record) (y : Result ℕ WriteRefusal) (after : List ℕ) : Type 0 where
  pub answer_is : y ≡ end_of log at r
  pub log_is : after ≡ with_record log at r
  -- what is written is read back the same, whatever follows it
  pub back : (rest : List ℕ) → read (bytes r ++ rest) ≡ Ok (Some (r, rest))
