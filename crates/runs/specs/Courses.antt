-- The course of a run: what the records of a tape come to, one after another, as far as the log has room.
use Rattle.std.specs.Prelude.{ℕ, ◌+◌, ◌-◌, ◌%◌, ◌^◌, cond, List, [], ◌∷◌, ◌++◌, length, Some, None, Option, ◌==◌, nat_lt}
use Rattle.std.specs.Option.{option_to_list}
use Rattle.guard.specs.Meaning.{Meaning}
use Rattle.history.specs.History.{History}
use Rattle.history.specs.Outcome.{Held}
use Rattle.records.specs.Bytes.{bytes}
use Rattle.records.specs.Refusals.{numbered_read}
use Rattle.records.specs.Tapes.{Stop, at_end, at_fault, contents}
use Rattle.records.specs.declared.record.Record.{Record}
use Rattle.records.specs.declared.record.Record.TheVariants.{Refusal}
use Rattle.records.specs.declared.refusal.ReadRefusal.{ReadRefusal}
use Rattle.runs.specs.Asking.{asks}
use Rattle.runs.specs.Deeds.{Deed, deed}

-- records are numbered from 0, by 32 bits
abbrev pub next_place : ℕ → ℕ
next_place i = (i + 1) % 2 ^ 32

-- where the tape has no record, its refusal is logged and ends the run
abbrev pub broken : {S : Type 0} → ℕ → Held S → ReadRefusal → Deed S
broken i e x = record { held = e; events = []; entry = Some (Refusal i (numbered_read x)); ending = numbered_read x }

module _ {S : Type 0} (m : Meaning S) (mission : ℕ) where
  -- what the records come to, from number i on, up to one that ends the run
  abbrev pub deeds : ℕ → Held S → List Record → Stop → List (Deed S)
  deeds i e [] at_end = []
  deeds i e [] (at_fault x) = broken i e x ∷ []
  deeds i e (r ∷ rs) s =
      let d = deed m mission i e (asks m r) in
      d ∷ cond (d.ending == 0) (deeds (next_place i) d.held rs s) []

  -- those of a tape
  abbrev pub deeds_on : ℕ → Held S → List ℕ → List (Deed S)
  deeds_on i e tape = deeds i e (contents tape).records (contents tape).stop

pub record Course (S : Type 0) : Type 0 where
  -- what the executive holds at the end
  pub held : Held S
  -- the calls that were made with their answers, the newest first
  pub events : History S
  -- the records that were logged, the oldest first
  pub log : List Record
  -- the number that ended the run, or 0
  pub number : ℕ

-- how many bytes an entry takes
abbrev pub size : Option Record → ℕ
size None = 0
size (Some r) = length (bytes r)

-- the entry of the deed does not fit
abbrev pub full : {S : Type 0} → Deed S → Course S
full d = record { held = d.held; events = d.events; log = []; number = 16 }

-- the deed ends the run
abbrev pub ended : {S : Type 0} → Deed S → Course S
ended d = record { held = d.held; events = d.events; log = option_to_list d.entry; number = d.ending }

-- the deed, and then a course
abbrev pub then : {S : Type 0} → Deed S → Course S → Course S
then d c = record { held = c.held; events = c.events ++ d.events; log = option_to_list d.entry ++ c.log; number = c.number }

-- the deeds one after another, as far as a log of so many bytes has room
abbrev pub within : {S : Type 0} → ℕ → Held S → List (Deed S) → Course S
within room e [] = record { held = e; events = []; log = []; number = 0 }
within room e (d ∷ ds) = cond (nat_lt room (size d.entry)) (full d) (cond (d.ending == 0) (then d (within (room - size d.entry) d.held ds)) (ended d))

-- the course of a run over the tape into a log of so many bytes, from where e is held
abbrev pub course : {S : Type 0} → Meaning S → ℕ → ℕ → Held S → List ℕ → Course S
course m mission room e tape = within room e (deeds_on m mission 0 e tape)
