-- What a run promises.
use Rattle.std.specs.Prelude.{◌≡◌, ℕ, ◌<◌, List, [], ◌∷◌, ◌++◌, length, take, Some, None, Ok, filter, Option, Result, ◌≢◌}
use Rattle.guard.specs.Meaning.{Meaning}
use Rattle.history.specs.History.{History}
use Rattle.history.specs.Findings.{Findings}
use Rattle.history.specs.Use.{Used}
use Rattle.executive.specs.Holding.{held}
use Rattle.guard.specs.declared.Guard.{Ghosts}
use Rattle.executive.specs.declared.held.Executive.{Executive}
use Rattle.records.specs.Tapes.{at_end, Tape, joined, contents}
use Rattle.records.specs.Writing.{placed, Written}
use Rattle.records.specs.declared.record.Record.{Record}
use Rattle.records.specs.declared.refusal.WriteRefusal.{WriteRefusal}
use Rattle.runs.specs.Courses.{course, deeds_on, next_place}
use Rattle.runs.specs.Deeds.{Deed}
use Rattle.runs.specs.Law.{Called, tellings, tells}
use Rattle.runs.specs.Refusals.{end_number}
use Rattle.runs.specs.declared.due.Due.{Due}
use Rattle.runs.specs.declared.run.Ended.{Ended}

-- y is due first of the tape, from the executive d to e; then what is left is the rest
pub record First {G S : Type 0} {gs : Ghosts G S} (m : Meaning S) (i : ℕ) (tape : List ℕ) (y : Due) (d e : Executive G S gs) (rest : List ℕ) : Type 0 where
  pub deed : Deed S
  pub later : List (Deed S)
  pub deeds_are : deeds_on m d.mission i (held d) tape ≡ deed ∷ later
  pub entry_is : y.entry ≡ deed.entry
  pub ending_is : end_number y.ending ≡ deed.ending
  pub held_is : held e ≡ deed.held
  pub later_are : y.ending ≡ None → later ≡ deeds_on m d.mission (next_place i) (held e) rest
  pub shorter : y.ending ≡ None → length rest < length tape

-- what is due next: nothing at the tape's end
abbrev pub NextDue : {G S : Type 0} {gs : Ghosts G S} → Meaning S → ℕ → List ℕ → Option Due → Executive G S gs → Executive G S gs → List ℕ → Type 0
NextDue m i tape None d e rest = (deeds_on m d.mission i (held d) tape ≡ []) × (held e ≡ held d)
NextDue m i tape (Some y) d e rest = First m i tape y d e rest

-- an entry was to be kept in the log at the place; none changes nothing
abbrev pub Kept : List ℕ → ℕ → Option Record → Result ℕ WriteRefusal → List ℕ → Type 0
Kept log at None y after = (y ≡ Ok at) × (after ≡ log)
Kept log at (Some r) y after = Written log at r y after

-- a run over the tape into the log: it ended with y, and then the log holds what after has, and the executive d has become e
pub record Came {G S : Type 0} {gs : Ghosts G S} (m : Meaning S) (tape log : List ℕ) (y : Ended) (after : List ℕ) (d e : Executive G S gs) : Type 0 where
  pub number_is : end_number y.refusal ≡ (course m d.mission (length log) (held d) tape).number
  pub written_is : y.written ≡ length (joined (course m d.mission (length log) (held d) tape).log)
  pub log_is : after ≡ placed log 0 (joined (course m d.mission (length log) (held d) tape).log)
  pub held_is : held e ≡ (course m d.mission (length log) (held d) tape).held
  pub guard_is : e.guard ≡ d.guard
  pub mission_is : e.mission ≡ d.mission
  -- what was written is read back as the records logged
  pub back : Tape (take y.written after) (course m d.mission (length log) (held d) tape).log at_end

-- the same, and what it means: for every history that led to the executive, it goes on with exactly the calls of the run
pub record Ran {G S : Type 0} {gs : Ghosts G S} (m : Meaning S) (tape log : List ℕ) (y : Ended) (after : List ℕ) (d e : Executive G S gs) : Type 0 where
  pub came : Came m tape log y after d e
  -- the records of the tape, which the course is about
  pub tape_is : Tape tape (contents tape).records (contents tape).stop
  -- the calls made are those that these records ask for
  pub called : Called m (contents tape).records (course m d.mission (length log) (held d) tape).events (end_number y.refusal)
  pub history : (h : History S) → Used m d.mission (held d) h → Used m d.mission (held e) ((course m d.mission (length log) (held d) tape).events ++ h)
  pub findings : (h : History S) → Used m d.mission (held d) h → Findings m d.mission ((course m d.mission (length log) (held d) tape).events ++ h)
  -- unless the log had no room, it tells each change of control and the close, in order and as the history has them
  pub telling : (h : History S) → Used m d.mission (held d) h → (end_number y.refusal ≢ 16) → filter tells (course m d.mission (length log) (held d) tape).log ≡ tellings m (course m d.mission (length log) (held d) tape).events h
