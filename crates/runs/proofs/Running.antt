-- A run as it goes on, record by record.
use Rattle.std.proofs.Common.{◌≡◌, ℕ, ◌+◌, ◌-◌, ◌≤◌, Bool, true, false, cond, eqb, ltb, List, [], ◌∷◌, ◌++◌, length, take, Some, None, Ok, Err, Option, Result, sym, refl, ap, ◌∙◌, append_assoc, append-nil, arith, length-append, take_at}
use Rattle.std.specs.Option.{option_to_list}
use Rattle.std.proofs.lemmas.Bool.{cond-true, cond-false, ltb-false, eq-eqb, ne_eqb}
use Rattle.guard.specs.Meaning.{Meaning}
use Rattle.executive.specs.Holding.{held}
use Rattle.guard.specs.declared.Guard.{Ghosts}
use Rattle.executive.specs.declared.held.Executive.{Executive}
use Rattle.records.specs.Bytes.{bytes}
use Rattle.records.specs.Refusals.{numbered_write}
use Rattle.records.specs.Tapes.{joined}
use Rattle.records.specs.Writing.{placed}
use Rattle.records.specs.declared.record.Record.{Record}
use Rattle.records.specs.declared.refusal.WriteRefusal.{WriteRefusal}
use Rattle.records.specs.declared.refusal.WriteRefusal.TheVariants.{NoRoom}
use Rattle.records.proofs.Placing.{placed_then, placed_none, length_placed}
use Rattle.records.proofs.Scanned.{Backed, tape_of, backed_both, joined_both}
use Rattle.runs.specs.Courses.{next_place, deeds_on, Course, size, full, ended, then, within, course}
use Rattle.records.specs.declared.refusal.ReadRefusal.TheVariants.{Cut, WrongMark, UnknownKind}
use Rattle.runs.specs.Ran.{First, Kept, Came}
use Rattle.runs.specs.Refusals.{numbered_run, end_number}
use Rattle.runs.specs.declared.refusal.RunRefusal.{RunRefusal}
use Rattle.runs.specs.declared.refusal.RunRefusal.TheVariants.{Read, Tape as OnTape, Write}
use Rattle.runs.specs.declared.refusal.TapeRefusal.TheVariants.{LogRecord}
use Rattle.runs.specs.declared.due.Due.{Due}
use Rattle.runs.specs.declared.run.Ended.{Ended}

-- what keeping an entry says, where there is room and where there is none
pub record Stored (log : List ℕ) (at : ℕ) (entry : Option Record) (next : ℕ) (after : List ℕ) : Type 0 where
  pub fits : ltb (length log - at) (size entry) ≡ false
  pub next_is : next ≡ at + size entry
  pub after_is : after ≡ placed log at (joined (option_to_list entry))
  pub backed : Backed (option_to_list entry)

pub record PassedOver (log : List ℕ) (at : ℕ) (entry : Option Record) (x : WriteRefusal) (after : List ℕ) : Type 0 where
  pub short : ltb (length log - at) (size entry) ≡ true
  pub after_is : after ≡ log
  pub number_is : numbered_write x ≡ 16

-- what is left of the test on the room, by the answer
by_room : (b : Bool) (next end : ℕ) → Ok next ≡ cond {A = Result ℕ WriteRefusal} b (Err NoRoom) (Ok end) → (b ≡ false) × (next ≡ end)
by_room true next end e = cc
by_room false next end e = (refl, cc)

by_no_room : (b : Bool) (x : WriteRefusal) (end : ℕ) → Err x ≡ cond {A = Result ℕ WriteRefusal} b (Err NoRoom) (Ok end) → b ≡ true
by_no_room true x end e = refl
by_no_room false x end e = cc

not_zero : (x : RunRefusal) → numbered_run x ≡ 0 → ⊥
not_zero (Read Cut) e = omega arith
not_zero (Read WrongMark) e = omega arith
not_zero (Read UnknownKind) e = omega arith
not_zero (OnTape LogRecord) e = omega arith
not_zero (Write NoRoom) e = omega arith

always_sixteen : (x : WriteRefusal) → numbered_write x ≡ 16
always_sixteen NoRoom = refl

pub stored : (log : List ℕ) (at : ℕ) (entry : Option Record) (next : ℕ) (after : List ℕ) → Kept log at entry (Ok next) after → Stored log at entry next after
stored log at None next after (e, l) =
    let n : next ≡ at = cc in
    record { fits = grind arith; next_is = omega arith; after_is = l ∙ placed_none log at; backed = tt }
stored log at (Some r) next after w =
    let f = by_room (ltb (length log - at) (length (bytes r))) next (at + length (bytes r)) w.answer_is in
    record {
      fits = f.0;
      next_is = f.1;
      after_is = w.log_is ∙ cond-false _ _ _ f.0 ∙ ap (placed log at) (sym (append-nil (bytes r)));
      backed = (w.back, tt);
    }

pub passed_over : (log : List ℕ) (at : ℕ) (entry : Option Record) (x : WriteRefusal) (after : List ℕ) → Kept log at entry (Err x) after → PassedOver log at entry x after
passed_over log at None x after (e, l) = cc
passed_over log at (Some r) x after w =
    let f = by_no_room (ltb (length log - at) (length (bytes r))) x (at + length (bytes r)) w.answer_is in
    record { short = f; after_is = w.log_is ∙ cond-true _ _ _ f; number_is = always_sixteen x }

sized : (o : Option Record) → length (joined (option_to_list o)) ≡ size o
sized None = refl
sized (Some r) = ap length (append-nil (bytes r))

-- after some records of the tape, the place i and at bytes of the log: the executive d has become e, the log holds what nowlog has, and the rest is to be read
pub record Going {G S : Type 0} {gs : Ghosts G S} (m : Meaning S) (tape log : List ℕ) (d : Executive G S gs) (i at : ℕ) (nowlog : List ℕ) (e : Executive G S gs) (rest : List ℕ) : Type 0 where
  pub done : List Record
  pub guard_is : e.guard ≡ d.guard
  pub mission_is : e.mission ≡ d.mission
  pub at_is : at ≡ length (joined done)
  pub room : at ≤ length log
  pub log_is : nowlog ≡ placed log 0 (joined done)
  pub backed : Backed done
  pub held_is : (course m d.mission (length log) (held d) tape).held ≡ (within (length log - at) (held e) (deeds_on m d.mission i (held e) rest)).held
  pub number_is : (course m d.mission (length log) (held d) tape).number ≡ (within (length log - at) (held e) (deeds_on m d.mission i (held e) rest)).number
  pub course_is : (course m d.mission (length log) (held d) tape).log ≡ done ++ (within (length log - at) (held e) (deeds_on m d.mission i (held e) rest)).log

-- the same by the course that is left
pub record Left {G S : Type 0} {gs : Ghosts G S} (m : Meaning S) (tape log : List ℕ) (d : Executive G S gs) (done : List Record) (left : Course S) : Type 0 where
  pub held_is : (course m d.mission (length log) (held d) tape).held ≡ left.held
  pub number_is : (course m d.mission (length log) (held d) tape).number ≡ left.number
  pub course_is : (course m d.mission (length log) (held d) tape).log ≡ done ++ left.log

pub going_none : {G S : Type 0} {gs : Ghosts G S} (m : Meaning S) (tape log : List ℕ) (d : Executive G S gs) → Going m tape log d 0 0 log d tape
going_none m tape log d =
    let z : length log ≡ length log - 0 = omega arith in
    record {
      done = [];
      guard_is = refl;
      mission_is = refl;
      at_is = refl;
      room = omega arith;
      log_is = placed_none log 0;
      backed = tt;
      held_is = rw (← z);
      number_is = rw (← z);
      course_is = rw (← z);
    }

-- what is due first, by the guard that the executive has had from the start
pub first_at : {G S : Type 0} {gs : Ghosts G S} (means : G → Meaning S) {p q : G} {i : ℕ} {t later : List ℕ} {y : Due} {e f : Executive G S gs} → p ≡ q → First (means p) i t y e f later → First (means q) i t y e f later
first_at means r h = rw r at h

module _ {G S : Type 0} {gs : Ghosts G S} (m : Meaning S) (tape log : List ℕ) (d : Executive G S gs) (i at : ℕ) (nowlog : List ℕ) (e : Executive G S gs) (rest : List ℕ) (k : Going m tape log d i at nowlog e rest) where
  left_by : (c : Course S) → within (length log - at) (held e) (deeds_on m d.mission i (held e) rest) ≡ c → Left m tape log d k.done c
  left_by c w =
      record {
        held_is = rw w at k.held_is;
        number_is = rw w at k.number_is;
        course_is = rw w at k.course_is;
      }

  same_length : length nowlog ≡ length log
  same_length = let b = k.at_is in ap length k.log_is ∙ length_placed log 0 (joined k.done) (let r = k.room in omega arith)

  -- the run comes to its end with what was logged in all
  came : (all : List Record) (y : Ended) (after : List ℕ) (f : Executive G S gs) → (course m d.mission (length log) (held d) tape).log ≡ all → Backed all → y.written ≡ length (joined all) → after ≡ placed log 0 (joined all) → end_number y.refusal ≡ (course m d.mission (length log) (held d) tape).number → held f ≡ (course m d.mission (length log) (held d) tape).held → f.guard ≡ d.guard → f.mission ≡ d.mission → Came m tape log y after d f
  came all y after f a b w l n h gu mi =
      let t : take y.written after ≡ joined all = ap (take y.written) l ∙ take_at (joined all) _ y.written (sym w) in
      record {
        number_is = n;
        written_is = rw a w;
        log_is = rw a l;
        held_is = h;
        guard_is = gu;
        mission_is = mi;
        back = rw (a, t) (tape_of all b);
      }

  -- the tape's end
  pub going_end : (y : Ended) (f : Executive G S gs) → deeds_on m e.mission i (held e) rest ≡ [] → held f ≡ held e → f.guard ≡ e.guard → f.mission ≡ e.mission → y.written ≡ at → y.refusal ≡ None → Came m tape log y nowlog d f
  going_end y f q h g mi w n =
      let none = rw k.mission_is at q in
      let l = left_by (record { held = held e; events = []; log = []; number = 0 }) (ap (within (length log - at) (held e)) none) in
      came k.done y nowlog f (l.course_is ∙ append-nil k.done) k.backed (w ∙ k.at_is) k.log_is (ap end_number n ∙ sym l.number_is) (h ∙ sym l.held_is) (g ∙ k.guard_is) (mi ∙ k.mission_is)

  module _ (y : Due) (f : Executive G S gs) (later : List ℕ) (first : First m i rest y e f later) where
    head : deeds_on m d.mission i (held e) rest ≡ first.deed ∷ first.later
    head = rw k.mission_is at first.deeds_are

    tested : (b : Bool) → ltb (length nowlog - at) (size y.entry) ≡ b → ltb (length log - at) (size first.deed.entry) ≡ b
    tested b t = rw (same_length, first.entry_is) at t

    -- the entry does not fit
    pub going_full : (x : WriteRefusal) (after : List ℕ) (z : Ended) → f.guard ≡ e.guard → f.mission ≡ e.mission → PassedOver nowlog at y.entry x after → z.written ≡ at → z.refusal ≡ Some (Write x) → Came m tape log z after d f
    going_full x after z g n p w q =
        let c = ap (within (length log - at) (held e)) head ∙ cond-true _ _ _ (tested true p.short) in
        let l = left_by (full first.deed) c in
        came k.done z after f (l.course_is ∙ append-nil k.done) k.backed (w ∙ k.at_is) (p.after_is ∙ k.log_is) (ap end_number q ∙ p.number_is ∙ sym l.number_is) (first.held_is ∙ sym l.held_is) (g ∙ k.guard_is) (n ∙ k.mission_is)

    module _ (next : ℕ) (after : List ℕ) (s : Stored nowlog at y.entry next after) where
      entry_size : length (joined (option_to_list y.entry)) ≡ size y.entry
      entry_size = sized y.entry

      fitting : at + size y.entry ≤ length log
      fitting = let h = ltb-false (length nowlog - at) (size y.entry) s.fits in let l = same_length in let r = k.room in omega arith

      more_backed : Backed (k.done ++ option_to_list y.entry)
      more_backed = backed_both k.done (option_to_list y.entry) k.backed s.backed

      more_length : next ≡ length (joined (k.done ++ option_to_list y.entry))
      more_length =
          let j = ap length (joined_both k.done (option_to_list y.entry)) ∙ length-append (joined k.done) (joined (option_to_list y.entry)) in
          let n = s.next_is in
          let a = k.at_is in
          let z = entry_size in
          omega arith

      more_placed : after ≡ placed log 0 (joined (k.done ++ option_to_list y.entry))
      more_placed =
          let a = k.at_is in
          let z = entry_size in
          let f' = fitting in
          rw (joined_both k.done (option_to_list y.entry)) (placed_then log 0 at (joined k.done) (joined (option_to_list y.entry)) nowlog after (omega arith) (omega arith) k.log_is s.after_is)

      not_short : within (length log - at) (held e) (deeds_on m d.mission i (held e) rest) ≡ cond (eqb first.deed.ending 0) (then first.deed (within (length log - at - size first.deed.entry) first.deed.held first.later)) (ended first.deed)
      not_short = ap (within (length log - at) (held e)) head ∙ cond-false _ _ _ (tested false s.fits)

      -- the record ends the run
      pub going_ended : (x : RunRefusal) (z : Ended) → f.guard ≡ e.guard → f.mission ≡ e.mission → y.ending ≡ Some x → z.written ≡ next → z.refusal ≡ Some x → Came m tape log z after d f
      going_ended x z g n o w q =
          let number : first.deed.ending ≡ numbered_run x = sym first.ending_is ∙ ap end_number o in
          let b : eqb first.deed.ending 0 ≡ false = ne_eqb first.deed.ending 0 (λ u. not_zero x (sym number ∙ u)) in
          let l = left_by (ended first.deed) (not_short ∙ cond-false _ _ _ b) in
          came (k.done ++ option_to_list y.entry) z after f (rw (← first.entry_is) at l.course_is) more_backed (w ∙ more_length) more_placed (ap end_number q ∙ sym number ∙ sym l.number_is) (first.held_is ∙ sym l.held_is) (g ∙ k.guard_is) (n ∙ k.mission_is)

      -- and otherwise it goes on
      pub going_more : f.guard ≡ e.guard → f.mission ≡ e.mission → y.ending ≡ None → Going m tape log d (next_place i) next after f later
      going_more g n o =
          let b : eqb first.deed.ending 0 ≡ true = eq-eqb first.deed.ending 0 (sym first.ending_is ∙ ap end_number o) in
          let c = not_short ∙ cond-true _ _ _ b in
          let r : length log - at - size first.deed.entry ≡ length log - next = let v = ap size first.entry_is in let u = s.next_is in omega arith in
          let left = within (length log - at - size first.deed.entry) first.deed.held first.later in
          let onward = within (length log - next) (held f) (deeds_on m d.mission (next_place i) (held f) later) in
          let t : left ≡ onward = rw (r, ← first.held_is, first.later_are o, k.mission_is) in
          let l = left_by (then first.deed onward) (c ∙ ap (then first.deed) t) in
          record {
            done = k.done ++ option_to_list y.entry;
            guard_is = g ∙ k.guard_is;
            mission_is = n ∙ k.mission_is;
            at_is = more_length;
            room = let u = s.next_is in let v = fitting in omega arith;
            log_is = more_placed;
            backed = more_backed;
            held_is = l.held_is;
            number_is = l.number_is;
            course_is = rw (first.entry_is, append_assoc) l.course_is;
          }
