-- The calls of a run are those that the records of its tape ask for.
use Rattle.std.proofs.Common.{◌≡◌, ℕ, ◌-◌, Bool, true, false, cond, eqb, List, [], ◌∷◌, ◌++◌, Ok, Err, Result, sym, refl, ap, ◌∙◌, append_assoc, append-nil}
use Rattle.std.proofs.lemmas.Bool.{eqb-false}
use Rattle.guard.specs.Meaning.{Meaning}
use Rattle.guard.specs.declared.reading.Reading.{Reading}
use Rattle.guard.specs.declared.refusal.StateRefusal.{StateRefusal}
use Rattle.history.specs.History.{History}
use Rattle.history.specs.Outcome.{Held, outcome}
use Rattle.history.specs.declared.calls.Call.{Call}
use Rattle.history.specs.declared.calls.Call.TheVariants.{Begin, Observe}
use Rattle.history.specs.declared.calls.Answer.{Answer}
use Rattle.history.specs.declared.calls.Answer.TheVariants.{Accepted, Granted, Spent, Ended, Refused}
use Rattle.records.specs.Refusals.{numbered_read}
use Rattle.records.specs.Tapes.{Stop, at_end, at_fault}
use Rattle.records.specs.declared.record.Record.{Record}
use Rattle.records.specs.declared.record.Record.TheVariants.{Begin as Begins, Decide as Decides, Observe as Observes, Close as Closes, Switch, Refusal, Closing}
use Rattle.runs.specs.Asking.{Request, calls, no_state, nothing, asks, reading_of, with_reading}
use Rattle.runs.specs.Courses.{next_place, broken, deeds, Course, size, full, ended, then, within}
use Rattle.runs.specs.Deeds.{Deed, deed, answered}
use Rattle.runs.specs.Law.{call_of, unless_spend, calls_in, Called}
use Rattle.runs.specs.declared.refusal.TapeRefusal.TheVariants.{LogRecord}

-- no record asks to spend a grant
Plain : {S : Type 0} → Request S → Type 0
Plain (calls c) = unless_spend c ≡ c ∷ []
Plain (no_state x) = Unit {0}
Plain (nothing x) = Unit {0}

module _ {S : Type 0} (m : Meaning S) where
  plain_with : (f : Reading S → Call S) → ((r : Reading S) → unless_spend (f r) ≡ f r ∷ []) → (x : Result (Reading S) StateRefusal) → Plain (with_reading f x)
  unfolding Plain
  plain_with f h (Ok r) = h r
  plain_with f h (Err x) = tt

  plain : (r : Record) → Plain (asks m r)
  unfolding Plain
  plain (Begins n) = plain_with Begin (λ r. refl) (reading_of m n)
  plain (Decides b) = refl
  plain (Observes n) = plain_with Observe (λ r. refl) (reading_of m n)
  plain Closes = refl
  plain (Switch t why n) = tt
  plain (Refusal i x) = tt
  plain (Closing t given spent gains losses) = tt

  module _ (mission : ℕ) where
    answered_calls : (i : ℕ) (e f : Held S) (c : Call S) (a : Answer) → calls_in (answered m mission i e c a f).events ≡ unless_spend c
    answered_calls i e f c Accepted = refl
    answered_calls i e f c (Granted t) = append-nil (unless_spend c)
    answered_calls i e f c (Spent x) = refl
    answered_calls i e f c (Ended t) = refl
    answered_calls i e f c (Refused x) = refl

    deed_calls : (i : ℕ) (e : Held S) (q : Request S) → Plain q → calls_in (deed m mission i e q).events ≡ call_of q
    unfolding Plain
    deed_calls i e (calls c) p = answered_calls i e (outcome m mission e c).held c (outcome m mission e c).answer ∙ p
    deed_calls i e (no_state x) p = refl
    deed_calls i e (nothing x) p = refl

    ending_so : (i : ℕ) (e : Held S) (q : Request S) → ((deed m mission i e q).ending ≡ 0 → ⊥) → (deed m mission i e q).ending ≡ 15
    ending_so i e (calls c) n = absurd (n refl)
    ending_so i e (no_state x) n = absurd (n refl)
    ending_so i e (nothing LogRecord) n = refl

  calls_both : (es fs : History S) → calls_in (es ++ fs) ≡ calls_in fs ++ calls_in es
  calls_both [] fs = sym (append-nil (calls_in fs))
  calls_both (e ∷ es) fs = ap (λ (cs : List (Call S)). cs ++ unless_spend e.call) (calls_both es fs) ∙ append_assoc (calls_in fs) (calls_in es) (unless_spend e.call)

  -- a course whose first deed is d, for the record r
  first_called : (r : Record) (rs : List Record) (d : Deed S) (c : Course S) (short on : Bool) → calls_in d.events ≡ call_of (asks m r) → (on ≡ false → d.ending ≡ 15) → (on ≡ true → Called m rs c.events c.number) → let w = cond short (full d) (cond on (then d c) (ended d)) in Called m (r ∷ rs) w.events w.number
  first_called r rs d c true on q last further = record { dealt = r ∷ []; later = rs; records_are = refl; calls_are = q ∙ sym (append-nil (call_of (asks m r))); whole = λ a b. absurd (b refl) }
  first_called r rs d c false true q last further =
      let k = further refl in
      record {
        dealt = r ∷ k.dealt;
        later = k.later;
        records_are = ap (λ (xs : List Record). r ∷ xs) k.records_are;
        calls_are = calls_both c.events d.events ∙ ap (λ (cs : List (Call S)). cs ++ calls_in c.events) q ∙ ap (λ (cs : List (Call S)). call_of (asks m r) ++ cs) k.calls_are;
        whole = k.whole;
      }
  first_called r rs d c false false q last further = record { dealt = r ∷ []; later = rs; records_are = refl; calls_are = q ∙ sym (append-nil (call_of (asks m r))); whole = λ a b. absurd (a (last refl)) }

  -- where the tape has no record, no call is made
  broken_called : (c : Course S) (short on : Bool) (d : Deed S) → d.events ≡ [] → c.events ≡ [] → let w = cond short (full d) (cond on (then d c) (ended d)) in Called m [] w.events w.number
  broken_called c true on d p q = record { dealt = []; later = []; records_are = refl; calls_are = ap calls_in p; whole = λ a b. refl }
  broken_called c false true d p q = record { dealt = []; later = []; records_are = refl; calls_are = ap calls_in (ap (λ (es : History S). es ++ d.events) q ∙ p); whole = λ a b. refl }
  broken_called c false false d p q = record { dealt = []; later = []; records_are = refl; calls_are = ap calls_in p; whole = λ a b. refl }

  pub course_called : (mission room i : ℕ) (e : Held S) (rs : List Record) (s : Stop) → Called m rs (within room e (deeds m mission i e rs s)).events (within room e (deeds m mission i e rs s)).number
  course_called mission room i e [] at_end = record { dealt = []; later = []; records_are = refl; calls_are = refl; whole = λ a b. refl }
  course_called mission room i e [] (at_fault x) = broken_called (record { held = e; events = []; log = []; number = 0 }) _ (eqb (numbered_read x) 0) (broken i e x) refl refl
  course_called mission room i e (r ∷ rs) s =
      let d = deed m mission i e (asks m r) in
      let left = room - size d.entry in
      let rest = course_called mission left (next_place i) d.held rs s in
      first_called r rs d _ _ (eqb d.ending 0) (deed_calls mission i e (asks m r) (plain r)) (λ z. ending_so mission i e (asks m r) (eqb-false d.ending 0 z)) (λ z. rw z rest)
