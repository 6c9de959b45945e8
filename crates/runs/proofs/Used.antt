-- Whatever history led to an executive, it goes on with exactly the calls of a run.
use Rattle.std.proofs.Common.{◌≡◌, ℕ, ◌-◌, Bool, true, false, cond, eqb, List, [], ◌∷◌, ◌++◌, refl, append_assoc}
use Rattle.guard.specs.Meaning.{Meaning, Laws}
use Rattle.history.specs.History.{History}
use Rattle.history.specs.Outcome.{Held, outcome}
use Rattle.history.specs.Use.{Used}
use Rattle.history.specs.declared.calls.Call.{Call}
use Rattle.history.specs.declared.calls.Call.TheVariants.{Spend}
use Rattle.history.specs.declared.calls.Answer.{Answer}
use Rattle.history.specs.declared.calls.Answer.TheVariants.{Accepted, Granted, Spent, Ended, Refused}
use Rattle.history.proofs.Going.{goes_on}
use Rattle.records.specs.Refusals.{numbered_read}
use Rattle.records.specs.Tapes.{Stop, at_end, at_fault}
use Rattle.records.specs.declared.record.Record.{Record}
use Rattle.runs.specs.Asking.{Request, calls, no_state, nothing, asks}
use Rattle.runs.specs.Courses.{next_place, broken, deeds, Course, size, full, ended, then, within}
use Rattle.runs.specs.Deeds.{Deed, deed, answered}

module _ {S : Type 0} (m : Meaning S) (laws : Laws m) (mission : ℕ) where
  -- the history goes on with these events, and then this is held
  Onward : Held S → History S → History S → Type 0
  Onward f events h = Used m mission f (events ++ h)

  answered_onward : (i : ℕ) (e f : Held S) (c : Call S) (a : Answer) (h : History S) → Used m mission f (record { call = c; answer = a } ∷ h) → Onward (answered m mission i e c a f).held (answered m mission i e c a f).events h
  unfolding Onward
  answered_onward i e f c Accepted h u = u
  answered_onward i e f c (Granted t) h u = (goes_on m mission f (record { call = c; answer = Granted t } ∷ h) u laws (Spend t)).used
  answered_onward i e f c (Spent a) h u = u
  answered_onward i e f c (Ended t) h u = u
  answered_onward i e f c (Refused x) h u = u

  pub deed_onward : (i : ℕ) (e : Held S) (q : Request S) (h : History S) → Used m mission e h → Used m mission (deed m mission i e q).held ((deed m mission i e q).events ++ h)
  unfolding Onward
  deed_onward i e (calls c) h u = answered_onward i e (outcome m mission e c).held c (outcome m mission e c).answer h (goes_on m mission e h u laws c).used
  deed_onward i e (no_state x) h u = u
  deed_onward i e (nothing x) h u = u

  -- a course whose first deed is d: the room and the ending as they may be
  first_onward : (d : Deed S) (c : Course S) (short on : Bool) (h : History S) → Onward d.held d.events h → (on ≡ true → Onward c.held c.events (d.events ++ h)) → let w = cond short (full d) (cond on (then d c) (ended d)) in Onward w.held w.events h
  unfolding Onward
  first_onward d c true on h u further = u
  first_onward d c false true h u further = rw append_assoc (further refl)
  first_onward d c false false h u further = u

  pub course_onward : (room i : ℕ) (e : Held S) (rs : List Record) (s : Stop) (h : History S) → Used m mission e h → Used m mission (within room e (deeds m mission i e rs s)).held ((within room e (deeds m mission i e rs s)).events ++ h)
  unfolding Onward
  course_onward room i e [] at_end h u = u
  course_onward room i e [] (at_fault x) h u = first_onward (broken i e x) (record { held = e; events = []; log = []; number = 0 }) _ (eqb (numbered_read x) 0) h u (λ z. u)
  course_onward room i e (r ∷ rs) s h u =
      let d = deed m mission i e (asks m r) in
      let left = room - size d.entry in
      let now = deed_onward i e (asks m r) h u in
      let rest = course_onward left (next_place i) d.held rs s (d.events ++ h) now in
      first_onward d _ _ (eqb d.ending 0) h now (λ z. rw z rest)
