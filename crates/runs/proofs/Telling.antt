-- What the log of a run tells is what its history has.
use Rattle.std.proofs.Common.{◌≡◌, ℕ, ◌-◌, Bool, true, false, cond, eqb, List, [], ◌∷◌, ◌++◌, Some, None, filter, Option, sym, refl, ap, ◌∙◌, append_assoc, append-nil}
use Rattle.std.specs.Option.{option_to_list}
use Rattle.std.proofs.lemmas.List.Elements.{filter-append}
use Rattle.guard.specs.Meaning.{Meaning, Laws}
use Rattle.guard.specs.declared.reading.Reading.{Reading}
use Rattle.history.specs.History.{History, last}
use Rattle.history.specs.Due.{same_ticket}
use Rattle.history.specs.Outcome.{Held, Outcome, refusing, in_phase, outcome, at}
use Rattle.history.specs.Use.{Used, Stands}
use Rattle.history.specs.declared.calls.Ticket.{Ticket}
use Rattle.history.specs.declared.calls.Call.{Call}
use Rattle.history.specs.declared.calls.Call.TheVariants.{Begin, Decide, Spend, Observe, Close}
use Rattle.history.specs.declared.calls.Answer.{Answer}
use Rattle.history.specs.declared.calls.Answer.TheVariants.{Accepted, Granted, Spent, Ended, Refused}
use Rattle.history.specs.declared.calls.CallRefusal.TheVariants.{NotRecoverable, OtherGrant}
use Rattle.history.specs.declared.phase.Phase.{Phase}
use Rattle.history.specs.declared.phase.Phase.TheVariants.{Parked, Ready, Granted as Giving, Moving, Closed}
use Rattle.executive.specs.View.{reading_of}
use Rattle.records.specs.Refusals.{numbered_read}
use Rattle.records.specs.Tapes.{Stop, at_end, at_fault}
use Rattle.records.specs.declared.record.Record.{Record}
use Rattle.records.specs.declared.record.Record.TheVariants.{Switch}
use Rattle.runs.specs.Asking.{Request, calls, no_state, nothing, asks, noted}
use Rattle.runs.specs.Courses.{next_place, broken, deeds, Course, size, full, ended, then, within}
use Rattle.runs.specs.Deeds.{Deed, deed, answered, logged, switch}
use Rattle.runs.specs.Law.{told, tellings, tells}
use Rattle.runs.proofs.Used.{deed_onward}

module _ {S : Type 0} (m : Meaning S) (mission : ℕ) where
  -- what is logged of an answer at the stored reading, but for refusals, is what is told of it after a history that has this reading last
  switch_told : (stored : Option (Reading S)) (t : Ticket) → filter tells (option_to_list (switch m stored t)) ≡ option_to_list (switch m stored t)
  switch_told None t = refl
  switch_told (Some r) t = by (eqb t.reason 0)
    where
      by : (b : Bool) → let o : Option Record = cond b None (Some (Switch t.tick t.reason (noted m r))) in filter tells (option_to_list o) ≡ option_to_list o
      by true = refl
      by false = refl

  answer_told : (i : ℕ) (c : Call S) (a : Answer) (h : History S) → filter tells (option_to_list (logged m i (last h) a)) ≡ option_to_list (told m (record { call = c; answer = a }) h)
  answer_told i c Accepted h = refl
  answer_told i c (Granted t) h = switch_told (last h) t
  answer_told i c (Spent x) h = refl
  answer_told i c (Ended t) h = refl
  answer_told i c (Refused x) h = refl

  Tells : ℕ → Option (Reading S) → Call S → Answer → History S → Type 0
  Tells i stored c a h = filter tells (option_to_list (logged m i stored a)) ≡ option_to_list (told m (record { call = c; answer = a }) h)

  at_last : (i : ℕ) (stored : Option (Reading S)) (c : Call S) (a : Answer) (h : History S) → last h ≡ stored → Tells i stored c a h
  unfolding Tells
  at_last i stored c a h e = rw (← e) (answer_told i c a h)

  begin_told : (i : ℕ) (e : Held S) (r : Reading S) (b : Bool) (h : History S) → let o : Outcome S = cond b (record { answer = Accepted; held = in_phase (Ready r) e }) (refusing NotRecoverable e) in Tells i None (Begin r) o.answer h
  unfolding Tells
  begin_told i e r true h = refl
  begin_told i e r false h = refl

  call_told : (i : ℕ) (e : Held S) (p : Phase S) (c : Call S) (h : History S) → Stands p h → Tells i (reading_of p) c (at m mission e p c).answer h
  unfolding Tells
  call_told i e Parked (Begin r) h s = begin_told i e r (m.recoverable r) h
  call_told i e Parked (Decide b) h s = refl
  call_told i e Parked (Spend t) h s = refl
  call_told i e Parked (Observe r) h s = refl
  call_told i e Parked Close h s = refl
  call_told i e (Ready r) c h s = at_last i (Some r) c (at m mission e (Ready r) c).answer h s.1
  call_told i e (Giving r g) c h s = at_last i (Some r) c (at m mission e (Giving r g) c).answer h s.1
  call_told i e (Moving r a) c h s = at_last i (Some r) c (at m mission e (Moving r a) c).answer h s.1
  call_told i e Closed c h s = refl

  -- nothing is told of a spend
  spend_so : (b : Bool) (e f : Held S) (t : Ticket) (a : ℕ) (k : History S) → let o : Outcome S = cond b (record { answer = Spent a; held = f }) (refusing OtherGrant e) in told m (record { call = Spend t; answer = o.answer }) k ≡ None
  spend_so true e f t a k = refl
  spend_so false e f t a k = refl

  spend_told : (e : Held S) (p : Phase S) (t : Ticket) (k : History S) → told m (record { call = Spend t; answer = (at m mission e p (Spend t)).answer }) k ≡ None
  spend_told e Parked t k = refl
  spend_told e (Ready r) t k = refl
  spend_told e (Giving r g) t k = spend_so (same_ticket g t) e _ t g.action k
  spend_told e (Moving r a) t k = refl
  spend_told e Closed t k = refl

  answered_told : (i : ℕ) (e f : Held S) (c : Call S) (a : Answer) (h : History S) → Tells i (reading_of e.phase) c a h → filter tells (option_to_list (answered m mission i e c a f).entry) ≡ tellings m (answered m mission i e c a f).events h
  unfolding Tells
  answered_told i e f c Accepted h q = q
  answered_told i e f c (Granted t) h q = q ∙ sym (append-nil _) ∙ ap (λ (o : Option Record). option_to_list (told m (record { call = c; answer = Granted t }) h) ++ option_to_list o) (sym (spend_told f f.phase t (record { call = c; answer = Granted t } ∷ h)))
  answered_told i e f c (Spent x) h q = q
  answered_told i e f c (Ended t) h q = q
  answered_told i e f c (Refused x) h q = q

  deed_told : (i : ℕ) (e : Held S) (q : Request S) (h : History S) → Used m mission e h → filter tells (option_to_list (deed m mission i e q).entry) ≡ tellings m (deed m mission i e q).events h
  deed_told i e (calls c) h u = answered_told i e (outcome m mission e c).held c (outcome m mission e c).answer h (call_told i e e.phase c h u.stands)
  deed_told i e (no_state x) h u = refl
  deed_told i e (nothing x) h u = refl

  tellings_both : (es fs h : History S) → tellings m (es ++ fs) h ≡ tellings m fs h ++ tellings m es (fs ++ h)
  tellings_both [] fs h = sym (append-nil (tellings m fs h))
  tellings_both (e ∷ es) fs h =
      ap (λ (k : History S). tellings m (es ++ fs) h ++ option_to_list (told m e k)) (append_assoc es fs h)
      ∙ ap (λ (rs : List Record). rs ++ option_to_list (told m e (es ++ (fs ++ h)))) (tellings_both es fs h)
      ∙ append_assoc (tellings m fs h) (tellings m es (fs ++ h)) (option_to_list (told m e (es ++ (fs ++ h))))

  -- a course whose first deed is d
  first_told : (d : Deed S) (c : Course S) (short on : Bool) (h : History S) → filter tells (option_to_list d.entry) ≡ tellings m d.events h → (on ≡ true → (c.number ≡ 16 → ⊥) → filter tells c.log ≡ tellings m c.events (d.events ++ h)) → let w = cond short (full d) (cond on (then d c) (ended d)) in (w.number ≡ 16 → ⊥) → filter tells w.log ≡ tellings m w.events h
  first_told d c true on h q further n = absurd (n refl)
  first_told d c false true h q further n =
      filter-append tells (option_to_list d.entry) c.log
      ∙ ap (λ (rs : List Record). rs ++ filter tells c.log) q
      ∙ ap (λ (rs : List Record). tellings m d.events h ++ rs) (further refl n)
      ∙ sym (tellings_both c.events d.events h)
  first_told d c false false h q further n = q

  module _ (laws : Laws m) where
    pub course_told : (room i : ℕ) (e : Held S) (rs : List Record) (s : Stop) (h : History S) → Used m mission e h → ((within room e (deeds m mission i e rs s)).number ≡ 16 → ⊥) → filter tells (within room e (deeds m mission i e rs s)).log ≡ tellings m (within room e (deeds m mission i e rs s)).events h
    course_told room i e [] at_end h u n = refl
    course_told room i e [] (at_fault x) h u n = first_told (broken i e x) (record { held = e; events = []; log = []; number = 0 }) _ (eqb (numbered_read x) 0) h refl (λ z k. refl) n
    course_told room i e (r ∷ rs) s h u n =
        let d = deed m mission i e (asks m r) in
        let left = room - size d.entry in
        let now = deed_onward m laws mission i e (asks m r) h u in
        let rest = course_told left (next_place i) d.held rs s (d.events ++ h) now in
        first_told d _ _ (eqb d.ending 0) h (deed_told i e (asks m r) h u) (λ z. rw z rest) n
