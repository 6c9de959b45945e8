-- The findings hold of every history whose answers are the due ones, for every guard that keeps the laws.
use Rattle.std.proofs.Common.{◌≡◌, ℕ, ◌+◌, ◌<◌, ◌≤◌, Bool, true, false, cond, ◌||◌, T, eqb, ◌⊎◌, ◌↔◌, [], ◌∷◌, Some, sym, refl, ap, ◌∙◌, subst, inl, inr, arith}
use Rattle.std.proofs.lemmas.Bool.{and_from}
use Rattle.guard.specs.declared.reading.Reading.{Reading}
use Rattle.guard.specs.Meaning.{Meaning, Follows, Laws}
use Rattle.guard.specs.Decision.{calm, Endangers}
use Rattle.guard.proofs.Decision.{T_true, true_T, decides_admissible, decides_calm, decides_follows, endangers}
use Rattle.history.specs.History.{Event, History, Stage, parked, ready, granted, moving, closed, stage, last, tick, planner, out, grant, given, spent, won, lost}
use Rattle.history.specs.Due.{due, Right}
use Rattle.history.specs.Findings.{Throughout, Accepts, GrantedSince, Decided, Sound, Totalled, one_if, Findings}
use Rattle.history.specs.declared.calls.Ticket.{Ticket}
use Rattle.history.specs.declared.calls.Totals.{Totals}
use Rattle.history.specs.declared.calls.Call.{Call}
use Rattle.history.specs.declared.calls.Call.TheVariants.{Decide, Spend}
use Rattle.history.specs.declared.calls.Answer.{Answer}
use Rattle.history.specs.declared.calls.Answer.TheVariants.{Granted, Spent, Ended, Refused}
use Rattle.history.specs.declared.calls.CallRefusal.TheVariants.{MissionOver}
use Rattle.history.proofs.Told.{Chosen, approved, unknown, rejected, gained, waited, Told, turned, begun, decided, done, observed, ended, told}

abbrev event : {S : Type 0} → Call S → Answer → Event S
event c a = record { call = c; answer = a }

-- every reading that can follow r under a is recoverable
abbrev Allowed : {S : Type 0} → Meaning S → Reading S → ℕ → Type 0
Allowed {S} m r a = (t : Reading S) → Follows m r a t → T (m.recoverable t)

-- a grant is out or being carried out
abbrev Busy : Stage → Type 0
Busy parked = ⊥
Busy ready = ⊥
Busy granted = Unit {0}
Busy moving = Unit {0}
Busy closed = ⊥

abbrev outs : Stage → Bool
outs parked = false
outs ready = false
outs granted = true
outs moving = false
outs closed = false

-- what every right history keeps from call to call
record Kept {S : Type 0} (m : Meaning S) (h : History S) : Type 0 where
  seen : (r : Reading S) → last h ≡ Some r → T (m.recoverable r)
  since : (r : Reading S) (a : ℕ) → last h ≡ Some r → GrantedSince a h → Allowed m r a
  busy : (r : Reading S) (g : Ticket) → Busy (stage h) → last h ≡ Some r → grant h ≡ Some g → Allowed m r g.action
  out_is : out h ≡ outs (stage h)
  grants : given h ≡ spent h + one_if (out h)
  turns : won h ≡ lost h + one_if (planner h)

at_reading : {S : Type 0} (P : Reading S → Type 0) (r t : Reading S) → Some r ≡ Some t → P r → P t
at_reading P r t e p = let d : r ≡ t = cc in subst P d p

at_action : (P : ℕ → Type 0) (t u : Ticket) (a : ℕ) → Answer.Granted t ≡ Granted u → u.action ≡ a → P t.action → P a
at_action P t u a e d p = let f : t.action ≡ a = cc in subst P f p

turns_more : {S : Type 0} {m : Meaning S} {r : Reading S} {b : ℕ} {p : Bool} {a q : ℕ} (w l : ℕ) → Chosen m r b p a q → w ≡ l + one_if p → cond (eqb q 3) (w + 1) w ≡ cond (eqb q 1 || eqb q 2) (l + 1) l + one_if (cond (eqb q 3) true (cond (eqb q 1 || eqb q 2) false p))
turns_more w l (approved h e) d = d
turns_more w l (unknown h) d = omega arith
turns_more w l (rejected h e) d = omega arith
turns_more w l (gained h e) d = omega arith
turns_more w l (waited h) d = d

module _ {S : Type 0} (m : Meaning S) (laws : Laws m) (mission : ℕ) where
  chosen_allows : {r : Reading S} {b : ℕ} {p : Bool} {a q : ℕ} → Chosen m r b p a q → T (m.recoverable r) → Allowed m r a
  chosen_allows {r} {b} (approved h e) k = ((decides_admissible m laws r b).0 e).kept
  chosen_allows {r} (unknown h) k = λ t. laws.stays r t k
  chosen_allows {r} (rejected h e) k = λ t. laws.stays r t k
  chosen_allows {r} {b} (gained h e) k = (decides_calm m laws r).0 e b
  chosen_allows {r} (waited h) k = λ t. laws.stays r t k

  kept_none : Kept m []
  kept_none = record {
    seen = λ r e. cc;
    since = λ r a e f. absurd f;
    busy = λ r g b e f. absurd b;
    out_is = refl;
    grants = refl;
    turns = refl;
  }

  allowed : (h : History S) (r u : Reading S) {b a q : ℕ} → last h ≡ Some r → last h ≡ Some u → Chosen m r b (planner h) a q → Kept m h → Allowed m u a
  allowed h r u {a} e d c k = at_reading (λ r. Allowed m r a) r u (sym e ∙ d) (chosen_allows c (k.seen r e))

  kept_more : (h : History S) {c : Call S} {a : Answer} → Told m mission h c a → Kept m h → Kept m (event c a ∷ h)
  kept_more h (turned o) k = record {
    seen = k.seen;
    since = λ r a e. elim [ inl s ↦ cc | inr s ↦ k.since r a e s.1 ];
    busy = k.busy;
    out_is = k.out_is;
    grants = k.grants;
    turns = k.turns;
  }
  kept_more h (begun {r} s e) k = record {
    seen = λ t d. at_reading (λ r. T (m.recoverable r)) r t d (true_T _ e);
    since = λ t a d. elim [ inl s ↦ cc | inr s ↦ absurd (s.0 r (refl, inl refl)) ];
    busy = λ r g b e f. absurd b;
    out_is = k.out_is ∙ ap outs s;
    grants = k.grants;
    turns = k.turns;
  }
  kept_more h (decided {b} {t} r s e i n f c) k = record {
    seen = k.seen;
    since = λ u a d. elim [ inl s ↦ at_action (Allowed m u) t s.0 a s.1 s.2 (allowed h r u e d c k) | inr s ↦ k.since u a d s.1 ];
    busy = λ u g b d f. at_action (Allowed m u) t g g.action (let n : t ≡ g = cc in ap Granted n) refl (allowed h r u e d c k);
    out_is = refl;
    grants = let n : one_if (out h) ≡ 0 = ap one_if (k.out_is ∙ ap outs s) in omega arith;
    turns = turns_more (won h) (lost h) c k.turns;
  }
  kept_more h (done {p} {a} s g i) k = record {
    seen = k.seen;
    since = λ u a d. elim [ inl s ↦ cc | inr s ↦ k.since u a d s.1 ];
    busy = λ r g b e f. k.busy r g (rw s tt) e f;
    out_is = refl;
    grants = let n : one_if (out h) ≡ 1 = ap one_if (k.out_is ∙ ap outs s) in omega arith;
    turns = k.turns;
  }
  kept_more h (observed {t} r g s e d i j) k = record {
    seen = λ u n. at_reading (λ r. T (m.recoverable r)) t u n (k.busy r g (rw s tt) e d t ((decides_follows m laws r g.action t).0 (and_from _ _ i j)));
    since = λ u a n. elim [ inl s ↦ cc | inr s ↦ absurd (s.0 t (refl, inr refl)) ];
    busy = λ r g b e f. absurd b;
    out_is = k.out_is ∙ ap outs s;
    grants = k.grants;
    turns = k.turns;
  }
  kept_more h (ended s) k = record {
    seen = k.seen;
    since = λ r a e. elim [ inl s ↦ cc | inr s ↦ k.since r a e s.1 ];
    busy = λ r g b e f. absurd b;
    out_is = elim s [ inl s ↦ k.out_is ∙ ap outs s | inr s ↦ k.out_is ∙ ap outs s ];
    grants = k.grants;
    turns = k.turns;
  }

  kept_all : (h : History S) → Right m mission h → Kept m h
  kept_all [] r = kept_none
  kept_all (e ∷ h) r = kept_more h (rw r.0 (told m mission h e.call)) (kept_all h r.1)

  sound : (r : Reading S) → T (m.recoverable r) → Sound m r
  sound r h = (laws.safely r h, h)

  accepts_last : (e : Event S) (h : History S) (r : Reading S) → Accepts e r → last (e ∷ h) ≡ Some r
  accepts_last e h r d = rw d.0 (elim d.1 [ inl n ↦ rw n | inr n ↦ rw n ])

  -- what an event of a right history tells, at the call and the answer that it is known to have
  telling : (e : Event S) (h : History S) (c : Call S) (a : Answer) → e.answer ≡ due m mission h e.call → e.call ≡ c → e.answer ≡ a → Told m mission h c a
  telling e h c a r p q = rw (← q, ← p, r) (told m mission h e.call)

  -- what holds of each event of a right history, by what its due answer tells, holds throughout
  throughout : (P : Event S → History S → Type 0) → ((e : Event S) (h : History S) → Right m mission (e ∷ h) → P e h) → (h : History S) → Right m mission h → Throughout P h
  throughout P f [] r = tt
  throughout P f (e ∷ h) r = (f e h r, throughout P f h r.1)

  told_decided : {h : History S} {b : ℕ} {t : Ticket} (u : Reading S) → Told m mission h (Decide b) (Granted t) → last h ≡ Some u → Chosen m u b (planner h) t.action t.reason
  told_decided {h} {b} {t} u (decided r s e i n f c) d = at_reading (λ r. Chosen m r b (planner h) t.action t.reason) r u (sym e ∙ d) c

  told_ended : {h : History S} {c : Call S} {t : Totals} → Told m mission h c (Ended t) → Totalled h t
  told_ended (ended s) = record { tick_is = refl; given_is = refl; spent_is = refl; gains_is = refl; losses_is = refl }

  told_stamped : {h : History S} {c : Call S} {t : Ticket} → Told m mission h c (Granted t) → (t.mission ≡ mission) × (t.tick ≡ tick h) × (tick h < 1000000)
  told_stamped (decided r s e i n f c) = (i, n, f)

  told_spent : {h : History S} {t : Ticket} {a : ℕ} → Told m mission h (Spend t) (Spent a) → (stage h ≡ granted) × (grant h ≡ Some t) × (a ≡ t.action)
  told_spent (done s g i) = (s, g, i)

  told_over : {h : History S} {c : Call S} → Told m mission h c (Refused MissionOver) → 1000000 ≤ tick h
  told_over (turned o) = o refl

  gain_when : {r : Reading S} {b : ℕ} {p : Bool} {a q : ℕ} → Chosen m r b p a q → T (eqb q 3) ↔ ((p ≡ false) × (b < m.actions) × T (calm m r))
  gain_when (approved h e) = (λ x. absurd x, λ y. cc)
  gain_when (unknown h) = (λ x. absurd x, λ y. cc)
  gain_when (rejected h e) = (λ x. absurd x, λ y. cc)
  gain_when (gained h e) = (λ x. (refl, h, true_T _ e), λ y. tt)
  gain_when (waited h) = (λ x. absurd x, λ y. elim h [ inl n ↦ absurd (omega (arith, y.1)) | inr n ↦ cc (T_true _ y.2) ])

  -- an unrecoverable reading cannot follow under an admissible action
  not_endangered : (r : Reading S) (b : ℕ) → Allowed m r b → Endangers m r b → ⊥
  not_endangered r b k d = cc (T_true _ (k d.0 d.1))

  loss_when : {r : Reading S} {b : ℕ} {p : Bool} {a q : ℕ} → Chosen m r b p a q → T (eqb q 1 || eqb q 2) ↔ ((p ≡ true) × ((m.actions ≤ b) ⊎ Endangers m r b))
  loss_when {r} {b} (approved h e) = (λ x. absurd x, λ y. elim y.1 [ inl n ↦ absurd (omega arith) | inr n ↦ absurd (not_endangered r b ((decides_admissible m laws r b).0 e).kept n) ])
  loss_when (unknown h) = (λ x. (refl, inl h), λ y. tt)
  loss_when {r} {b} (rejected h e) = (λ x. (refl, inr (endangers m laws r b e h)), λ y. tt)
  loss_when (gained h e) = (λ x. absurd x, λ y. cc)
  loss_when (waited h) = (λ x. absurd x, λ y. cc)

  -- what is no action leads nowhere
  reasons_when : {r : Reading S} {b : ℕ} {p : Bool} {a q : ℕ} → Chosen m r b p a q → T (eqb q 1 || eqb q 2) → ((q ≡ 1) ↔ (m.actions ≤ b)) × ((q ≡ 2) ↔ Endangers m r b)
  reasons_when (approved h e) x = absurd x
  reasons_when (unknown h) x =
      ((λ _. h, λ _. refl), (λ n. absurd (omega arith), λ d. let k = d.1.action in absurd (omega arith)))
  reasons_when {r} {b} (rejected h e) x =
      ((λ n. absurd (omega arith), λ n. absurd (omega arith)), (λ _. endangers m laws r b e h, λ _. refl))
  reasons_when (gained h e) x = absurd x
  reasons_when (waited h) x = absurd x

  -- the choice that an accepted decide of a right history came from
  choice_at : (e : Event S) (h : History S) (b : ℕ) (t : Ticket) (u : Reading S) → Right m mission (e ∷ h) → Decided e h b t u → Chosen m u b (planner h) t.action t.reason
  choice_at e h b t u r d = told_decided u (telling e h (Decide b) (Granted t) r.0 d.call_is d.answer_is) d.last_is

  pub found : (h : History S) → Right m mission h → Findings m mission h
  found h r =
      let k : Kept m h = kept_all h r in
      record {
        readings = throughout _ (λ e h r t d. sound t ((kept_all (e ∷ h) r).seen t (accepts_last e h t d))) h r;
        following = λ u a e s t f. sound t (k.since u a e s t f);
        gaining = throughout _ (λ e h k b t r d. rw d.answer_is (gain_when (choice_at e h b t r k d))) h r;
        losing = throughout _ (λ e h k b t r d. rw d.answer_is (loss_when (choice_at e h b t r k d))) h r;
        calmly = λ r c a t f. (decides_calm m laws r).0 (T_true _ c) a t f;
        grants = k.grants;
        turns = k.turns;
        closing = throughout _ (λ e h k t d. told_ended (telling e h e.call (Ended t) k.0 refl d)) h r;
        stamped = throughout _ (λ e h k t d. let s = told_stamped (telling e h e.call (Granted t) k.0 refl d) in (s.0, s.1)) h r;
        reasons = throughout _ (λ e h k b t r d l. reasons_when (choice_at e h b t r k d) (rw d.answer_is at l)) h r;
        spending = throughout _ (λ e h k t a c d. let s = told_spent (telling e h (Spend t) (Spent a) k.0 c d) in ((kept_all h k.1).out_is ∙ ap outs s.0, s.1, s.2)) h r;
        ending = throughout _ (λ e h k. (λ t d. (told_stamped (telling e h e.call (Granted t) k.0 refl d)).2, λ d. told_over (telling e h e.call (Refused MissionOver) k.0 refl d))) h r;
      }
