-- What holds of every history of an executive, in the words of the subject.
use Rattle.std.specs.Prelude.{◌≡◌, ℕ, ◌+◌, ◌<◌, ◌≤◌, Bool, true, false, cond, T, ◌⊎◌, ◌↔◌, [], ◌∷◌, Some}
use Rattle.guard.specs.declared.reading.Reading.{Reading}
use Rattle.guard.specs.Meaning.{Meaning, Follows}
use Rattle.guard.specs.Decision.{Endangers, calm}
use Rattle.history.specs.History.{Event, History, last, tick, grant, gains, loses, planner, out, given, spent, won, lost}
use Rattle.history.specs.declared.calls.Ticket.{Ticket}
use Rattle.history.specs.declared.calls.Totals.{Totals}
use Rattle.history.specs.declared.calls.Call.TheVariants.{Begin, Decide, Spend, Observe}
use Rattle.history.specs.declared.calls.Answer.TheVariants.{Accepted, Granted, Spent, Ended, Refused}
use Rattle.history.specs.declared.calls.CallRefusal.TheVariants.{MissionOver}

-- P holds of each event of a history, with the history before it
abbrev pub Throughout : {S : Type 0} → (Event S → History S → Type 0) → History S → Type 0
Throughout P [] = Unit {0}
Throughout P (e ∷ h) = P e h × Throughout P h

-- the event accepts the reading r
abbrev pub Accepts : {S : Type 0} → Event S → Reading S → Type 0
Accepts e r = (e.answer ≡ Accepted) × ((e.call ≡ Begin r) ⊎ (e.call ≡ Observe r))

-- the event grants the action a
abbrev pub Grants : {S : Type 0} → Event S → ℕ → Type 0
Grants e a = (t : Ticket) × (e.answer ≡ Granted t) × (t.action ≡ a)

-- the action a was granted, and no reading has been accepted since
abbrev pub GrantedSince : {S : Type 0} → ℕ → History S → Type 0
GrantedSince a [] = ⊥
GrantedSince {S} a (e ∷ h) = Grants e a ⊎ (((r : Reading S) → Accepts e r → ⊥) × GrantedSince a h)

-- after the history k, at its last reading r, the proposal b is decided with the grant t
pub record Decided {S : Type 0} (e : Event S) (k : History S) (b : ℕ) (t : Ticket) (r : Reading S) : Type 0 where
  pub call_is : e.call ≡ Decide b
  pub answer_is : e.answer ≡ Granted t
  pub last_is : last k ≡ Some r

-- the reading is safe and recoverable
abbrev pub Sound : {S : Type 0} → Meaning S → Reading S → Type 0
Sound m r = T (m.safe r) × T (m.recoverable r)

-- what an accepted close answers after the history k
pub record Totalled {S : Type 0} (k : History S) (t : Totals) : Type 0 where
  pub tick_is : t.tick ≡ tick k
  pub given_is : t.given ≡ given k
  pub spent_is : t.spent ≡ spent k
  pub gains_is : t.gains ≡ won k
  pub losses_is : t.losses ≡ lost k

abbrev pub one_if : Bool → ℕ
one_if b = cond b 1 0

pub record Findings {S : Type 0} (m : Meaning S) (mission : ℕ) (h : History S) : Type 0 where
  -- every reading accepted so far is safe and recoverable
  pub readings : Throughout (λ e k. (r : Reading S) → Accepts e r → Sound m r) h
  -- and so is every reading that can follow the last one under an action granted since
  pub following : (r : Reading S) (a : ℕ) → last h ≡ Some r → GrantedSince a h → (t : Reading S) → Follows m r a t → Sound m t
  -- a decision is a gain exactly when the keeper had control, an action was proposed and the reading was calm
  pub gaining : Throughout (λ e k. (b : ℕ) (t : Ticket) (r : Reading S) → Decided e k b t r → T (gains e.answer) ↔ ((planner k ≡ false) × (b < m.actions) × T (calm m r))) h
  -- it is a loss exactly when the planner had control and proposed no action, or one under which an unrecoverable reading can follow
  pub losing : Throughout (λ e k. (b : ℕ) (t : Ticket) (r : Reading S) → Decided e k b t r → T (loses e.answer) ↔ ((planner k ≡ true) × ((m.actions ≤ b) ⊎ Endangers m r b))) h
  -- only recoverable readings can follow a calm one, whatever the action
  pub calmly : (r : Reading S) → T (calm m r) → (a : ℕ) (t : Reading S) → Follows m r a t → T (m.recoverable t)
  -- each grant given is spent or out
  pub grants : given h ≡ spent h + one_if (out h)
  -- each gain was lost again or lasts
  pub turns : won h ≡ lost h + one_if (planner h)
  -- an accepted close answers the counts of the history before it
  pub closing : Throughout (λ e k. (t : Totals) → e.answer ≡ Ended t → Totalled k t) h
  -- a grant has the mission's number and the tick of its decision
  pub stamped : Throughout (λ e k. (t : Ticket) → e.answer ≡ Granted t → (t.mission ≡ mission) × (t.tick ≡ tick k)) h
  -- a loss has reason 1 exactly where no action was proposed, and reason 2 exactly where an unrecoverable reading can follow the proposed one
  pub reasons : Throughout (λ e k. (b : ℕ) (t : Ticket) (r : Reading S) → Decided e k b t r → T (loses e.answer) → ((t.reason ≡ 1) ↔ (m.actions ≤ b)) × ((t.reason ≡ 2) ↔ Endangers m r b)) h
  -- an accepted spend presents the very grant that is out, and answers its action
  pub spending : Throughout (λ e k. (t : Ticket) (a : ℕ) → e.call ≡ Spend t → e.answer ≡ Spent a → (out k ≡ true) × (grant k ≡ Some t) × (a ≡ t.action)) h
  -- after 1,000,000 accepted observes no decide is accepted, and before that none is refused for it
  pub ending : Throughout (λ e k. ((t : Ticket) → e.answer ≡ Granted t → tick k < 1000000) × (e.answer ≡ Refused MissionOver → 1000000 ≤ tick k)) h
