-- What a record of a tape comes to: the calls made for it, what they leave the executive with, and what is logged.
use Rattle.std.specs.Prelude.{◌≡◌, ℕ, cond, [], ◌∷◌, Some, None, Option, Result, ◌==◌}
use Rattle.guard.specs.Meaning.{Meaning}
use Rattle.guard.specs.Refusals as states
use Rattle.guard.specs.declared.reading.Reading.{Reading}
use Rattle.history.specs.History.{History}
use Rattle.history.specs.Outcome.{Held, outcome}
use Rattle.history.specs.Refusals as refusals
use Rattle.history.specs.declared.calls.Ticket.{Ticket}
use Rattle.history.specs.declared.calls.Totals.{Totals}
use Rattle.history.specs.declared.calls.Call.{Call}
use Rattle.history.specs.declared.calls.Call.TheVariants.{Spend}
use Rattle.history.specs.declared.calls.Answer.{Answer}
use Rattle.history.specs.declared.calls.Answer.TheVariants.{Accepted, Granted, Spent, Ended, Refused}
use Rattle.executive.specs.View.{reading_of}
use Rattle.executive.specs.Holding.{held}
use Rattle.guard.specs.declared.Guard.{Ghosts}
use Rattle.executive.specs.declared.held.Executive.{Executive}
use Rattle.records.specs.declared.record.Record.{Record}
use Rattle.records.specs.declared.record.Record.TheVariants.{Switch, Refusal, Closing}
use Rattle.runs.specs.Asking.{Request, calls, no_state, nothing, noted}
use Rattle.runs.specs.Dues.{entry_of, end_of}
use Rattle.runs.specs.Refusals as tapes
use Rattle.runs.specs.Refusals.{end_number}
use Rattle.runs.specs.declared.refusal.RecordRefusal.{RecordRefusal}

pub record Deed (S : Type 0) : Type 0 where
  -- what the executive holds then
  pub held : Held S
  -- the calls with their answers, the newest first
  pub events : History S
  pub entry : Option Record
  -- the number that ends the run with this record, or 0
  pub ending : ℕ

abbrev pub closing : Totals → Record
closing t = Closing t.tick t.given t.spent t.gains t.losses

-- a decision at the stored reading is logged where its reason is not 0
abbrev pub switch : {S : Type 0} → Meaning S → Option (Reading S) → Ticket → Option Record
switch m None t = None
switch m (Some r) t = cond (t.reason == 0) None (Some (Switch t.tick t.reason (noted m r)))

-- what is logged of an answer, at the stored reading, for the record with the number i
abbrev pub logged : {S : Type 0} → Meaning S → ℕ → Option (Reading S) → Answer → Option Record
logged m i stored Accepted = None
logged m i stored (Granted t) = switch m stored t
logged m i stored (Spent a) = None
logged m i stored (Ended t) = Some (closing t)
logged m i stored (Refused x) = Some (Refusal i (refusals.numbered x))

module _ {S : Type 0} (m : Meaning S) (mission : ℕ) where
  -- a grant is spent before anything else
  abbrev pub spent_at_once : Answer → Held S → History S → Held S × History S
  spent_at_once Accepted f h = (f, h)
  spent_at_once (Granted t) f h = let o = outcome m mission f (Spend t) in (o.held, record { call = Spend t; answer = o.answer } ∷ h)
  spent_at_once (Spent a) f h = (f, h)
  spent_at_once (Ended t) f h = (f, h)
  spent_at_once (Refused x) f h = (f, h)

  -- a call that is answered so, after which f is held
  abbrev pub answered : ℕ → Held S → Call S → Answer → Held S → Deed S
  answered i e c a f =
      let after = spent_at_once a f (record { call = c; answer = a } ∷ []) in
      record { held = after.0; events = after.1; entry = logged m i (reading_of e.phase) a; ending = 0 }

  -- what the record with the number i comes to, by what it asks, where e is held
  abbrev pub deed : ℕ → Held S → Request S → Deed S
  deed i e (calls c) = let o = outcome m mission e c in answered i e c o.answer o.held
  deed i e (no_state x) = record { held = e; events = []; entry = Some (Refusal i (states.numbered x)); ending = 0 }
  deed i e (nothing x) = record { held = e; events = []; entry = Some (Refusal i (tapes.numbered x)); ending = tapes.numbered x }

-- the request of the record with the number i was carried out: from the executive d to e, y is to be logged, and n ends the run or is 0
pub record CarriedAt {G S : Type 0} {gs : Ghosts G S} (m : Meaning S) (i : ℕ) (q : Request S) (y : Option Record) (n : ℕ) (d e : Executive G S gs) : Type 0 where
  pub entry_is : y ≡ (deed m d.mission i (held d) q).entry
  pub ending_is : n ≡ (deed m d.mission i (held d) q).ending
  pub held_is : held e ≡ (deed m d.mission i (held d) q).held
  pub guard_is : e.guard ≡ d.guard
  pub mission_is : e.mission ≡ d.mission

-- the request was carried out: from the executive d to e, and it came to y, whatever the record's number
abbrev pub Carried : {G S : Type 0} {gs : Ghosts G S} → Meaning S → Request S → Result (Option Record) RecordRefusal → Executive G S gs → Executive G S gs → Type 0
Carried m q y d e = (i : ℕ) → CarriedAt m i q (entry_of i y) (end_number (end_of y)) d e
