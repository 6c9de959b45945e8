-- What one call of an executive promises.
use Rattle.std.specs.Prelude.{◌≡◌, ℕ, Ok, Err, Result}
use Rattle.guard.specs.Meaning.{Meaning}
use Rattle.history.specs.History.{History}
use Rattle.history.specs.Outcome.{outcome}
use Rattle.history.specs.Use.{Used, GoesOn}
use Rattle.history.specs.declared.calls.Totals.{Totals}
use Rattle.history.specs.declared.calls.Call.{Call}
use Rattle.history.specs.declared.calls.Call.TheVariants.{Begin, Decide, Spend, Observe, Close}
use Rattle.history.specs.declared.calls.Answer.{Answer}
use Rattle.history.specs.declared.calls.Answer.TheVariants.{Accepted, Granted, Spent, Ended, Refused}
use Rattle.history.specs.declared.calls.CallRefusal.{CallRefusal}
use Rattle.executive.specs.Grants.{ticket_of}
use Rattle.executive.specs.Holding.{held, Unaltered}
use Rattle.guard.specs.declared.Guard.{Ghosts}
use Rattle.executive.specs.declared.held.Executive.{Executive}
use Rattle.executive.specs.declared.grant.Grant.{Grant}
use Rattle.executive.specs.declared.grant.Returned.{Returned}

-- the call c was answered a, and took the executive d to e; m is what its guard means
pub record Took {G S : Type 0} {gs : Ghosts G S} (m : Meaning S) (c : Call S) (a : Answer) (d e : Executive G S gs) : Type 0 where
  -- the answer, and what is held then, for every executive
  pub answer_is : a ≡ (outcome m d.mission (held d) c).answer
  pub held_is : held e ≡ (outcome m d.mission (held d) c).held
  pub guard_is : e.guard ≡ d.guard
  pub mission_is : e.mission ≡ d.mission
  -- a refusal changes nothing
  pub unaltered : Unaltered a d e
  -- whatever history led here, it goes on with this call, the answer is the due one, and the findings hold
  pub history : (h : History S) → Used m d.mission (held d) h → GoesOn m d.mission (held d) c a (held e) h

-- the answers by the results of the five calls
abbrev pub accepting : {A : Type 0} → Result A CallRefusal → Answer
accepting (Ok x) = Accepted
accepting (Err x) = Refused x

abbrev pub deciding : Result Grant CallRefusal → Answer
deciding (Ok g) = Granted (ticket_of g)
deciding (Err x) = Refused x

abbrev pub spending : Result ℕ Returned → Answer
spending (Ok a) = Spent a
spending (Err x) = Refused x.refusal

abbrev pub ending : Result Totals CallRefusal → Answer
ending (Ok t) = Ended t
ending (Err x) = Refused x

-- a grant that is not spent comes back
abbrev pub Back : Grant → Result ℕ Returned → Type 0
Back g (Ok a) = Unit {0}
Back g (Err x) = x.grant ≡ g

-- the answer is one that the call can have
abbrev pub Own : {S : Type 0} → Call S → Answer → Type 0
Own (Begin r) a = elim a [ Accepted ↦ Unit {0} | Granted t ↦ ⊥ | Spent x ↦ ⊥ | Ended t ↦ ⊥ | Refused x ↦ Unit {0} ]
Own (Decide b) a = elim a [ Accepted ↦ ⊥ | Granted t ↦ Unit {0} | Spent x ↦ ⊥ | Ended t ↦ ⊥ | Refused x ↦ Unit {0} ]
Own (Spend t) a = elim a [ Accepted ↦ ⊥ | Granted t ↦ ⊥ | Spent x ↦ Unit {0} | Ended t ↦ ⊥ | Refused x ↦ Unit {0} ]
Own (Observe r) a = elim a [ Accepted ↦ Unit {0} | Granted t ↦ ⊥ | Spent x ↦ ⊥ | Ended t ↦ ⊥ | Refused x ↦ Unit {0} ]
Own Close a = elim a [ Accepted ↦ ⊥ | Granted t ↦ ⊥ | Spent x ↦ ⊥ | Ended t ↦ Unit {0} | Refused x ↦ Unit {0} ]
