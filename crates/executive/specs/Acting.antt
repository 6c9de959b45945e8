-- A decision whose grant is spent at once.
use Rattle.std.specs.Prelude.{◌≡◌, ℕ, Ok, Err, Result}
use Rattle.guard.specs.Meaning.{Meaning}
use Rattle.history.specs.Outcome.{Held, outcome}
use Rattle.history.specs.declared.calls.Ticket.{Ticket}
use Rattle.history.specs.declared.calls.Call.TheVariants.{Decide, Spend}
use Rattle.history.specs.declared.calls.Answer.TheVariants.{Granted, Refused}
use Rattle.history.specs.declared.calls.CallRefusal.{CallRefusal}

-- from holding d to holding f: the numbers of the grant that decide gives, spent; or decide's refusal, and nothing changed
abbrev pub Acted : {S : Type 0} → Meaning S → ℕ → Held S → ℕ → Result Ticket CallRefusal → Held S → Type 0
Acted m n d b (Ok t) f =
    let o = outcome m n d (Decide b) in
    (o.answer ≡ Granted t) × (f ≡ (outcome m n o.held (Spend t)).held)
Acted m n d b (Err x) f = ((outcome m n d (Decide b)).answer ≡ Refused x) × (f ≡ d)
