-- What an executive holds, and what a refusal leaves of it.
use Rattle.std.specs.Prelude.{◌≡◌}
use Rattle.history.specs.Outcome.{Held}
use Rattle.history.specs.declared.calls.Answer.{Answer}
use Rattle.history.specs.declared.calls.Answer.TheVariants.{Accepted, Granted, Spent, Ended, Refused}
use Rattle.guard.specs.declared.Guard.{Ghosts}
use Rattle.executive.specs.Controls.{has_planner}
use Rattle.executive.specs.declared.held.Executive.{Executive}

abbrev pub held : {G S : Type 0} {gs : Ghosts G S} → Executive G S gs → Held S
held e = record {
  phase = e.phase;
  tick = e.totals.tick;
  planner = has_planner e.control;
  given = e.totals.given;
  spent = e.totals.spent;
  gains = e.totals.gains;
  losses = e.totals.losses;
}

-- a refusal changes nothing
abbrev pub Unaltered : {G S : Type 0} {gs : Ghosts G S} → Answer → Executive G S gs → Executive G S gs → Type 0
Unaltered Accepted d e = Unit {0}
Unaltered (Granted t) d e = Unit {0}
Unaltered (Spent a) d e = Unit {0}
Unaltered (Ended t) d e = Unit {0}
Unaltered (Refused x) d e = e ≡ d
