-- The numbers of the reasons why control stays or changes hands.
use Rattle.std.specs.Prelude.{◌≡◌, ℕ, ◌<◌, Result, MatchResult}
use Rattle.guard.specs.declared.reason.Reason.{Reason}
use Rattle.guard.specs.declared.reason.Reason.TheVariants.{Stays, NoAction, NotAdmissible, Calm}
use Rattle.guard.specs.declared.reason.UnknownReason.{UnknownReason}

abbrev pub number_of : Reason → ℕ
number_of Stays = 0
number_of NoAction = 1
number_of NotAdmissible = 2
number_of Calm = 3

-- the result is the reason with this number, or an error with the number, which no reason has
abbrev pub Decodes : ℕ → Result Reason UnknownReason → Type 0
Decodes n r = MatchResult r (λ reason. number_of reason ≡ n) (λ e. (e.0 ≡ n) × (3 < n))
