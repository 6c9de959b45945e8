-- Who has control, by whether the planner has it.
use Rattle.std.specs.Prelude.{ℕ, Bool, true, false, List, codes}
use Rattle.executive.specs.declared.control.Control.{Control}
use Rattle.executive.specs.declared.control.Control.TheVariants.{Planner, Keeper}

abbrev pub has_planner : Control → Bool
has_planner Planner = true
has_planner Keeper = false

abbrev pub control_of : Bool → Control
control_of true = Planner
control_of false = Keeper

-- who has it, in words
abbrev pub control_text : Control → List ℕ
control_text Planner = codes "planner"
control_text Keeper = codes "keeper"
