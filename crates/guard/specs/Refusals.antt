-- The numbers of this part's refusals in the table of refusals.
use Rattle.std.specs.Prelude.{ℕ}
use Rattle.guard.specs.declared.refusal.StateRefusal.{StateRefusal}
use Rattle.guard.specs.declared.refusal.StateRefusal.TheVariants.{NoSuchState}

abbrev pub numbered : StateRefusal → ℕ
numbered NoSuchState = 5
