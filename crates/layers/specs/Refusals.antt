-- The numbers of the refusals to add to a draft in the table of refusals.
use Rattle.std.specs.Prelude.{ℕ}
use Rattle.layers.specs.declared.draft.refusal.DraftRefusal.{DraftRefusal}
use Rattle.layers.specs.declared.draft.refusal.DraftRefusal.TheVariants.{Inverted, Full}

abbrev pub numbered : DraftRefusal → ℕ
numbered Inverted = 1
numbered Full = 2
