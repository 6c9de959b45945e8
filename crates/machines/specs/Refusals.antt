-- The numbers of the refusals to make a machine in the table of refusals.
use Rattle.std.specs.Prelude.{ℕ}
use Rattle.machines.specs.declared.making.MakingRefusal.{MakingRefusal}
use Rattle.machines.specs.declared.making.MakingRefusal.TheVariants.{RailLength, HallSize}

abbrev pub numbered : MakingRefusal → ℕ
numbered RailLength = 3
numbered HallSize = 4
