-- A number within its range is held as it is.
use Rattle.std.proofs.Common.{◌≡◌, ℕ, ◌≤◌, ℤ, nat_abs, arith}
use Rattle.std.proofs.lemmas.Int.{ints, clamps}
use Rattle.machines.specs.Held.{held}

pub held_still : (n : ℕ) (z : ℤ) → nat_abs z ≤ n → held n z ≡ z
held_still n z h = omega (arith, ints, clamps)
