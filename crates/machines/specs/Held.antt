-- A whole number held within a range around 0.
use Rattle.std.specs.Prelude.{ℕ, ◌≤◌, ℤ, pos, neg_ℤ, unsigned_abs}
use Rattle.std.proofs.Common.{arith}
use Rattle.std.specs.Int.{int_max, int_min}
use Rattle.std.proofs.lemmas.Int.{ints, clamps}

-- z held within −n to n
abbrev pub held : ℕ → ℤ → ℤ
held n z = int_max (neg_ℤ (pos n)) (int_min z (pos n))

pub held_size : (n : ℕ) (z : ℤ) → unsigned_abs (held n z) ≤ n
held_size n z = omega (arith, ints, clamps)
