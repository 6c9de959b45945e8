-- Numbers as bytes, the lowest byte first, and signed ones in two's complement.
use Rattle.std.specs.Prelude.{ℕ, zero, suc, ◌+◌, ◌*◌, ◌/◌, ◌%◌, List, [], ◌∷◌, ℤ}
use Rattle.std.specs.Int.{w32}
use Rattle.std.proofs.Common.{of_z, to_z}

-- the lowest bytes of the number, as many as the width says
abbrev pub le : ℕ → ℕ → List ℕ
le zero n = []
le (suc width) n = n % 256 ∷ le width (n / 256)

-- the number that the bytes write
abbrev pub number : List ℕ → ℕ
number [] = 0
number (b ∷ bs) = b + number bs * 256

-- a signed number of 32 bits, and the one that four bytes write
abbrev pub signed_le : ℤ → List ℕ
signed_le z = le 4 (of_z w32 z)

abbrev pub signed_number : List ℕ → ℤ
signed_number bs = to_z w32 (number bs)
