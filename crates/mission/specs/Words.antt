-- The words of a command.
use Rattle.std.specs.Prelude.{ℕ, List, eqb}
use Rattle.std.specs.List.{slice_split}

-- the bytes between the commas, 44, of a word
abbrev pub parts : List ℕ → List (List ℕ)
parts word = slice_split (λ b. eqb b 44) word
