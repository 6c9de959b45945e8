-- The options that each task has.
use Rattle.std.specs.Prelude.{ℕ, Bool, List, [], ◌∷◌, codes}
use Rattle.std.specs.List.{list_any}
use Rattle.std.specs.Str.{bytes_eq}

-- the word is one of these
abbrev pub among : List ℕ → List (List ℕ) → Bool
among word words = list_any (λ w. bytes_eq word w) words

abbrev pub brake_options : List (List ℕ)
brake_options = codes "--charge" ∷ codes "--gusts" ∷ []

abbrev pub judge_options : List (List ℕ)
judge_options = codes "--charge" ∷ []

abbrev pub calls_options : List (List ℕ)
calls_options = codes "--mission" ∷ []

abbrev pub run_options : List (List ℕ)
run_options = codes "--mission" ∷ codes "--log-size" ∷ codes "--log" ∷ codes "--quiet" ∷ codes "--hex" ∷ []
