-- What bytes a hexadecimal text means, or why it means none.
use Rattle.std.specs.Prelude.{◌≡◌, ℕ, ◌+◌, ◌-◌, ◌*◌, cond, List, [], ◌∷◌, ◌++◌, Some, None, Ok, Err, vec_items, Option, Result, Vec, ◌==◌, nat_lt}
use Rattle.std.specs.declared.alloc.Global.{Global}
use Rattle.text.specs.declared.hex.Glyph.{Glyph}
use Rattle.text.specs.declared.hex.Glyph.TheVariants.{Blank, Digit, Other}
use Rattle.text.specs.declared.hex.HexFault.{HexFault}
use Rattle.text.specs.declared.hex.HexFault.TheVariants.{NotDigit, Odd, Memory}

-- a character from the first to the last of a row of digits, whose first has the value v
abbrev pub in_row : ℕ → ℕ → ℕ → ℕ → Glyph → Glyph
in_row first last v c other = cond (nat_lt c first) other (cond (nat_lt last c) other (Digit (c - first + v)))

abbrev pub blank_else : ℕ → Glyph → Glyph
blank_else c other = cond (c == 32) Blank (cond (c == 9) Blank (cond (c == 10) Blank (cond (c == 13) Blank other)))

-- space, tab and line ends are blank; 0 to 9, A to F and a to f are digits
abbrev pub glyph_of : ℕ → Glyph
glyph_of c = blank_else c (in_row 48 57 0 c (in_row 65 70 10 c (in_row 97 102 10 c Other)))

-- the bytes, and then what follows them
abbrev pub before : List ℕ → Result (List ℕ) HexFault → Result (List ℕ) HexFault
before bs (Ok more) = Ok (bs ++ more)
before bs (Err e) = Err e

abbrev pub ended : Option ℕ → Result (List ℕ) HexFault
ended None = Ok []
ended (Some d) = Err Odd

-- the bytes of a text that begins at the offset, where a first digit may wait for its second
abbrev pub meant_from : ℕ → Option ℕ → List ℕ → Result (List ℕ) HexFault
meant_from at first [] = ended first
meant_from at first (c ∷ cs) = elim (glyph_of c) [
  | Blank ↦ meant_from (at + 1) first cs
  | Other ↦ Err (NotDigit at)
  | Digit d ↦ elim first [ None ↦ meant_from (at + 1) (Some d) cs | Some h ↦ before ((h * 16 + d) ∷ []) (meant_from (at + 1) None cs) ]
]

-- what the whole text means
abbrev pub meant : List ℕ → Result (List ℕ) HexFault
meant text = meant_from 0 None text

-- the answer is what the text means, or that there is no memory for it
abbrev pub ReadAs : Result (List ℕ) HexFault → Result (Vec ℕ Global) HexFault → Type 0
ReadAs m (Ok v) = m ≡ Ok (vec_items v)
ReadAs m (Err (NotDigit i)) = m ≡ Err (NotDigit i)
ReadAs m (Err Odd) = m ≡ Err Odd
ReadAs m (Err Memory) = Unit {0}
