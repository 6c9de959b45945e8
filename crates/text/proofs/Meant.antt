-- A turn of the reading of a hexadecimal text, by what its next byte is.
use Rattle.std.proofs.Common.{◌≡◌, ℕ, ◌+◌, ◌*◌, ◌<◌, ◌≤◌, List, [], ◌∷◌, ◌++◌, length, get_or, drop, IfSome, Some, None, Ok, Err, Option, Result, sym, refl, ap, ◌∙◌, append_assoc, append-nil, rules}
use Rattle.std.proofs.lemmas.List.{drop_more, drop_all}
use Rattle.text.specs.Hex.{glyph_of, before, meant_from}
use Rattle.text.specs.declared.hex.Glyph.TheVariants.{Blank, Digit, Other}
use Rattle.text.specs.declared.hex.HexFault.{HexFault}
use Rattle.text.specs.declared.hex.HexFault.TheVariants.{NotDigit, Odd}

pub before_twice : (xs ys : List ℕ) (m : Result (List ℕ) HexFault) → before xs (before ys m) ≡ before (xs ++ ys) m
before_twice xs ys (Ok more) = ap Ok (sym (append_assoc xs ys more))
before_twice xs ys (Err e) = refl

opened : (t : List ℕ) (i : ℕ) → i < length t → drop i t ≡ get_or t i 0 ∷ drop (i + 1) t
opened t i h = drop_more t i 0 h

pub at_blank : (t : List ℕ) (i : ℕ) (first : Option ℕ) → i < length t → glyph_of (get_or t i 0) ≡ Blank → meant_from i first (drop i t) ≡ meant_from (i + 1) first (drop (i + 1) t)
at_blank t i first h e = rw (opened t i h, e, meant_from)

pub at_other : (t : List ℕ) (i : ℕ) (first : Option ℕ) → i < length t → glyph_of (get_or t i 0) ≡ Other → meant_from i first (drop i t) ≡ Err (NotDigit i)
at_other t i first h e = rw (opened t i h, e, meant_from)

pub at_first : (t : List ℕ) (i d : ℕ) → i < length t → glyph_of (get_or t i 0) ≡ Digit d → meant_from i None (drop i t) ≡ meant_from (i + 1) (Some d) (drop (i + 1) t)
at_first t i d h e = rw (opened t i h, e, meant_from)

pub at_second : (t : List ℕ) (i first d : ℕ) → i < length t → glyph_of (get_or t i 0) ≡ Digit d → meant_from i (Some first) (drop i t) ≡ before ((first * 16 + d) ∷ []) (meant_from (i + 1) None (drop (i + 1) t))
at_second t i first d h e = rw (opened t i h, e, meant_from)

-- the text means the bytes, and then what it means from the offset on, where a first digit may wait
abbrev pub Standing : List ℕ → List ℕ → ℕ → Option ℕ → Type 0
Standing t bs i first = (meant_from 0 None t ≡ before bs (meant_from i first (drop i t))) × IfSome first (λ h. h < 16)

digit_small : (c d : ℕ) → Digit d ≡ glyph_of c → d < 16
digit_small c d e = search rules

pub blank_more : (t bs : List ℕ) (i : ℕ) (first : Option ℕ) → Standing t bs i first → i < length t → Blank ≡ glyph_of (get_or t i 0) → Standing t bs (i + 1) first
blank_more t bs i first s h g = (s.0 ∙ ap (before bs) (at_blank t i first h (sym g)), s.1)

pub first_more : (t bs : List ℕ) (i d : ℕ) (first : Option ℕ) → Standing t bs i first → first ≡ None → i < length t → Digit d ≡ glyph_of (get_or t i 0) → Standing t bs (i + 1) (Some d)
first_more t bs i d first s e h g =
    (s.0 ∙ ap (λ x. before bs (meant_from i x (drop i t))) e ∙ ap (before bs) (at_first t i d h (sym g)), digit_small (get_or t i 0) d g)

pub second_more : (t bs : List ℕ) (i d a : ℕ) (first : Option ℕ) → Standing t bs i first → first ≡ Some a → i < length t → Digit d ≡ glyph_of (get_or t i 0) → Standing t (bs ++ ((a * 16 + d) ∷ [])) (i + 1) None
second_more t bs i d a first s e h g =
    (s.0 ∙ ap (λ x. before bs (meant_from i x (drop i t))) e ∙ ap (before bs) (at_second t i a d h (sym g)) ∙ before_twice bs ((a * 16 + d) ∷ []) _, tt)

pub all_meant : (t bs : List ℕ) (i : ℕ) (first : Option ℕ) → Standing t bs i first → first ≡ None → length t ≤ i → meant_from 0 None t ≡ Ok bs
all_meant t bs i first s e h = s.0 ∙ rw (e, drop_all i t h) (ap Ok (append-nil bs))

pub all_odd : (t bs : List ℕ) (i a : ℕ) (first : Option ℕ) → Standing t bs i first → first ≡ Some a → length t ≤ i → meant_from 0 None t ≡ Err Odd
all_odd t bs i a first s e h = s.0 ∙ rw (e, drop_all i t h) refl
