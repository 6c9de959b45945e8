-- The kinds of records: their numbers, their marks, and how many bytes their bodies have.
use Rattle.std.specs.Prelude.{ℕ, cond, List, [], ◌∷◌, Some, None, Option, ◌==◌}
use Rattle.records.specs.declared.record.Kind.{Kind}
use Rattle.records.specs.declared.record.Kind.TheVariants.{Begin, Decide, Observe, Close, Switch, Refusal, Closing}

-- the number that the kind byte of a record has
abbrev pub number_of : Kind → ℕ
number_of Begin = 1
number_of Decide = 2
number_of Observe = 3
number_of Close = 4
number_of Switch = 5
number_of Refusal = 6
number_of Closing = 7

abbrev pub first_with : ℕ → List Kind → Option Kind
first_with n [] = None
first_with n (k ∷ ks) = cond (n == number_of k) (Some k) (first_with n ks)

abbrev pub kinds : List Kind
kinds = Begin ∷ Decide ∷ Observe ∷ Close ∷ Switch ∷ Refusal ∷ Closing ∷ []

-- the kind that has the number, if one has
abbrev pub kind_of : ℕ → Option Kind
kind_of n = first_with n kinds

abbrev pub tape_mark : List ℕ
tape_mark = 0x4D ∷ 0x54 ∷ []

abbrev pub log_mark : List ℕ
log_mark = 0x4D ∷ 0x4C ∷ []

abbrev pub mark_of : Kind → List ℕ
mark_of Begin = tape_mark
mark_of Decide = tape_mark
mark_of Observe = tape_mark
mark_of Close = tape_mark
mark_of Switch = log_mark
mark_of Refusal = log_mark
mark_of Closing = log_mark

-- how many bytes the body of a record of the kind has
abbrev pub length_of : Kind → ℕ
length_of Begin = 14
length_of Decide = 1
length_of Observe = 14
length_of Close = 0
length_of Switch = 19
length_of Refusal = 5
length_of Closing = 20
