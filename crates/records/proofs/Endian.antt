-- A number is the one that its bytes write, and bytes are those of the number that they write.
use Rattle.std.proofs.Common.{◌≡◌, ℕ, zero, suc, ◌+◌, ◌*◌, ◌/◌, ◌%◌, ◌^◌, ◌<◌, List, [], ◌∷◌, length, refl, ap, ◌∙◌, pow-suc, arith, w32, get_or}
use Rattle.std.specs.List.{AllByRecursion}
use Rattle.std.proofs.lemmas.Int.{of_z-to_z}
use Rattle.records.specs.LittleEndian.{le, number, signed_le, signed_number}

pub length_le : (width n : ℕ) → length (le width n) ≡ width
length_le zero n = refl
length_le (suc width) n = ap suc (length_le width (n / 256))

pub number_le : (width n : ℕ) → n < 256 ^ width → number (le width n) ≡ n
number_le zero n h = omega arith
number_le (suc width) n h =
    let p : 256 ^ suc width ≡ 256 ^ width * 256 = pow-suc 256 width in
    let e = number_le width (n / 256) (omega arith) in
    omega arith

pub le_number : (bs : List ℕ) → AllByRecursion (λ b. b < 256) bs → le (length bs) (number bs) ≡ bs
le_number [] h = refl
le_number (b ∷ bs) (small, rest) =
    let low : (b + number bs * 256) % 256 ≡ b = omega arith in
    let high : (b + number bs * 256) / 256 ≡ number bs = omega arith in
    rw (low, high) (ap (λ xs. b ∷ xs) (le_number bs rest))

pub number_small : (bs : List ℕ) → AllByRecursion (λ b. b < 256) bs → number bs < 256 ^ length bs
number_small [] h = omega arith
number_small (b ∷ bs) (small, rest) =
    let p : 256 ^ suc (length bs) ≡ 256 ^ length bs * 256 = pow-suc 256 (length bs) in
    let e = number_small bs rest in
    omega arith

-- the four bytes of the signed number that they write
pub signed_le_number : (bs : List ℕ) → AllByRecursion (λ b. b < 256) bs → length bs ≡ 4 → signed_le (signed_number bs) ≡ bs
signed_le_number bs h e =
    let small : number bs < 2 ^ 32 = rw e at (number_small bs h) in
    ap (le 4) (of_z-to_z w32 (number bs) small) ∙ (rw e at (le_number bs h))

-- the bytes as the library's own functions give them
pub le_four : (n : ℕ) → n % 256 ∷ n / 256 % 256 ∷ n / 65536 % 256 ∷ n / 16777216 % 256 ∷ [] ≡ le 4 n
le_four n =
    let second : n / 65536 ≡ n / 256 / 256 = omega arith in
    let third : n / 16777216 ≡ n / 256 / 256 / 256 = omega arith in
    rw (second, third)

pub le_one : (n : ℕ) → n < 256 → n ∷ [] ≡ le 1 n
le_one n h = let e : n ≡ n % 256 = omega arith in ap (λ (b : ℕ). b ∷ []) e

-- the number that four bytes, or two, write
pub number_four : (bs : List ℕ) → length bs ≡ 4 → get_or bs 0 0 + get_or bs 1 0 * 256 + get_or bs 2 0 * 65536 + get_or bs 3 0 * 16777216 ≡ number bs
number_four [] h = absurd (omega arith)
number_four (a ∷ []) h = absurd (omega arith)
number_four (a ∷ b ∷ []) h = absurd (omega arith)
number_four (a ∷ b ∷ c ∷ []) h = absurd (omega arith)
number_four (a ∷ b ∷ c ∷ d ∷ []) h = omega arith
number_four (a ∷ b ∷ c ∷ d ∷ e ∷ bs) h = absurd (omega arith)

pub number_two : (bs : List ℕ) → length bs ≡ 2 → get_or bs 0 0 + get_or bs 1 0 * 256 ≡ number bs
number_two [] h = absurd (omega arith)
number_two (a ∷ []) h = absurd (omega arith)
number_two (a ∷ b ∷ []) h = omega arith
number_two (a ∷ b ∷ c ∷ bs) h = absurd (omega arith)
