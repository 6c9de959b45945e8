-- A test at each number, or at some number, below a bound.
use Rattle.std.proofs.Common.{◌≡◌, ℕ, zero, suc, ◌<◌, Bool, true, false, ◌⊎◌, sym, refl, inl, inr, not-suc-le-zero, arith}
use Rattle.std.proofs.lemmas.Bool.{and_parts, and_from, and_cases, or_from, or_cases, or_left, or_right, cases_Bool}
use Rattle.guard.specs.Bounded.{each, any}
use Rattle.guard.specs.Decision.{TellsEach, TellsSome}

last_or_before : (k n : ℕ) → k < suc n → (k ≡ n) ⊎ (k < n)
last_or_before k n h = grind arith

pub each_at : (n k : ℕ) (f : ℕ → Bool) → k < n → each n f ≡ true → f k ≡ true
each_at zero k f h e = absurd (not-suc-le-zero h)
each_at (suc n) k f h e =
    let p = and_parts (each n f) (f n) e in
    elim (last_or_before k n h) [ inl q ↦ rw q p.1 | inr q ↦ each_at n k f q p.0 ]

pub each_all : (n : ℕ) (f : ℕ → Bool) → ((k : ℕ) → k < n → f k ≡ true) → each n f ≡ true
each_all zero f h = refl
each_all (suc n) f h = and_from (each n f) (f n) (each_all n f (λ k l. h k (omega arith))) (h n (omega arith))

pub each_but : (n : ℕ) (f : ℕ → Bool) → each n f ≡ false → (k : ℕ) × (k < n) × (f k ≡ false)
each_but zero f e = cc
each_but (suc n) f e =
    elim (and_cases (each n f) (f n) e) [
      | inl q ↦ let s : (k : ℕ) × (k < n) × (f k ≡ false) = each_but n f q in (s.0, omega arith, s.2)
      | inr q ↦ (n, omega arith, q)
    ]

pub any_at : (n : ℕ) (f : ℕ → Bool) → any n f ≡ true → (k : ℕ) × (k < n) × (f k ≡ true)
any_at zero f e = cc
any_at (suc n) f e =
    elim (or_cases (any n f) (f n) e) [
      | inl q ↦ let s : (k : ℕ) × (k < n) × (f k ≡ true) = any_at n f q in (s.0, omega arith, s.2)
      | inr q ↦ (n, omega arith, q)
    ]

pub any_none : (n : ℕ) (f : ℕ → Bool) → ((k : ℕ) → k < n → f k ≡ false) → any n f ≡ false
any_none zero f h = refl
any_none (suc n) f h = or_from (any n f) (f n) (any_none n f (λ k l. h k (omega arith))) (h n (omega arith))

pub any_some : (n k : ℕ) (f : ℕ → Bool) → k < n → f k ≡ true → any n f ≡ true
any_some zero k f h e = absurd (not-suc-le-zero h)
any_some (suc n) k f h e =
    elim (last_or_before k n h) [
      | inl q ↦ or_right (any n f) (f n) (rw q at e)
      | inr q ↦ or_left (any n f) (f n) (any_some n k f q e)
    ]

-- what a loop tells of a test is the test's value

pub told_each : (y : Bool) (n : ℕ) (f : ℕ → Bool) → TellsEach y n f → y ≡ each n f
told_each true n f h = sym (each_all n f h)
told_each false n f h =
    elim (cases_Bool (each n f)) [ inl e ↦ cc (each_at n h.0 f h.1 e) | inr e ↦ sym e ]

pub told_some : (y : Bool) (n : ℕ) (f : ℕ → Bool) → TellsSome y n f → y ≡ any n f
told_some true n f h = sym (any_some n h.0 f h.1 h.2)
told_some false n f h = sym (any_none n f h)
