-- The decision rule over any guard, and the relations that it decides.
use Rattle.std.specs.Prelude.{◌≡◌, ℕ, ◌<◌, Bool, true, false, ◌&&◌, T, MatchBool, Option, MatchOption, nat_le, nat_lt}
use Rattle.std.specs.Ordering.{int_eq}
use Rattle.guard.specs.declared.reading.Reading.{Reading}
use Rattle.guard.specs.Bounded.{each, any}
use Rattle.guard.specs.Meaning.{Meaning, Follows, Numbers, lowest_charge}
use Rattle.guard.specs.Driven.{lowest}

-- The tests.

-- an action is admissible at a reading if under every gust the reading with the lowest charge that follows is recoverable
abbrev pub admissible : {S : Type 0} → Meaning S → Reading S → ℕ → Bool
admissible m r a = nat_lt a m.actions && each m.gusts (λ w. m.recoverable (lowest m r a w))

-- a reading is calm if every action is admissible there
abbrev pub calm : {S : Type 0} → Meaning S → Reading S → Bool
calm m r = each m.actions (λ a. admissible m r a)

abbrev pub same_numbers : Numbers → Numbers → Bool
same_numbers a b = (int_eq a.0 b.0 && int_eq a.1 b.1) && int_eq a.2 b.2

-- some gust leads from the state s to the state t under the action a; states are told apart by their numbers
abbrev pub state_follows : {S : Type 0} → Meaning S → S → ℕ → S → Bool
state_follows m s a t = nat_lt a m.actions && any m.gusts (λ w. same_numbers (m.numbers (m.after s a w)) (m.numbers t))

-- the charge p can be left after the action a
abbrev pub charge_follows : {S : Type 0} → Meaning S → Reading S → ℕ → ℕ → Bool
charge_follows m r a p = nat_le (lowest_charge m r a) p && nat_le p r.charge

abbrev pub follows : {S : Type 0} → Meaning S → Reading S → ℕ → Reading S → Bool
follows m r a t = state_follows m r.state a t.state && charge_follows m r a t.charge

-- What they decide.

-- a is an action, and whatever can follow r under it is recoverable
pub record Admits {S : Type 0} (m : Meaning S) (r : Reading S) (a : ℕ) : Type 0 where
  pub action : a < m.actions
  pub kept : (t : Reading S) → Follows m r a t → T (m.recoverable t)

-- something unrecoverable can follow r under a
abbrev pub Endangers : {S : Type 0} → Meaning S → Reading S → ℕ → Type 0
Endangers m r a = (t : Reading _) × Follows m r a t × (m.recoverable t ≡ false)

-- o is the first gust under which what follows r under a, with the lowest charge, is not recoverable, or none
abbrev pub FirstDanger : {S : Type 0} → Meaning S → Reading S → ℕ → Option ℕ → Type 0
FirstDanger m r a o =
    MatchOption o ((w : ℕ) → w < m.gusts → m.recoverable (lowest m r a w) ≡ true)
    (λ w. (w < m.gusts) × (m.recoverable (lowest m r a w) ≡ false) × ((k : ℕ) → k < w → m.recoverable (lowest m r a k) ≡ true))

-- whatever can follow r, under any action, is recoverable
abbrev pub Calm : {S : Type 0} → Meaning S → Reading S → Type 0
Calm m r = (a : ℕ) (t : Reading _) → Follows m r a t → T (m.recoverable t)

-- What a loop over the numbers below n tells of a test.

-- y tells whether f passes at each of them
abbrev pub TellsEach : Bool → ℕ → (ℕ → Bool) → Type 0
TellsEach y n f = MatchBool y ((k : ℕ) → k < n → f k ≡ true) ((k : ℕ) × (k < n) × (f k ≡ false))

-- y tells whether f passes at some of them
abbrev pub TellsSome : Bool → ℕ → (ℕ → Bool) → Type 0
TellsSome y n f = MatchBool y ((k : ℕ) × (k < n) × (f k ≡ true)) ((k : ℕ) → k < n → f k ≡ false)
