-- What a guard means, which readings can follow a reading, and the laws that every guard keeps.
use Rattle.std.specs.Prelude.{◌≡◌, ℕ, ◌-◌, ◌<◌, ◌≤◌, Bool, T, ◌⊎◌, ℤ, Some, Option}
use Rattle.guard.specs.declared.geometry.Point.{Point}
use Rattle.guard.specs.declared.geometry.Region.{Region}
use Rattle.guard.specs.declared.reading.Reading.{Reading}
use Rattle.guard.specs.Regions.{Inside, Within}

-- the three numbers by which a state is named
abbrev pub Numbers : Type 0
Numbers = ℤ × ℤ × ℤ

-- a machine with the states S, by what its questions answer
pub record Meaning (S : Type 0) : Type 0 where
  pub actions : ℕ
  pub gusts : ℕ
  pub after : S → ℕ → ℕ → S
  pub draw : S → ℕ → ℕ
  pub place : S → Point
  pub cover : S → Region
  pub ticks : S → ℕ
  pub fallback : S → ℕ
  pub fallback_draw : ℕ
  pub safe : Reading S → Bool
  pub recoverable : Reading S → Bool
  pub numbers : S → Numbers
  pub made : Numbers → Option S

-- the lowest charge that can follow the reading r under the action a; `-` stops at 0
abbrev pub lowest_charge : {S : Type 0} → Meaning S → Reading S → ℕ → ℕ
lowest_charge m r a = r.charge - m.draw r.state a

-- the reading t can follow the reading r under the action a
pub record Follows {S : Type 0} (m : Meaning S) (r : Reading S) (a : ℕ) (t : Reading S) : Type 0 where
  pub action : a < m.actions
  pub gust : (w : ℕ) × (w < m.gusts) × (t.state ≡ m.after r.state a w)
  pub low : lowest_charge m r a ≤ t.charge
  pub high : t.charge ≤ r.charge

-- t can follow r under r's own fallback
abbrev pub FallsBack : {S : Type 0} → Meaning S → Reading S → Reading S → Type 0
FallsBack m r t = Follows m r (m.fallback r.state) t

-- the reading r with the charge p in place of its own
abbrev pub with_charge : {S : Type 0} → Reading S → ℕ → Reading S
with_charge r p = record { state = r.state; charge = p }

pub record Laws {S : Type 0} (m : Meaning S) : Type 0 where
  -- the ranges of the numbers
  pub actions_range : (1 ≤ m.actions) × (m.actions ≤ 64)
  pub gusts_range : (1 ≤ m.gusts) × (m.gusts ≤ 64)
  pub draw_range : (s : S) (a : ℕ) → m.draw s a ≤ 1000
  pub ticks_range : (s : S) → m.ticks s ≤ 1000
  pub fallback_draw_range : m.fallback_draw ≤ 1000
  -- an action or a gust out of range does nothing
  pub no_action : (s : S) (a w : ℕ) → m.actions ≤ a → m.after s a w ≡ s
  pub no_gust : (s : S) (a w : ℕ) → m.gusts ≤ w → m.after s a w ≡ s
  pub no_draw : (s : S) (a : ℕ) → m.actions ≤ a → m.draw s a ≡ 0
  -- a recoverable reading is safe
  pub safely : (r : Reading S) → T (m.recoverable r) → T (m.safe r)
  -- the fallback keeps a reading recoverable, comes nearer to rest with each tick until it is there, and stays within the cover
  pub stays : (r t : Reading S) → T (m.recoverable r) → FallsBack m r t → T (m.recoverable t)
  pub sooner : (r t : Reading S) → T (m.recoverable r) → FallsBack m r t → (m.ticks t.state < m.ticks r.state) ⊎ ((m.ticks r.state ≡ 0) × (m.ticks t.state ≡ 0))
  pub covered : (r t : Reading S) → T (m.recoverable r) → FallsBack m r t → Within (m.cover t.state) (m.cover r.state)
  pub placed : (r : Reading S) → T (m.recoverable r) → Inside (m.place r.state) (m.cover r.state)
  -- what the fallback draws, and that it draws nothing at rest
  pub cheap : (r : Reading S) → T (m.recoverable r) → m.draw r.state (m.fallback r.state) ≤ m.fallback_draw
  pub free_at_rest : (r : Reading S) → T (m.recoverable r) → m.ticks r.state ≡ 0 → m.draw r.state (m.fallback r.state) ≡ 0
  -- more charge does no harm
  pub charged : (r : Reading S) (p : ℕ) → r.charge ≤ p → T (m.recoverable r) → T (m.recoverable (with_charge r p))
  -- the fallback is an action, and a state's numbers name it
  pub fallback_known : (s : S) → m.fallback s < m.actions
  pub made_from_numbers : (s : S) → m.made (m.numbers s) ≡ Some s
  pub numbers_of_made : (n : Numbers) (s : S) → m.made n ≡ Some s → m.numbers s ≡ n
