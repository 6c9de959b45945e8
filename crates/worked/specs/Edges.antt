-- Worked edges of the rules.
use Rattle.std.specs.Prelude.{◌≡◌, ℕ, Bool, true, false, [], ◌∷◌, ℤ, pos, negsuc}
use Rattle.guard.specs.Decision.{admissible, calm}
use Rattle.guard.specs.declared.reading.Reading.{Reading}
use Rattle.layers.specs.Fence.{fenced}
use Rattle.layers.specs.Battery.{reserved}
use Rattle.cart.specs.declared.state.CartState.{CartState}
use Rattle.cart.specs.States.{state_at}
use Rattle.cart.specs.BrakingDistance.{distance}
use Rattle.cart.specs.Meaning.{cart}
use Rattle.drone.specs.States.{cell_at}
use Rattle.drone.specs.Meaning.{drone}

-- a reading with the full charge
abbrev pub full : {S : Type 0} → S → Reading S
full s = record { state = s; charge = 65535 }

-- whether the cart on a rail of 1,000 is recoverable at the place x with the speed v
abbrev pub cart_recovers : ℤ → ℤ → Bool
cart_recovers x v = (cart (pos 1000)).recoverable (full (state_at x v))

-- the same of an action's being admissible, and of calm
abbrev pub cart_admits : ℤ → ℤ → ℕ → Bool
cart_admits x v a = admissible (cart (pos 1000)) (full (state_at x v)) a

abbrev pub cart_calm : ℤ → ℤ → Bool
cart_calm x v = calm (cart (pos 1000)) (full (state_at x v))

-- the drone in a hall of 20 by 20 by 10
abbrev pub drone_recovers : ℤ → ℤ → ℕ → Bool
drone_recovers x y z = (drone (pos 20, pos 20, pos 10)).recoverable (full (cell_at x y z))

abbrev pub drone_admits : ℤ → ℤ → ℕ → ℕ → Bool
drone_admits x y z a = admissible (drone (pos 20, pos 20, pos 10)) (full (cell_at x y z)) a

-- the same drone behind a fence of one region, from low to high along x, over the whole width of the ground
abbrev pub fenced_recovers : ℤ → ℤ → Bool
fenced_recovers low high =
    (fenced (record { low = record { x = low; y = pos 0; z = pos 0 }; high = record { x = high; y = pos 20; z = pos 0 } } ∷ []) (drone (pos 20, pos 20, pos 10))
    ).recoverable (full (cell_at (pos 5) (pos 10) 5))

-- the cart with a reserve of 10, at place 900 with speed 20 and the given charge
abbrev pub charged : ℕ → Reading CartState
charged q = record { state = state_at (pos 900) (pos 20); charge = q }

abbrev pub reserved_recovers : ℕ → Bool
reserved_recovers q = (reserved 10 (cart (pos 1000))).recoverable (charged q)

abbrev pub reserved_admits : ℕ → Bool
reserved_admits q = admissible (reserved 10 (cart (pos 1000))) (charged q) 1

pub record Edges : Type 0 where
  -- braking distances
  pub distances : (distance 3 ≡ 1) × (distance 5 ≡ 4) × (distance 40 ≡ 380)
  -- the last recoverable places at speeds 20 and −4
  pub forward : (cart_recovers (pos 910) (pos 20) ≡ true) × (cart_recovers (pos 911) (pos 20) ≡ false)
  pub backward : (cart_recovers (pos 2) (negsuc 3) ≡ true) × (cart_recovers (pos 1) (negsuc 3) ≡ false)
  -- at place 900 and speed 20, the strongest acceleration that is admissible
  pub cart_actions : (cart_admits (pos 900) (pos 20) 1 ≡ true) × (cart_admits (pos 900) (pos 20) 2 ≡ false)
  -- the last calm places at rest
  pub cart_calms : (cart_calm (pos 994) (pos 0) ≡ true) × (cart_calm (pos 995) (pos 0) ≡ false) × (cart_calm (pos 6) (pos 0) ≡ true) × (cart_calm (pos 5) (pos 0) ≡ false)
  -- the first recoverable cell at the height 5, and what is admissible there
  pub drone_cells : (drone_recovers (pos 5) (pos 10) 5 ≡ true) × (drone_recovers (pos 4) (pos 10) 5 ≡ false)
  pub drone_actions : (drone_admits (pos 5) (pos 10) 5 1 ≡ true) × (drone_admits (pos 5) (pos 10) 5 0 ≡ false)
  -- a fence on the ground under the drone's cover, and one just beyond it
  pub fences : (fenced_recovers (pos 8) (pos 9) ≡ false) × (fenced_recovers (pos 11) (pos 12) ≡ true)
  -- the least charge that is recoverable with the reserve, and the least with which action 1 is admissible
  pub batteries : (reserved_recovers 20 ≡ true) × (reserved_recovers 19 ≡ false) × (reserved_admits 23 ≡ true) × (reserved_admits 22 ≡ false)
