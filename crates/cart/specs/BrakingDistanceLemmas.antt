-- The cart's braking distances: the rule's own consequences, each by one test over the 41 speed sizes.
use Rattle.std.specs.Prelude.{◌≡◌, ℕ, ◌+◌, ◌-◌, ◌<◌, ◌≤◌, nat_eq, nat_le, refl}
use Rattle.std.proofs.lemmas.Bool.{leb-true, eqb-true}
use Rattle.guard.proofs.Bounded.{each_at}
use Rattle.cart.specs.BrakingDistance.{distance}

pub distance_bound : (u : ℕ) → u < 41 → distance u ≤ 380
distance_bound u h = leb-true (distance u) 380 (each_at 41 u (λ k. nat_le (distance k) 380) h refl)

-- a brake that takes 2 off rolls on by the new speed, and then by its braking distance
pub distance_step : (u : ℕ) → u < 41 → distance u ≡ (u - 2) + distance (u - 2)
distance_step u h = eqb-true _ _ (each_at 41 u (λ k. nat_eq (distance k) ((k - 2) + distance (k - 2))) h refl)
