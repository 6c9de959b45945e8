-- A cart's states by their numbers.
use Rattle.std.specs.Prelude.{◌≡◌, ◌≤◌, unsigned_abs}
use mathlib.Core.HLevel.{is_prop→PathP}
use Rattle.std.proofs.Math.Bridge.{le_prop}
use Rattle.cart.specs.declared.state.CartState.{CartState}

pub same_state : (s t : CartState) → s.x ≡ t.x → s.v ≡ t.v → s ≡ t
same_state s t e d = λ i. record {
  x = e i;
  v = d i;
  near = is_prop→PathP (λ j. unsigned_abs (e j) ≤ 1000000) (λ j. le_prop) s.near t.near i;
  slow = is_prop→PathP (λ j. unsigned_abs (d j) ≤ 40) (λ j. le_prop) s.slow t.slow i;
}
