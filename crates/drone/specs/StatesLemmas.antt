-- A drone's cells by their numbers.
use Rattle.std.specs.Prelude.{◌≡◌, ◌≤◌, unsigned_abs}
use mathlib.Core.HLevel.{is_prop→PathP}
use Rattle.std.proofs.Math.Bridge.{le_prop}
use Rattle.drone.specs.declared.state.DroneState.{DroneState}

pub same_cell : (s t : DroneState) → s.x ≡ t.x → s.y ≡ t.y → s.z ≡ t.z → s ≡ t
same_cell s t e d f = λ i. record {
  x = e i;
  y = d i;
  z = f i;
  near = is_prop→PathP (λ j. unsigned_abs (e j) ≤ 1000) (λ j. le_prop) s.near t.near i;
  close = is_prop→PathP (λ j. unsigned_abs (d j) ≤ 1000) (λ j. le_prop) s.close t.close i;
  low = is_prop→PathP (λ j. f j ≤ 1000) (λ j. le_prop) s.low t.low i;
}
