-- The cells of a drone, and how it moves from one to the next.
use Rattle.std.specs.Prelude.{ℕ, ◌+◌, ◌-◌, ◌/◌, ◌%◌, min, cond, ◌&&◌, ℤ, pos, negsuc, ◌+ℤ◌, ◌-ℤ◌, Some, None, Option, ◌==◌, int_le, nat_le, nat_lt, unsigned_abs}
use Rattle.std.proofs.Math.Nat.{min-le_right}
use Rattle.guard.specs.Meaning.{Numbers}
use Rattle.drone.specs.declared.state.DroneState.{DroneState}
use Rattle.machines.specs.Held.{held, held_size}

-- the cell with these coordinates, each held within its range
abbrev pub cell_at : ℤ → ℤ → ℕ → DroneState
cell_at x y z = record {
  x = held 1000 x;
  y = held 1000 y;
  z = min z 1000;
  near = held_size 1000 x;
  close = held_size 1000 y;
  low = min-le_right z 1000;
}

-- the step along an axis: 1 under the action `up`, −1 under the action `down`, 0 under any other
abbrev pub step : ℕ → ℕ → ℕ → ℤ
step up down a = cond (a == up) (pos 1) (cond (a == down) (negsuc 0) (pos 0))

-- the push along an axis of 0, 1 or 2: that number less 1
abbrev pub push : ℕ → ℤ
push n = pos n -ℤ pos 1

-- the pushes of gust w: its third along x, and what remains of it along y
abbrev pub push_x : ℕ → ℤ
push_x w = push (w / 3)

abbrev pub push_y : ℕ → ℤ
push_y w = push (w % 3)

abbrev pub climbed : ℕ → ℕ → ℕ
climbed a z = cond (a == 5) (z + 1) (cond (a == 6) (z - 1) z)

-- above the ground: actions 1 to 6 move x up and down, y up and down, z up and down, and the gust pushes in every action
abbrev pub x_after : DroneState → ℕ → ℕ → ℤ
x_after s a w = (s.x +ℤ step 1 2 a) +ℤ push_x w

abbrev pub y_after : DroneState → ℕ → ℕ → ℤ
y_after s a w = (s.y +ℤ step 3 4 a) +ℤ push_y w

abbrev pub flown : DroneState → ℕ → ℕ → DroneState
flown s a w = cell_at (x_after s a w) (y_after s a w) (climbed a s.z)

-- on the ground: no gust acts, and every action but the climb leaves the cell as it is
abbrev pub lifted : DroneState → ℕ → DroneState
lifted s a = cond (a == 5) (cell_at s.x s.y 1) s

-- an action or a gust out of range does nothing
abbrev pub after : DroneState → ℕ → ℕ → DroneState
after s a w = cond (nat_lt a 7 && nat_lt w 9) (cond (s.z == 0) (lifted s a) (flown s a w)) s

abbrev pub draw : DroneState → ℕ → ℕ
draw s a = cond (a == 0) 2 (cond (nat_lt a 5) 3 (cond (a == 5) 4 (cond (a == 6 && nat_lt 0 s.z) 2 0)))

abbrev pub numbers : DroneState → Numbers
numbers s = (s.x, s.y, pos s.z)

abbrev pub made : Numbers → Option DroneState
made n =
    cond ((nat_le (unsigned_abs n.0) 1000 && nat_le (unsigned_abs n.1) 1000) && (int_le (pos 0) n.2 && int_le n.2 (pos 1000)))
    (Some (cell_at n.0 n.1 (unsigned_abs n.2)))
    None
