-- The states of a cart, and how it moves from one to the next.
use Rattle.std.specs.Prelude.{ℕ, ◌+◌, ◌/◌, cond, ◌&&◌, ℤ, pos, ◌+ℤ◌, ◌-ℤ◌, Some, None, Option, ◌==◌, nat_le, nat_lt, unsigned_abs}
use Rattle.guard.specs.Meaning.{Numbers}
use Rattle.cart.specs.declared.state.CartState.{CartState}
use Rattle.machines.specs.Held.{held, held_size}
use Rattle.machines.specs.Rolling.{slowed}

-- the state with the place x and the speed v, each held within its range
abbrev pub state_at : ℤ → ℤ → CartState
state_at x v = record {
  x = held 1000000 x;
  v = held 40 v;
  near = held_size 1000000 x;
  slow = held_size 40 v;
}

-- Actions 0 to 6 accelerate by the action's number less 3, and gusts 0, 1, 2 by −1, 0, 1.
abbrev pub acceleration : ℕ → ℤ
acceleration a = pos a -ℤ pos 3

abbrev pub pushed : ℤ → ℕ → ℕ → ℤ
pushed v a w = (v +ℤ acceleration a) +ℤ (pos w -ℤ pos 1)

-- Action 7 brakes: gusts 0, 1, 2 take 2, 3, 4 off.
abbrev pub speed_after : ℤ → ℕ → ℕ → ℤ
speed_after v a w = cond (a == 7) (slowed (2 + w) v) (held 40 (pushed v a w))

-- the place moves by the new speed
abbrev pub moved : CartState → ℤ → CartState
moved s v = state_at (s.x +ℤ v) v

-- an action or a gust out of range does nothing
abbrev pub after : CartState → ℕ → ℕ → CartState
after s a w = cond (nat_lt a 8 && nat_lt w 3) (moved s (speed_after s.v a w)) s

abbrev pub draw : CartState → ℕ → ℕ
draw s a = cond (nat_lt a 7) (1 + unsigned_abs (acceleration a)) (cond (a == 7 && nat_lt 0 (unsigned_abs s.v)) 1 0)

-- half the speed's size, rounded up
abbrev pub ticks : CartState → ℕ
ticks s = (unsigned_abs s.v + 1) / 2

abbrev pub numbers : CartState → Numbers
numbers s = (s.x, s.v, pos 0)

abbrev pub made : Numbers → Option CartState
made n =
    cond ((nat_le (unsigned_abs n.0) 1000000 && nat_le (unsigned_abs n.1) 40) && unsigned_abs n.2 == 0)
    (Some (state_at n.0 n.1))
    None
