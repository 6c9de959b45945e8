-- What a cart means as a guard.
use Rattle.std.specs.Prelude.{ℤ, pos}
use Rattle.guard.specs.Meaning.{Meaning}
use Rattle.guard.specs.Regions.{holds, encloses}
use Rattle.cart.specs.declared.state.CartState.{CartState}
use Rattle.machines.specs.Rolling.{on_axis, stretch, braking_cover}
use Rattle.cart.specs.BrakingDistance.{distance}
use Rattle.cart.specs.States.{after, draw, ticks, numbers, made}

-- the cart on the rail from 0 to the given length
abbrev pub cart : ℤ → Meaning CartState
cart length = record {
  actions = 8;
  gusts = 3;
  after = after;
  draw = draw;
  place = λ s. on_axis s.x;
  cover = λ s. braking_cover distance s.x s.v;
  ticks = ticks;
  fallback = λ s. 7;
  fallback_draw = 1;
  safe = λ r. holds (stretch (pos 0) length) (on_axis r.state.x);
  recoverable = λ r. encloses (stretch (pos 0) length) (braking_cover distance r.state.x r.state.v);
  numbers = numbers;
  made = made;
}
