-- A battery with a reserve.
use Rattle.std.specs.Prelude.{ℕ, ◌+◌, ◌*◌, Bool, nat_le}
use Rattle.guard.specs.declared.reading.Reading.{Reading}
use Rattle.guard.specs.Meaning.{Meaning}
use Rattle.layers.specs.Layer.{under}

-- the charge is at least the reserve
abbrev pub charge_left : {S : Type 0} → ℕ → Meaning S → Reading S → Bool
charge_left reserve m r = nat_le reserve r.charge

-- the charge is at least the reserve after the way to rest
abbrev pub charge_left_at_rest : {S : Type 0} → ℕ → Meaning S → Reading S → Bool
charge_left_at_rest reserve m r = nat_le (reserve + m.fallback_draw * m.ticks r.state) r.charge

-- safe adds that the charge is at least the reserve, recoverable that it still is after the way to rest
abbrev pub reserved : {S : Type 0} → ℕ → Meaning S → Meaning S
reserved reserve m = under (charge_left reserve) (charge_left_at_rest reserve) m
