-- How large a drone's hall may be.
use Rattle.std.specs.Prelude.{Bool, ◌&&◌, ℤ, pos, int_le}

-- from 1 to 63 on an axis
abbrev pub fits : ℤ → Bool
fits n = int_le (pos 1) n && int_le n (pos 63)
