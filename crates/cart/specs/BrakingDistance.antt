-- How far a cart rolls until it rests.
use Rattle.std.specs.Prelude.{ℕ, ◌-◌, ◌*◌, ◌/◌, ◌%◌, cond, ◌==◌}

-- the braking distance at the speed size u: k(k − 1) for u = 2k, and k·k for u = 2k + 1
abbrev pub distance : ℕ → ℕ
distance u =
    let k = u / 2 in
    cond (u % 2 == 0) (k * (k - 1)) (k * k)
