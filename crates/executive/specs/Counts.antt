-- How many grants an executive can have given and has out in each phase, so that no count passes 1,000,000.
use Rattle.std.specs.Prelude.{ℕ, ◌+◌}
use Rattle.history.specs.declared.phase.Phase.{Phase}
use Rattle.history.specs.declared.phase.Phase.TheVariants.{Parked, Ready, Granted, Moving, Closed}

-- at most one for each tick that has ended, and one for the tick under way
abbrev pub most : {S : Type 0} → Phase S → ℕ → ℕ
most Parked tick = tick
most (Ready r) tick = tick
most (Granted r t) tick = tick + 1
most (Moving r a) tick = tick + 1
most Closed tick = 1000000

abbrev pub unspent : {S : Type 0} → Phase S → ℕ
unspent Parked = 0
unspent (Ready r) = 0
unspent (Granted r t) = 1
unspent (Moving r a) = 0
unspent Closed = 0
