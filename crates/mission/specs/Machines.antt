-- The machine of a command, and where a demonstration of it begins.
use Rattle.std.specs.Prelude.{◌≡◌, pos, int_div}
use Rattle.guard.specs.Meaning.{Numbers}
use Rattle.drone.specs.Making.{size}
use Rattle.mission.specs.declared.machine.Machine.{Machine}
use Rattle.mission.specs.declared.machine.Machine.TheVariants.{Cart, Drone}

-- halfway to a corner along its first two numbers, and 0 for the third
abbrev pub halfway : Numbers → Numbers
halfway n = (int_div n.0 (pos 2), int_div n.1 (pos 2), pos 0)

-- the numbers are those of a state at rest in the middle of the machine's rail, or on the ground in the middle of its hall
abbrev pub Centred : Machine → Type 0
Centred (Cart c n) = n ≡ halfway (c.length, pos 0, pos 0)
Centred (Drone d n) = n ≡ halfway (size d)
