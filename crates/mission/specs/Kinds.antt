-- How a machine's states are written.
use Rattle.std.specs.Prelude.{◌≡◌, ℕ, pos}
use Rattle.guard.specs.Meaning.{Numbers}
use Rattle.mission.specs.declared.fault.Why.{Why}
use Rattle.mission.specs.declared.fault.Why.TheVariants.{CartForm, DroneForm}
use Rattle.mission.specs.declared.machine.Kind.{Kind}
use Rattle.mission.specs.declared.machine.Kind.TheVariants.{Cart, Drone}

-- how many numbers a state is written with
abbrev pub width : Kind → ℕ
width Cart = 2
width Drone = 3

-- a cart's third number, which is not written, is 0; a drone's is written
abbrev pub Padded : Kind → Numbers → Type 0
Padded Cart n = n.2 ≡ pos 0
Padded Drone n = Unit {0}

-- what is wrong with a state that is written with more numbers or fewer
abbrev pub form : Kind → Why
form Cart = CartForm
form Drone = DroneForm
