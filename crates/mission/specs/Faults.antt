-- What can be wrong with a word of a command.
use Rattle.std.specs.Prelude.{◌≡◌, ◌⊎◌}
use Rattle.guard.specs.declared.refusal.StateRefusal.{StateRefusal}
use Rattle.layers.specs.declared.draft.refusal.DraftRefusal.{DraftRefusal}
use Rattle.machines.specs.declared.making.MakingRefusal.{MakingRefusal}
use Rattle.mission.specs.declared.fault.Why.{Why}
use Rattle.mission.specs.declared.fault.Why.TheVariants.{NoMachine, NotMade, NoState, HallForm, NoLayer, RegionForm, NotAdded, NotReserve, NotNumbers, NotCharge, NotMission, NotSize, NoOption}

-- with a machine
abbrev pub OfMachine : Why → Type 0
OfMachine e = (e ≡ NoMachine) ⊎ ((e ≡ NotNumbers) ⊎ ((e ≡ HallForm) ⊎ ((x : MakingRefusal) × (e ≡ NotMade x))))

-- with a state of a machine whose states are written in this form
abbrev pub OfState : Why → Why → Type 0
OfState form e = ((e ≡ form) ⊎ (e ≡ NotNumbers)) ⊎ ((x : StateRefusal) × (e ≡ NoState x))

-- with the regions of a fence
abbrev pub OfRegions : Why → Type 0
OfRegions e = ((e ≡ RegionForm) ⊎ (e ≡ NotNumbers)) ⊎ ((x : DraftRefusal) × (e ≡ NotAdded x))

-- with a layer
abbrev pub OfLayer : Why → Type 0
OfLayer e = (e ≡ NoLayer) ⊎ ((e ≡ NotReserve) ⊎ OfRegions e)

-- with an option or its value
abbrev pub OfOption : Why → Type 0
OfOption e = (e ≡ NoOption) ⊎ ((e ≡ NotCharge) ⊎ ((e ≡ NotMission) ⊎ (e ≡ NotSize)))
