-- Which regions can be added to a draft.
use Rattle.std.specs.Prelude.{Bool, ◌&&◌, int_le}
use Rattle.guard.specs.declared.geometry.Region.{Region}

-- no upper coordinate is below its lower one
abbrev pub upright : Region → Bool
upright b = (int_le b.low.x b.high.x && int_le b.low.y b.high.y) && int_le b.low.z b.high.z
