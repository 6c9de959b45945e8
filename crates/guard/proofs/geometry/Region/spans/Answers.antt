use Rattle.std.proofs.Common.{rules}
use Rattle.guard.proofs.geometry.Region.spans.Goals as goal
use Rattle.guard.proofs.geometry.Region.spans.Goals.{then-between, else-between}

pub returns-then-between-2 : goal.returns-then-between-2
returns-then-between-2 c = elim c.if-between.branch [ then-between w ↦ search rules | else-between w ↦ search rules ]
