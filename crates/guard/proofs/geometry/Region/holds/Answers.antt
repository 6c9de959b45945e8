use Rattle.std.proofs.lemmas.Bool.Decides.{Decides-at}
use Rattle.guard.proofs.Regions.{decides_holds}
use Rattle.guard.proofs.geometry.Region.holds.Goals as goal

pub returns-clause-means : goal.returns-clause-means
returns-clause-means c = Decides-at _ _ c.spans.ensures (decides_holds _ _)
