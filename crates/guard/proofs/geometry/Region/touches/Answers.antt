use Rattle.std.proofs.lemmas.Bool.Decides.{Decides-at}
use Rattle.guard.proofs.Regions.{decides_touches}
use Rattle.guard.proofs.geometry.Region.touches.Goals as goal

pub returns-clause-means : goal.returns-clause-means
returns-clause-means c = Decides-at _ _ c.meets.ensures (decides_touches _ _)
