use Rattle.std.proofs.lemmas.Bool.Decides.{Decides-at}
use Rattle.guard.proofs.Regions.{decides_encloses}
use Rattle.guard.proofs.geometry.Region.encloses.Goals as goal

pub returns-clause-means : goal.returns-clause-means
returns-clause-means c = λ h. Decides-at _ _ c.holds_corners.ensures (decides_encloses _ _ h)
