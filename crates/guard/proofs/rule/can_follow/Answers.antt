use Rattle.std.proofs.lemmas.Bool.Decides.{Decides-at}
use Rattle.guard.proofs.Decision.{decides_follows}
use Rattle.guard.proofs.rule.can_follow.Goals as goal

pub returns-clause-means : goal.returns-clause-means
returns-clause-means g c = Decides-at _ _ c.state_and_charge_can_follow.ensures (decides_follows _ (g.met.G.Guard.lawful c.args.g.now) _ _ _)
