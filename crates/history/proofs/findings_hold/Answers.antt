use Rattle.history.proofs.Found.{found}
use Rattle.history.proofs.findings_hold.Goals as goal

pub returns : goal.returns
returns g c = found _ (g.met.G.Guard.lawful c.args.guard.now)
