use Rattle.layers.specs.Reserved.{reserved_laws}
use Rattle.layers.proofs.battery.Battery+G.new.Goals as goal

pub returns-clause-laws : goal.returns-clause-laws
returns-clause-laws g c = reserved_laws c.args.reserve (g.G.Guard.meaning c.args.below) (g.met.G.Guard.lawful c.args.below)
