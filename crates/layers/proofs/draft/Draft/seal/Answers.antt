use Rattle.layers.specs.Drafts.{drafted}
use Rattle.layers.specs.Fenced.{fenced_laws}
use Rattle.layers.proofs.draft.Draft.seal.Goals as goal

pub returns-clause-laws : goal.returns-clause-laws
returns-clause-laws g c = fenced_laws (drafted c.args.self) (g.G.Guard.meaning c.args.below) (g.met.G.Guard.lawful c.args.below)
