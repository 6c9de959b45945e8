use Rattle.worked.proofs.Edges.{edges}
use Rattle.worked.proofs.edges_hold.Goals as goal

pub returns : goal.returns
returns c = edges
