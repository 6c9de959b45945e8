use Rattle.std.proofs.Common.{rules}
use Rattle.drone.specs.States.{cell_at}
use Rattle.drone.specs.StatesLemmas.{same_cell}
use Rattle.drone.proofs.state.DroneState.held.Goals as goal

pub returns : goal.returns
returns c = same_cell _ (cell_at c.args.x c.args.y c.args.z) (search rules) (search rules) (search rules)
