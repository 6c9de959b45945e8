use Rattle.std.proofs.Common.{rules}
use Rattle.runs.proofs.run.carry_out.Goals as goal

pub returns-in-Begin : goal.returns-in-Begin
returns-in-Begin g c = rw c.in-Begin.is (search rules)

pub returns-in-Decide : goal.returns-in-Decide
returns-in-Decide g c = rw c.in-Decide.is (search rules)

pub returns-in-Observe : goal.returns-in-Observe
returns-in-Observe g c = rw c.in-Observe.is (search rules)

pub returns-in-Close : goal.returns-in-Close
returns-in-Close g c = rw c.in-Close.is (search rules)
