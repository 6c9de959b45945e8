use Rattle.std.proofs.Common.{length, vec_items}
use Rattle.records.specs.Readers.{unread}
use Rattle.keeping.proofs.Scanning.{Standing}
use Rattle.keeping.proofs.scan.planner_ticks.Given as goal

abbrev pub invariant-loop-ranges : goal.invariant-loop-ranges
invariant-loop-ranges l = Standing l.log (vec_items l.ranges) l.open (unread l.reader)

abbrev pub decreases-loop-ranges : goal.decreases-loop-ranges
decreases-loop-ranges l = length (unread l.reader)
