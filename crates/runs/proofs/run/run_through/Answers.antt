use Rattle.std.proofs.Common.{refl, rules}
use Rattle.runs.proofs.Running.{first_at, stored, passed_over, going_none, going_end, going_full, going_ended, going_more}
use Rattle.runs.proofs.run.run_through.Goals as goal

pub loop-due-init : goal.loop-due-init
loop-due-init g c =
    rw c.new-reader.ensures (going_none _ _ _ _)

pub returns-in-Err : goal.returns-in-Err
returns-in-Err g c =
    let k = c.loop-due.invariant in
    let n = c.in-Some.ensures in
    going_full _ _ _ _ _ _ _ _ _ k _ _ _ (first_at g.G.Guard.meaning k.guard_is n.due) _ _ _ n.guard n.mission (passed_over _ _ _ _ _ c.in-Err.ensures) refl refl

pub returns-in-Some-ending : goal.returns-in-Some-ending
returns-in-Some-ending g c =
    let k = c.loop-due.invariant in
    let n = c.in-Some.ensures in
    going_ended _ _ _ _ _ _ _ _ _ k _ _ _ (first_at g.G.Guard.meaning k.guard_is n.due) _ _ (stored _ _ _ _ _ c.in-Ok.ensures) _ _ n.guard n.mission c.in-Some-ending.is refl refl

pub loop-due-preserved : goal.loop-due-preserved
loop-due-preserved g c =
    let k = c.loop-due.invariant in
    let n = c.in-Some.ensures in
    going_more _ _ _ _ _ _ _ _ _ k _ _ _ (first_at g.G.Guard.meaning k.guard_is n.due) _ _ (stored _ _ _ _ _ c.in-Ok.ensures) n.guard n.mission (search rules)

pub returns : goal.returns
returns g c =
    let k = c.loop-due.invariant in
    let n = c.in_default.ensures in
    let q = rw k.guard_is at n.due.0 in
    going_end _ _ _ _ _ _ _ _ _ k _ _ q n.due.1 n.guard n.mission refl refl
