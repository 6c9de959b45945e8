use Rattle.std.proofs.Common.{◌<◌, ◌≤◌, [], ◌∷◌, ◌++◌, length, take, sym, ap, ◌∙◌, arith}
use Rattle.std.proofs.lemmas.List.{take_more, take_all}
use Rattle.executive.proofs.Replaying.{going_more, going_all}
use Rattle.executive.proofs.replay.replay.Goals as goal

pub loop-call-preserved : goal.loop-call-preserved
loop-call-preserved g c =
    let calls = c.args.calls.now in
    let i = c.loop-call.call-index in
    let h : i < length calls = omega arith in
    let e = take_more calls i c.call-item.result h ∙ ap (λ x. take i calls ++ x ∷ []) (sym c.call-item.is) in
    rw (e, c.in_ok-push.ensures.items) (going_more g.G.Guard.meaning _ _ _ _ _ _ _ _ c.loop-call.invariant c.take.ensures.took)

pub returns : goal.returns
returns g c =
    let calls = c.args.calls.now in
    let h : length calls ≤ c.loop-call.call-index = omega arith in
    let p = c.new-executive.result.guard in
    let k = going_all _ p _ _ _ _ (g.met.G.Guard.lawful p) (rw (take_all c.loop-call.call-index calls h) at c.loop-call.invariant) in
    rw c.new-executive.ensures.guard_is at k
