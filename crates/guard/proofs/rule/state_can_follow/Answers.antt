use Rattle.std.proofs.Common.{ℕ, Bool, arith}
use Rattle.std.proofs.lemmas.Bool.{lt-ltb}
use Rattle.guard.specs.Decision.{same_numbers}
use Rattle.guard.proofs.Bounded.{told_some}
use Rattle.guard.proofs.rule.state_can_follow.Goals as goal

pub returns-then-a-action_count : goal.returns-then-a-action_count
returns-then-a-action_count g c =
    let m = g.G.Guard.meaning c.args.g.now in
    let f : ℕ → Bool = λ w. same_numbers (m.numbers (m.after c.args.s c.args.a w)) (m.numbers c.args.t) in
    rw (lt-ltb c.args.a m.actions (omega arith)) (told_some _ _ f (rw c.numbers.ensures at c.some_gust_leads.ensures))
