use Rattle.std.proofs.Common.{◌≡◌, sym, ◌∙◌, arith}
use Rattle.std.proofs.lemmas.Bool.{lt-ltb}
use Rattle.std.proofs.lemmas.Bool.Decides.{Decides-at}
use Rattle.guard.specs.Decision.{admissible}
use Rattle.guard.specs.Driven.{lowest}
use Rattle.guard.proofs.Bounded.{told_each}
use Rattle.guard.proofs.Decision.{decides_admissible, endangers}
use Rattle.guard.proofs.rule.admissible.Goals as goal

pub returns-then-a-action_count : goal.returns-then-a-action_count
returns-then-a-action_count g c =
    let m = g.G.Guard.meaning c.args.g.now in
    let laws = g.met.G.Guard.lawful c.args.g.now in
    let r = c.args.r in
    let a = c.args.a in
    let e : c.no_gust_endangers.result ≡ admissible m r a = rw (lt-ltb a m.actions (omega arith)) (told_each _ _ (λ w. m.recoverable (lowest m r a w)) c.no_gust_endangers.ensures) in
    record { value = e; means = Decides-at _ _ e (decides_admissible m laws r a); danger = λ f. endangers m laws r a (sym e ∙ f) }
