use Rattle.std.proofs.Common.{◌≡◌}
use Rattle.std.proofs.lemmas.Bool.Decides.{Decides-at}
use Rattle.guard.specs.Decision.{admissible, calm}
use Rattle.guard.proofs.Bounded.{told_each}
use Rattle.guard.proofs.Decision.{decides_calm}
use Rattle.guard.proofs.rule.calm.Goals as goal

pub returns : goal.returns
returns g c =
    let m = g.G.Guard.meaning c.args.g.now in
    let e : c.each_action_admissible.result ≡ calm m c.args.r = told_each _ _ (admissible m c.args.r) c.each_action_admissible.ensures in
    record { value = e; means = Decides-at _ _ e (decides_calm m (g.met.G.Guard.lawful c.args.g.now) _) }
