use Rattle.std.proofs.Common.{◌≡◌, ℕ, ◌<◌, false}
use Rattle.guard.specs.Decision.{same_numbers}
use Rattle.guard.proofs.rule.some_gust_leads.Given as goal

abbrev pub invariant-loop-w : goal.invariant-loop-w
invariant-loop-w g l = let m = g.G.Guard.meaning l.g in (k : ℕ) → k < l.w → same_numbers (m.numbers (m.after l.s l.a k)) l.n ≡ false
