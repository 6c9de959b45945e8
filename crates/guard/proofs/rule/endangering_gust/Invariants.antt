use Rattle.std.proofs.Common.{◌≡◌, ℕ, ◌<◌, true}
use Rattle.guard.specs.Driven.{lowest}
use Rattle.guard.proofs.rule.endangering_gust.Given as goal

abbrev pub invariant-loop-w : goal.invariant-loop-w
invariant-loop-w g l = let m = g.G.Guard.meaning l.g in (k : ℕ) → k < l.w → m.recoverable (lowest m l.r l.a k) ≡ true
