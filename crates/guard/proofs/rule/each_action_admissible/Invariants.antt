use Rattle.std.proofs.Common.{◌≡◌, ℕ, ◌<◌, true}
use Rattle.guard.specs.Decision.{admissible}
use Rattle.guard.proofs.rule.each_action_admissible.Given as goal

abbrev pub invariant-loop-a : goal.invariant-loop-a
invariant-loop-a g l = let m = g.G.Guard.meaning l.g in (k : ℕ) → k < l.a → admissible m l.r k ≡ true
