-- What the making of an executive promises.
use Rattle.std.specs.Prelude.{◌≡◌, ℕ, []}
use Rattle.guard.specs.Meaning.{Meaning}
use Rattle.history.specs.Outcome.{unused}
use Rattle.history.specs.Use.{Used}
use Rattle.history.specs.Findings.{Findings}
use Rattle.executive.specs.Holding.{held}
use Rattle.guard.specs.declared.Guard.{Ghosts}
use Rattle.executive.specs.declared.held.Executive.{Executive}

-- e is a new executive over the guard g, of which m is the meaning
pub record Made {G S : Type 0} {gs : Ghosts G S} (m : Meaning S) (g : G) (mission : ℕ) (e : Executive G S gs) : Type 0 where
  pub held_is : held e ≡ unused
  pub guard_is : e.guard ≡ g
  pub mission_is : e.mission ≡ mission
  -- the history of no calls
  pub used : Used m mission (held e) []
  pub findings : Findings m mission []
