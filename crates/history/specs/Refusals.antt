-- The numbers of the refusals of calls in the table of refusals.
use Rattle.std.specs.Prelude.{ℕ}
use Rattle.history.specs.declared.calls.CallRefusal.{CallRefusal}
use Rattle.history.specs.declared.calls.CallRefusal.TheVariants.{WrongPhase, NotRecoverable, OtherGrant, StateCannotFollow, ChargeCannotFollow, MissionOver}

abbrev pub numbered : CallRefusal → ℕ
numbered WrongPhase = 6
numbered NotRecoverable = 7
numbered OtherGrant = 8
numbered StateCannotFollow = 9
numbered ChargeCannotFollow = 10
numbered MissionOver = 11
