-- From the outcome of a call to its promise.
use Rattle.std.proofs.Common.{ℕ, Bool, true, false, cond, ltb}
use Rattle.guard.specs.Meaning.{Meaning}
use Rattle.guard.specs.Decision.{state_follows, charge_follows}
use Rattle.history.specs.Due.{same_ticket}
use Rattle.history.specs.Outcome.{Held, Outcome, at}
use Rattle.history.specs.declared.calls.Call.{Call}
use Rattle.history.specs.declared.calls.Call.TheVariants.{Begin, Decide, Spend, Observe, Close}
use Rattle.history.specs.declared.phase.Phase.{Phase}
use Rattle.history.specs.declared.phase.Phase.TheVariants.{Parked, Ready, Granted, Moving, Closed}
use Rattle.executive.specs.Took.{Own}

-- one of two outcomes, whose answers the call can both have
own_either : {S : Type 0} (c : Call S) (b : Bool) (x y : Outcome S) → Own c x.answer → Own c y.answer → Own c (cond b x y).answer
own_either c true x y h k = h
own_either c false x y h k = k

module _ {S : Type 0} (m : Meaning S) (mission : ℕ) (e : Held S) where
  pub own_at : (p : Phase S) (c : Call S) → Own c (at m mission e p c).answer
  own_at Parked (Begin r) = own_either (Begin r) (m.recoverable r) _ _ tt tt
  own_at Parked (Decide b) = tt
  own_at Parked (Spend t) = tt
  own_at Parked (Observe t) = tt
  own_at Parked Close = tt
  own_at (Ready r) (Begin t) = tt
  own_at (Ready r) (Decide b) = own_either (Decide b) (ltb e.tick 1000000) _ _ tt tt
  own_at (Ready r) (Spend t) = tt
  own_at (Ready r) (Observe t) = tt
  own_at (Ready r) Close = tt
  own_at (Granted r g) (Begin t) = tt
  own_at (Granted r g) (Decide b) = tt
  own_at (Granted r g) (Spend t) = own_either (Spend t) (same_ticket g t) _ _ tt tt
  own_at (Granted r g) (Observe t) = tt
  own_at (Granted r g) Close = tt
  own_at (Moving r a) (Begin t) = tt
  own_at (Moving r a) (Decide b) = tt
  own_at (Moving r a) (Spend t) = tt
  own_at (Moving r a) (Observe t) = own_either (Observe t) (state_follows m r.state a t.state) _ _ (own_either (Observe t) (charge_follows m r a t.charge) _ _ tt tt) tt
  own_at (Moving r a) Close = tt
  own_at Closed (Begin t) = tt
  own_at Closed (Decide b) = tt
  own_at Closed (Spend t) = tt
  own_at Closed (Observe t) = tt
  own_at Closed Close = tt
