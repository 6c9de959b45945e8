-- A state that is made where a test passes.
use Rattle.std.proofs.Common.{◌≡◌, ℕ, Bool, true, false, cond, Some, None, Option, refl, arith}

none_made : {S : Type 0} (s : S) → Option.None ≡ Some s → ⊥
none_made s e = let z : ◌≡◌ {A = ℕ} 0 1 = cc in omega arith

pub made_where : {S : Type 0} (b : Bool) (t s : S) → cond b (Some t) None ≡ Some s → (b ≡ true) × (t ≡ s)
made_where true t s e = (refl, cc)
made_where false t s e = absurd (none_made s e)
