-- A whole use of an executive: a list of calls from its making on, and their answers.
use Rattle.std.specs.Prelude.{◌≡◌, ℕ, List, [], ◌∷◌}
use Rattle.guard.specs.Meaning.{Meaning}
use Rattle.history.specs.History.{History}
use Rattle.history.specs.Due.{due, Right}
use Rattle.history.specs.Findings.{Findings}
use Rattle.history.specs.declared.calls.Call.{Call}
use Rattle.history.specs.declared.calls.Answer.{Answer}

-- the answers due to the calls, after the history h: each is a function of the calls alone
abbrev pub answers_after : {S : Type 0} → Meaning S → ℕ → History S → List (Call S) → List Answer
answers_after m n h [] = []
answers_after m n h (c ∷ cs) = due m n h c ∷ answers_after m n (record { call = c; answer = due m n h c } ∷ h) cs

abbrev pub answers_to : {S : Type 0} → Meaning S → ℕ → List (Call S) → List Answer
answers_to m n cs = answers_after m n [] cs

-- the calls with their answers, put on the history h, the newest first
abbrev pub paired : {S : Type 0} → History S → List (Call S) → List Answer → History S
paired h [] ys = h
paired h (c ∷ cs) [] = h
paired h (c ∷ cs) (y ∷ ys) = paired (record { call = c; answer = y } ∷ h) cs ys

-- P holds of the history at every point, the empty one too
abbrev pub Always : {S : Type 0} → (History S → Type 0) → History S → Type 0
Always P [] = P []
Always P (e ∷ h) = P (e ∷ h) × Always P h

-- the theorem over every use: the answers are those due to the calls alone, and the findings hold at every point
pub record Replayed {S : Type 0} (m : Meaning S) (n : ℕ) (cs : List (Call S)) (ys : List Answer) : Type 0 where
  pub answers_are : ys ≡ answers_to m n cs
  pub right : Right m n (paired [] cs ys)
  pub findings : Always (Findings m n) (paired [] cs ys)
