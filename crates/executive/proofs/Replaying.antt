-- A use as it goes on, call by call, from its start.
use Rattle.std.proofs.Common.{◌≡◌, ℕ, List, [], ◌∷◌, ◌++◌, refl, ap, ◌∙◌, subst}
use Rattle.guard.specs.Meaning.{Meaning, Laws}
use Rattle.history.specs.History.{History}
use Rattle.history.specs.Due.{due, Right}
use Rattle.history.specs.Use.{Used, GoesOn}
use Rattle.history.specs.Findings.{Findings}
use Rattle.history.specs.declared.calls.Call.{Call}
use Rattle.history.specs.declared.calls.Answer.{Answer}
use Rattle.history.proofs.Found.{found}
use Rattle.executive.specs.Holding.{held}
use Rattle.executive.specs.Took.{Took}
use Rattle.executive.specs.Replay.{answers_after, answers_to, paired, Always, Replayed}
use Rattle.guard.specs.declared.Guard.{Ghosts}
use Rattle.executive.specs.declared.held.Executive.{Executive}

-- after the calls cs with the answers ys the executive e, made over the guard g, stands where they lead
pub record Going {G S : Type 0} {gs : Ghosts G S} (m : Meaning S) (g : G) (n : ℕ) (cs : List (Call S)) (ys : List Answer) (e : Executive G S gs) : Type 0 where
  pub guard_is : e.guard ≡ g
  pub mission_is : e.mission ≡ n
  pub answers_are : ys ≡ answers_to m n cs
  pub used : Used m n (held e) (paired [] cs ys)

module _ {S : Type 0} (m : Meaning S) (n : ℕ) where
  answers_push : (h : History S) (cs : List (Call S)) (c : Call S) → answers_after m n h (cs ++ c ∷ []) ≡ answers_after m n h cs ++ due m n (paired h cs (answers_after m n h cs)) c ∷ []
  answers_push h [] c = refl
  answers_push h (d ∷ cs) c = ap (λ ys. due m n h d ∷ ys) (answers_push (record { call = d; answer = due m n h d } ∷ h) cs c)

  paired_push : (h : History S) (cs : List (Call S)) (c : Call S) (y : Answer) → paired h (cs ++ c ∷ []) (answers_after m n h cs ++ y ∷ []) ≡ record { call = c; answer = y } ∷ paired h cs (answers_after m n h cs)
  paired_push h [] c y = refl
  paired_push h (d ∷ cs) c y = paired_push (record { call = d; answer = due m n h d } ∷ h) cs c y

  always : Laws m → (h : History S) → Right m n h → Always (Findings m n) h
  always l [] r = found m l n [] r
  always l (e ∷ h) r = (found m l n (e ∷ h) r, always l h r.1)

pub going_more : {G S : Type 0} {gs : Ghosts G S} (means : G → Meaning S) (g : G) (n : ℕ) (cs : List (Call S)) (ys : List Answer) (c : Call S) (y : Answer) (d e : Executive G S gs) → Going (means g) g n cs ys d → Took (means d.guard) c y d e → Going (means g) g n (cs ++ c ∷ []) (ys ++ y ∷ []) e
going_more {G} {S} means g n cs ys c y d e k t =
    let m = means g in
    let u : Took m c y d e = subst (λ q. Took (means q) c y d e) k.guard_is t in
    let h = paired [] cs ys in
    let w : GoesOn m n (held d) c y (held e) h = (rw k.mission_is at (u.history h)) k.used in
    record {
      guard_is = u.guard_is ∙ k.guard_is;
      mission_is = u.mission_is ∙ k.mission_is;
      answers_are = rw (answers_push m n [] cs c, ← k.answers_are) (ap (λ x. ys ++ x ∷ []) w.due_is);
      used = rw (k.answers_are, paired_push m n [] cs c y, ← k.answers_are) w.used;
    }

pub going_all : {G S : Type 0} {gs : Ghosts G S} (m : Meaning S) (g : G) (n : ℕ) (cs : List (Call S)) (ys : List Answer) (e : Executive G S gs) → Laws m → Going m g n cs ys e → Replayed m n cs ys
going_all m g n cs ys e l k =
    let r : Right m n (paired [] cs ys) = k.used.right in
    record { answers_are = k.answers_are; right = r; findings = always m n l (paired [] cs ys) r }
