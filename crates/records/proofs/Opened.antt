-- What was read, by what a reader answers.
use Rattle.std.proofs.Common.{◌≡◌, ℕ, List, Some, None, Ok, Err, Option, Result, sym, refl, ◌∙◌}
use Rattle.records.specs.Reads.{Found, read}
use Rattle.records.specs.Reading.{Next, answered, left}
use Rattle.records.specs.declared.record.Record.{Record}
use Rattle.records.specs.declared.refusal.ReadRefusal.{ReadRefusal}

module _ (t : List ℕ) (y : Result (Option Record) ReadRefusal) (rest : List ℕ) (n : Next t y rest) where
  none_so : (x : Result (Option Found) ReadRefusal) → ◌≡◌ {A = Result (Option Record) ReadRefusal} (Ok None) (answered x) → x ≡ Ok None
  none_so (Ok None) e = refl
  none_so (Ok (Some (r, u))) e = cc
  none_so (Err x) e = cc

  some_so : (r : Record) (x : Result (Option Found) ReadRefusal) → Ok (Some r) ≡ answered x → rest ≡ left t x → x ≡ Ok (Some (r, rest))
  some_so r (Ok None) e l = cc
  some_so r (Ok (Some (q, u))) e l = let s : r ≡ q = cc in rw (s, l)
  some_so r (Err x) e l = cc

  err_so : (w : ReadRefusal) (x : Result (Option Found) ReadRefusal) → Err w ≡ answered x → x ≡ Err w
  err_so w (Ok None) e = cc
  err_so w (Ok (Some (q, u))) e = cc
  err_so w (Err x) e = cc

  pub read_none : y ≡ Ok None → read t ≡ Ok None
  read_none e = none_so (read t) (sym e ∙ n.answer_is)

  pub read_some : (r : Record) → y ≡ Ok (Some r) → read t ≡ Ok (Some (r, rest))
  read_some r e = some_so r (read t) (sym e ∙ n.answer_is) n.left_is

  pub read_err : (x : ReadRefusal) → y ≡ Err x → read t ≡ Err x
  read_err x e = err_so x (read t) (sym e ∙ n.answer_is)
