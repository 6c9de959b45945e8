-- What is due first of a tape, by what is read of it.
use Rattle.std.proofs.Common.{◌≡◌, ℕ, cond, eqb, List, [], Some, None, Ok, Err, sym, ap, ◌∙◌}
use Rattle.std.proofs.lemmas.Bool.{eq-eqb}
use Rattle.guard.specs.Meaning.{Meaning}
use Rattle.executive.specs.Holding.{held}
use Rattle.guard.specs.declared.Guard.{Ghosts}
use Rattle.executive.specs.declared.held.Executive.{Executive}
use Rattle.records.specs.Reads.{read}
use Rattle.records.specs.Refusals.{numbered_read}
use Rattle.records.specs.Tapes.{Contents}
use Rattle.records.specs.declared.record.Record.{Record}
use Rattle.records.specs.declared.record.Record.TheVariants.{Refusal}
use Rattle.records.specs.declared.refusal.ReadRefusal.{ReadRefusal}
use Rattle.records.proofs.Scanned.{contents_end, contents_fault, contents_further, rest_shorter}
use Rattle.runs.specs.Asking.{asks}
use Rattle.runs.specs.Courses.{next_place, broken, deeds, deeds_on}
use Rattle.runs.specs.Deeds.{Deed, deed, CarriedAt}
use Rattle.runs.specs.Refusals.{end_number}
use Rattle.runs.specs.declared.refusal.RunRefusal.TheVariants.{Read}
use Rattle.runs.specs.Ran.{First}
use Rattle.runs.specs.declared.due.Due.{Due}

module _ {G S : Type 0} {gs : Ghosts G S} (m : Meaning S) (i : ℕ) (t : List ℕ) (d : Executive G S gs) where
  of_contents : Contents → List (Deed S)
  of_contents c = deeds m d.mission i (held d) c.records c.stop

  pub none_due : read t ≡ Ok None → deeds_on m d.mission i (held d) t ≡ []
  unfolding of_contents
  none_due e = ap of_contents (contents_end t e)

  pub record_due : (r : Record) (rest : List ℕ) (y : Due) (e : Executive G S gs) → read t ≡ Ok (Some (r, rest)) → CarriedAt m i (asks m r) y.entry (end_number y.ending) d e → First m i t y d e rest
  unfolding of_contents
  record_due r rest y e q k =
      let w = deed m d.mission i (held d) (asks m r) in
      record {
        deed = w;
        later = cond (eqb w.ending 0) (deeds_on m d.mission (next_place i) w.held rest) [];
        deeds_are = ap of_contents (contents_further t r rest q);
        entry_is = k.entry_is;
        ending_is = k.ending_is;
        held_is = k.held_is;
        later_are = λ z. rw (eq-eqb w.ending 0 (sym k.ending_is ∙ ap end_number z), k.held_is);
        shorter = λ z. rest_shorter t r rest q;
      }

  pub fault_due : (x : ReadRefusal) (y : Due) (e : Executive G S gs) (rest : List ℕ) → read t ≡ Err x → y.entry ≡ Some (Refusal i (numbered_read x)) → y.ending ≡ Some (Read x) → held e ≡ held d → First m i t y d e rest
  unfolding of_contents
  fault_due x y e rest q entry ending held_is =
      record {
        deed = broken i (held d) x;
        later = [];
        deeds_are = ap of_contents (contents_fault t x q);
        entry_is = entry;
        ending_is = ap end_number ending;
        held_is = held_is;
        later_are = λ z. cc;
        shorter = λ z. cc;
      }
