-- What is found in a log, by what has been read of it.
use Rattle.std.proofs.Common.{◌≡◌, ℕ, ◌+◌, ◌-◌, ◌≤◌, true, false, List, [], ◌∷◌, ◌++◌, length, Some, None, Ok, Err, Option, Result, sym, refl, ap, ◌∙◌, subst, append_assoc, append-nil, arith, length-append}
use Rattle.std.specs.Option.{option_to_list}
use Rattle.std.proofs.lemmas.Bool.{cond-true, cond-false}
use Rattle.records.specs.Bytes.{bytes}
use Rattle.records.specs.Reading.{Next, Taken}
use Rattle.records.specs.Tapes.{Contents, contents}
use Rattle.records.specs.declared.record.Record.{Record}
use Rattle.records.specs.declared.refusal.ReadRefusal.{ReadRefusal}
use Rattle.records.proofs.Opened.{read_none, read_some, read_err}
use Rattle.records.proofs.Scanned.{contents_end, contents_fault, contents_further}
use Rattle.keeping.specs.Control.{closed_by, start_after, ranges, open_after}
use Rattle.keeping.specs.Found.{in_log, fault}
use Rattle.keeping.specs.declared.planned.LogFault.{LogFault}
use Rattle.keeping.specs.declared.planned.LogFault.TheVariants.{Unread, OfTape}
use Rattle.keeping.specs.declared.ticks.Ticks.{Ticks}

-- up to where the rest begins, the ranges were found and the planner has control since the start, if it has
pub record Standing (log : List ℕ) (found : List Ticks) (start : Option ℕ) (rest : List ℕ) : Type 0 where
  pub ranges_are : ranges None (contents log).records ≡ found ++ ranges start (contents rest).records
  pub open_is : open_after None (contents log).records ≡ open_after start (contents rest).records
  pub fault_is : fault 0 (contents log).records (contents log).stop ≡ fault (length log - length rest) (contents rest).records (contents rest).stop
  pub within : length rest ≤ length log

pub at_first : (log : List ℕ) → Standing log [] None log
at_first log =
    let none : 0 ≡ length log - length log = omega arith in
    record {
      ranges_are = refl;
      open_is = refl;
      fault_is = ap (λ n. fault n (contents log).records (contents log).stop) none;
      within = omega arith;
    }

module _ (log : List ℕ) (found : List Ticks) (start : Option ℕ) (t : List ℕ) (k : Standing log found start t) where
  ranges_of : Contents → List Ticks
  ranges_of c = found ++ ranges start c.records

  open_of : Contents → Option ℕ
  open_of c = open_after start c.records

  fault_of : Contents → Option LogFault
  fault_of c = fault (length log - length t) c.records c.stop

  module _ (y : Result (Option Record) ReadRefusal) (rest : List ℕ) (n : Next t y rest) where
    pub ends_sound : y ≡ Ok None → fault 0 (contents log).records (contents log).stop ≡ None
    unfolding fault_of
    ends_sound e = k.fault_is ∙ ap fault_of (contents_end t (read_none t y rest n e))

    pub ends_ranges : y ≡ Ok None → found ≡ ranges None (contents log).records
    unfolding ranges_of
    ends_ranges e = sym (k.ranges_are ∙ ap ranges_of (contents_end t (read_none t y rest n e)) ∙ append-nil found)

    pub ends_open : y ≡ Ok None → start ≡ open_after None (contents log).records
    unfolding open_of
    ends_open e = sym (k.open_is ∙ ap open_of (contents_end t (read_none t y rest n e)))

    pub unread : (x : ReadRefusal) → y ≡ Err x → fault 0 (contents log).records (contents log).stop ≡ Some (Unread (length log - length t) x)
    unfolding fault_of
    unread x e = k.fault_is ∙ ap fault_of (contents_fault t x (read_err t y rest n x e))

    module _ (r : Record) (e : y ≡ Ok (Some r)) where
      further : contents t ≡ record { records = r ∷ (contents rest).records; stop = (contents rest).stop }
      further = contents_further t r rest (read_some t y rest n r e)

      pub of_tape : in_log r ≡ false → fault 0 (contents log).records (contents log).stop ≡ Some (OfTape (length log - length t))
      unfolding fault_of
      of_tape no-log = k.fault_is ∙ ap fault_of further ∙ cond-false (in_log r) _ _ no-log

      pub shorter : length t ≡ length (bytes r) + length rest
      shorter = ap length (subst (λ z. Taken t z rest) e n.taken) ∙ length-append (bytes r) rest

      pub read_on : in_log r ≡ true → Standing log (found ++ option_to_list (closed_by start r)) (start_after start r) rest
      unfolding ranges_of open_of fault_of
      read_on of-log =
          let small : length t ≤ length log = k.within in
          let long = shorter in
          let on : length log - length t + length (bytes r) ≡ length log - length rest = omega (arith, long, small) in
          record {
            ranges_are = k.ranges_are ∙ ap ranges_of further ∙ sym (append_assoc found (option_to_list (closed_by start r)) (ranges (start_after start r) (contents rest).records));
            open_is = k.open_is ∙ ap open_of further;
            fault_is = k.fault_is ∙ ap fault_of further ∙ cond-true (in_log r) _ _ of-log ∙ ap (λ i. fault i (contents rest).records (contents rest).stop) on;
            within = omega (arith, long, small);
          }
