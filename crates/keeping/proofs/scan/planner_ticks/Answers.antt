use Rattle.std.proofs.Common.{◌≡◌, true, false, ◌++◌, Some, None, Ok, Err, vec_items, Option, sym, subst, append-nil, rules}
use Rattle.std.proofs.Common.{length, ◌-◌}
use Rattle.records.specs.declared.refusal.ReadRefusal.{ReadRefusal}
use Rattle.keeping.specs.declared.planned.LogFault.TheVariants.{Unread}
use Rattle.std.specs.Option.{option_to_list}
use Rattle.records.specs.Readers.{unread}
use Rattle.keeping.specs.Control.{start_after}
use Rattle.keeping.specs.Found.{in_log}
use Rattle.keeping.specs.declared.ticks.Ticks.{Ticks}
use Rattle.keeping.proofs.Scanning.{Standing, ends_sound, ends_ranges, ends_open, unread as not_read, of_tape, read_on}
use Rattle.keeping.proofs.scan.planner_ticks.Goals as goal
use Rattle.keeping.proofs.scan.planner_ticks.Goals.{in-Some-closed_by+in_ok-push, in_default-closed_by}

pub returns-in_default : goal.returns-in_default
returns-in_default c =
    let k = c.loop-ranges.invariant in
    let n = c.next.ensures in
    let y : c.next.result ≡ Ok None = search rules in
    (ends_sound _ _ _ _ k _ _ n y, ends_ranges _ _ _ _ k _ _ n y, ends_open _ _ _ _ k _ _ n y)

pub returns-then-not-is_log : goal.returns-then-not-is_log
returns-then-not-is_log c =
    let k = c.loop-ranges.invariant in
    let n = c.next.ensures in
    let y : c.next.result ≡ Ok (Some c.in-Some.r) = search rules in
    let no-log : in_log c.in-Some.r ≡ false = search rules in
    rw c.rest.ensures (of_tape _ _ _ _ k _ _ n _ y no-log)

pub loop-ranges-preserved : goal.loop-ranges-preserved
loop-ranges-preserved c =
    let k = c.loop-ranges.invariant in
    let n = c.next.ensures in
    let y : c.next.result ≡ Ok (Some c.in-Some.r) = search rules in
    let yes-log : in_log c.in-Some.r ≡ true = search rules in
    let on = read_on _ _ _ _ k _ _ n _ y yes-log in
    let items = vec_items c.loop-ranges.ranges in
    let with-range = λ (o : Option Ticks). Standing c.args.log.now (items ++ option_to_list o) (start_after c.loop-ranges.open c.in-Some.r) (unread c.next.new.self) in
    elim c.match-closed_by.branch [
      | in-Some-closed_by+in_ok-push w ↦ rw (w.ranges-is, w.in_ok-push.ensures.items, c.start_after-open.ensures) (subst with-range (sym w.in-Some-closed_by.ensures) on)
      | in_default-closed_by w ↦ rw (w.ranges-is, c.start_after-open.ensures) (subst (λ xs. Standing c.args.log.now xs (start_after c.loop-ranges.open c.in-Some.r) (unread c.next.new.self)) (append-nil items) (subst with-range (sym w.in_default-closed_by.ensures) on))
    ]

pub returns-in_err-r : goal.returns-in_err-r
returns-in_err-r c =
    let k = c.loop-ranges.invariant in
    let n = c.next.ensures in
    let y : (x : ReadRefusal) × (c.next.result ≡ Err x) × (c.from_residual.result ≡ Err (Unread (length c.args.log.now - length c.rest.result.now) x)) = search rules in
    rw y.2 (rw c.rest.ensures (not_read _ _ _ _ k _ _ n _ y.1))
