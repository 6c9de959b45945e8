use Rattle.std.proofs.Common.{refl, ap, ◌∙◌, rules}
use Rattle.records.proofs.Opened.{read_none, read_some, read_err}
use Rattle.runs.specs.Asking.{asks}
use Rattle.runs.specs.Deeds.{CarriedAt}
use Rattle.runs.specs.Refusals.{end_number}
use Rattle.runs.proofs.Firsts.{none_due, record_due, fault_due}
use Rattle.runs.proofs.run.next_due.Goals as goal

pub returns-in-Ok-None-clause-due : goal.returns-in-Ok-None-clause-due
returns-in-Ok-None-clause-due g c = (none_due (g.G.Guard.meaning c.args.e.now.guard) c.args.place _ c.args.e.now (read_none _ _ _ c.next.ensures (search rules)), refl)

pub returns-in-Ok-Some : goal.returns-in-Ok-Some
returns-in-Ok-Some g c =
    let d = c.args.e.now in
    let r = c.in-Ok-Some.r in
    let k = c.carry_out.ensures c.args.place in
    let o = c.of-due.ensures in
    let m = g.G.Guard.meaning d.guard in
    let due : CarriedAt m c.args.place (asks m r) c.of-due.result.entry (end_number c.of-due.result.ending) d c.carry_out.new.e = record {
      entry_is = o.entry ∙ k.entry_is;
      ending_is = ap end_number o.ending ∙ k.ending_is;
      held_is = k.held_is;
      guard_is = k.guard_is;
      mission_is = k.mission_is;
    } in
    record { due = record_due m c.args.place _ d r _ _ _ (read_some _ _ _ c.next.ensures r (search rules)) due; guard = k.guard_is; mission = k.mission_is }

pub returns-in-Err-clause-due : goal.returns-in-Err-clause-due
returns-in-Err-clause-due g c =
    let x = c.in-Err.x in
    fault_due (g.G.Guard.meaning c.args.e.now.guard) c.args.place _ c.args.e.now x _ _ _ (read_err _ _ _ c.next.ensures x (search rules)) c.of.ensures.entry c.of.ensures.ending refl
