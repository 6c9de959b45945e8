use Rattle.std.proofs.Common.{[]}
use Rattle.history.proofs.Going.{used_none}
use Rattle.history.proofs.Found.{found}
use Rattle.executive.proofs.held.Executive.new.Goals as goal

pub returns : goal.returns
returns g c =
    let s = c.fresh.ensures in
    record {
      held_is = s.held;
      guard_is = s.guard;
      mission_is = s.mission;
      used = rw s.held (used_none _ _);
      findings = found _ (g.met.G.Guard.lawful c.args.guard) _ [] tt;
    }
