use Rattle.executive.specs.Holding.{held}
use Rattle.history.proofs.Going.{goes_on}
use Rattle.executive.proofs.Taken.{own_at}
use Rattle.executive.proofs.held.Executive.take.Goals as goal

pub returns : goal.returns
returns g c =
    let d = c.args.self.now in
    let m = g.G.Guard.meaning d.guard in
    let s = c.step.ensures in
    record {
      took = record {
        answer_is = s.value;
        held_is = s.held;
        guard_is = s.guard;
        mission_is = s.mission;
        unaltered = s.unaltered;
        history = λ h u. rw (s.value, s.held) (goes_on m d.mission (held d) h u (g.met.G.Guard.lawful d.guard) c.args.call);
      };
      own = rw s.value (own_at m d.mission (held d) d.phase c.args.call);
    }
