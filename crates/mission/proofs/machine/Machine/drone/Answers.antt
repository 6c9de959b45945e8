use Rattle.std.proofs.Common.{◌≡◌, Ok, sym, ap, ◌∙◌, rules}
use Rattle.drone.specs.Making.{size, sized}
use Rattle.mission.specs.Machines.{halfway}
use Rattle.mission.proofs.Sizes.{size_as_asked}
use Rattle.mission.proofs.machine.Machine.drone.Goals as goal

pub returns : goal.returns
returns c =
    let value : Ok (size c.in_ok-new.field-0) ≡ sized c.args.x c.args.y c.args.z = search rules in
    let centre : c.middle.result ≡ halfway (c.args.x, c.args.y, c.args.z) = search rules in
    centre ∙ sym (ap halfway (size_as_asked c.args.x c.args.y c.args.z (size c.in_ok-new.field-0) value))
