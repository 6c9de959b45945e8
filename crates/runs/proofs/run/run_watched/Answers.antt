use Rattle.std.proofs.Common.{◌++◌, length, ◌∙◌}
use Rattle.history.proofs.Found.{found}
use Rattle.executive.specs.Holding.{held}
use Rattle.records.specs.Tapes.{contents}
use Rattle.records.proofs.Scanned.{tape_is}
use Rattle.runs.specs.Courses.{course}
use Rattle.runs.proofs.Calling.{course_called}
use Rattle.runs.proofs.Telling.{course_told}
use Rattle.runs.proofs.Used.{course_onward}
use Rattle.runs.proofs.run.run_watched.Goals as goal

pub returns : goal.returns
returns g c =
    let d = c.args.e.now in
    let m = g.G.Guard.meaning d.guard in
    let laws = g.met.G.Guard.lawful d.guard in
    let tape = c.args.tape.now in
    let room = length c.args.log.now in
    let events = (course m d.mission room (held d) tape).events in
    let onward = course_onward m laws d.mission room 0 (held d) (contents tape).records (contents tape).stop in
    record {
      came = c.run_through.ensures;
      tape_is = tape_is tape;
      called = rw c.run_through.ensures.number_is (course_called m d.mission room 0 (held d) (contents tape).records (contents tape).stop);
      history = λ h u. rw c.run_through.ensures.held_is (onward h u);
      findings = λ h u. found m laws d.mission (events ++ h) (onward h u).right;
      telling = λ h u n. course_told m d.mission laws room 0 (held d) (contents tape).records (contents tape).stop h u (λ k. n (c.run_through.ensures.number_is ∙ k));
    }
