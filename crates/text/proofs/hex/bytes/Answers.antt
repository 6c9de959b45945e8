use Rattle.std.proofs.Common.{sym, ap, ◌∙◌, rules}
use Rattle.text.specs.Hex.{before}
use Rattle.text.proofs.Meant.{at_other, blank_more, first_more, second_more, all_meant, all_odd}
use Rattle.text.proofs.hex.bytes.Goals as goal
use Rattle.text.proofs.hex.bytes.Goals.{in-Blank, in-Digit+in-None, in-Digit+in-Some+in_ok-push-in-Some}

pub returns-in-Other : goal.returns-in-Other
returns-in-Other c =
    let t = c.args.text.now in
    c.loop-i.invariant.0 ∙ ap (before _) (at_other t c.loop-i.i _ c.loop-i-test.true (sym c.in-Other.ensures))

pub loop-i-preserved : goal.loop-i-preserved
loop-i-preserved c =
    let t = c.args.text.now in
    let i = c.loop-i.i in
    elim c.match-from.branch [
      | in-Blank w ↦ rw (w.bytes-is, w.high-is) (blank_more t _ i _ c.loop-i.invariant c.loop-i-test.true w.in-Blank.ensures)
      | in-Digit+in-None w ↦ rw (w.bytes-is, w.high-is) (first_more t _ i _ _ c.loop-i.invariant (search rules) c.loop-i-test.true w.in-Digit.ensures)
      | in-Digit+in-Some+in_ok-push-in-Some w ↦ rw (w.bytes-is, w.high-is, w.in_ok-push-in-Some.ensures.items, w.byte.ensures, w.take.ensures.after) (second_more t _ i _ _ _ c.loop-i.invariant (search rules) c.loop-i-test.true w.in-Digit.ensures)
    ]

pub returns-in-None-high : goal.returns-in-None-high
returns-in-None-high c = all_meant _ _ _ _ c.loop-i.invariant c.in-None-high.is c.loop-i-test.false

pub returns-in-Some-high : goal.returns-in-Some-high
returns-in-Some-high c = all_odd _ _ _ _ _ c.loop-i.invariant c.in-Some-high.is c.loop-i-test.false
