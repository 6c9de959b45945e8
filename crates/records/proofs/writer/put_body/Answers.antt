use Rattle.std.proofs.Common.{◌≡◌, ◌++◌, length, refl, ap, ◌∙◌, arith}
use Rattle.records.specs.LittleEndian.{le}
use Rattle.records.specs.Writing.{placed}
use Rattle.records.proofs.Endian.{le_four}
use Rattle.records.proofs.Placing.{behind, placed_all}
use Rattle.records.proofs.writer.put_body.Goals as goal

pub returns-in-Closing : goal.returns-in-Closing
returns-in-Closing c =
    let slot = c.args.slot.now in
    let w = c.in-Closing in
    let long : length slot ≡ 20 = rw w.is at c.requires in
    let a = le 4 w.tick in
    let b = le 4 w.given in
    let d = le 4 w.spent in
    let e = le 4 w.gains in
    let one = c.put-in-Closing.ensures ∙ ap (placed slot 0) (c.to_le_bytes-in-Closing.ensures ∙ le_four w.tick) in
    let two = behind slot a _ _ _ b 4 refl (omega (arith, long)) one (c.to_le_bytes-in-Closing-2.ensures ∙ le_four w.given) c.put-in-Closing-2.ensures in
    let three = behind slot (a ++ b) _ _ _ d 8 refl (omega (arith, long)) two (c.to_le_bytes-in-Closing-3.ensures ∙ le_four w.spent) c.put-in-Closing-3.ensures in
    let four = behind slot (a ++ b ++ d) _ _ _ e 12 refl (omega (arith, long)) three (c.to_le_bytes-in-Closing-4.ensures ∙ le_four w.gains) c.put-in-Closing-4.ensures in
    let five = behind slot (a ++ b ++ d ++ e) _ _ _ (le 4 w.losses) 16 refl (omega (arith, long)) four (c.to_le_bytes-in-Closing-5.ensures ∙ le_four w.losses) c.put-in-Closing-5.ensures in
    rw w.is (placed_all slot _ _ long five)
