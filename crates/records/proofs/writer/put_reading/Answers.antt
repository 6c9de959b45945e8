use Rattle.std.proofs.Common.{◌≡◌, ◌++◌, refl, ap, ◌∙◌, to_z-of_z, of_z, w32, SFits, rules, arith}
use Rattle.records.specs.LittleEndian.{le, signed_le}
use Rattle.records.specs.Writing.{placed}
use Rattle.records.proofs.Endian.{le_four}
use Rattle.records.proofs.Placing.{behind, placed_all}
use Rattle.records.proofs.writer.put_reading.Goals as goal

pub returns : goal.returns
returns c =
    let slot = c.args.slot.now in
    let s = c.args.r.state in
    let fx : SFits w32 s.0 = search rules in
    let fy : SFits w32 s.1 = search rules in
    let fz : SFits w32 s.2 = search rules in
    let x = signed_le s.0 in
    let y = signed_le s.1 in
    let z = signed_le s.2 in
    let ex : c.to_le_bytes.result ≡ x = (simp (to_z-of_z fx) at c.to_le_bytes.ensures) ∙ le_four (of_z w32 s.0) in
    let ey : c.to_le_bytes-2.result ≡ y = (simp (to_z-of_z fy) at c.to_le_bytes-2.ensures) ∙ le_four (of_z w32 s.1) in
    let ez : c.to_le_bytes-3.result ≡ z = (simp (to_z-of_z fz) at c.to_le_bytes-3.ensures) ∙ le_four (of_z w32 s.2) in
    let one = c.put.ensures ∙ ap (placed slot 0) ex in
    let two = behind slot x _ _ _ y 4 refl (omega arith) one ey c.put-2.ensures in
    let three = behind slot (x ++ y) _ _ _ z 8 refl (omega arith) two ez c.put-3.ensures in
    placed_all slot _ _ c.requires (behind slot (x ++ y ++ z) _ _ _ (le 2 c.args.r.charge) 12 refl (omega arith) three c.to_le_bytes-4.ensures c.put-4.ensures)
