use Rattle.std.proofs.Common.{◌≡◌, ◌+◌, ◌≤◌, ◌*◌, ℕ, List, length, get_or, take, drop, ap, ◌∙◌, arith, to_z, w32, length-take, length-drop, rules}
use Rattle.records.specs.LittleEndian.{number}
use Rattle.records.specs.Reads.{field, signed_field}
use Rattle.records.proofs.Endian.{number_four, number_two}
use Rattle.records.proofs.fields.noted_at.Goals as goal

four_at : (bs b : List ℕ) (at : ℕ) → at + 4 ≤ length bs → b ≡ take 4 (drop at bs) → get_or b 0 0 + get_or b 1 0 * 256 + get_or b 2 0 * 65536 + get_or b 3 0 * 16777216 ≡ field at 4 bs
four_at bs b at h e = number_four b (simp (e, length-take, length-drop) (omega arith)) ∙ ap number e

two_at : (bs b : List ℕ) (at : ℕ) → at + 2 ≤ length bs → b ≡ take 2 (drop at bs) → get_or b 0 0 + get_or b 1 0 * 256 ≡ field at 2 bs
two_at bs b at h e = number_two b (simp (e, length-take, length-drop) (omega arith)) ∙ ap number e

pub returns : goal.returns
returns c =
    let bs = c.args.body.now in
    let at = c.args.at in
    let x : c.from_le_bytes.result ≡ signed_field at bs = c.from_le_bytes.ensures ∙ ap (to_z w32) (four_at bs _ at (omega arith) c.bytes_at.ensures) in
    let y : c.from_le_bytes-2.result ≡ signed_field (at + 4) bs = c.from_le_bytes-2.ensures ∙ ap (to_z w32) (four_at bs _ (at + 4) (omega arith) c.bytes_at-2.ensures) in
    let z : c.from_le_bytes-3.result ≡ signed_field (at + 8) bs = c.from_le_bytes-3.ensures ∙ ap (to_z w32) (four_at bs _ (at + 8) (omega arith) c.bytes_at-3.ensures) in
    let q : c.from_le_bytes-4.result ≡ field (at + 12) 2 bs = c.from_le_bytes-4.ensures ∙ two_at bs _ (at + 12) (omega arith) c.bytes_at-4.ensures in
    search (rules, x, y, z, q)
