-- A battery keeps the laws.
use Rattle.std.specs.Prelude.{◌≡◌, ℕ, ◌+◌, ◌*◌, ◌<◌, ◌≤◌, T, nat_le}
use Rattle.std.proofs.Common.{ap, sym, ◌∙◌, inl, inr, mul-le-mul_left, mul-suc, arith, leb→le, le→leb}
use Rattle.guard.specs.declared.reading.Reading.{Reading}
use Rattle.guard.specs.Meaning.{Meaning, Laws, FallsBack}
use Rattle.layers.specs.Battery.{charge_left, charge_left_at_rest, reserved}
use Rattle.layers.specs.Layered.{Kept, layered_laws}

-- each tick of the way to rest takes no more than the fallback's draw
fewer_ticks : (c i j : ℕ) → i < j → c * i + c ≤ c * j
fewer_ticks c i j h = let e = mul-le-mul_left c h in rw mul-suc at e

module _ {S : Type 0} (n : ℕ) (m : Meaning S) (laws : Laws m) where
  enough_left : (r t : Reading S) → T (m.recoverable r) → T (nat_le (n + m.fallback_draw * m.ticks r.state) r.charge) → FallsBack m r t → n + m.fallback_draw * m.ticks t.state ≤ t.charge
  enough_left r t h k f =
      let c = m.fallback_draw in
      let i = m.ticks r.state in
      let j = m.ticks t.state in
      let e : n + c * i ≤ r.charge = leb→le _ r.charge k in
      let low = f.low in
      let cheap = laws.cheap r h in
      elim (laws.sooner r t h f) [
        | inl l ↦ let d = fewer_ticks c j i l in omega arith
        | inr z ↦ let free = laws.free_at_rest r h z.0 in let same : c * j ≡ c * i = ap (λ (x : ℕ). c * x) (z.1 ∙ sym z.0) in omega arith
      ]

  pub reserve_kept : Kept m (charge_left n m) (charge_left_at_rest n m)
  reserve_kept =
      let c = m.fallback_draw in
      let enough : (r : Reading S) → T (charge_left_at_rest n m r) → n + c * m.ticks r.state ≤ r.charge = λ r k. leb→le _ r.charge k in
      record {
        safe = λ r h k. le→leb n r.charge (let e = enough r k in omega arith);
        stays = λ r t h k f. le→leb _ t.charge (enough_left r t h k f);
        charged = λ r p l k. le→leb _ p (let e = enough r k in omega arith);
      }

  pub reserved_laws : Laws (reserved n m)
  reserved_laws = layered_laws m (charge_left n m) (charge_left_at_rest n m) laws reserve_kept
