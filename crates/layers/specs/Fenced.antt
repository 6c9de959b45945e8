-- A fence keeps the laws.
use Rattle.std.specs.Prelude.{◌≡◌, true, false, List, [], ◌∷◌, refl}
use Rattle.std.proofs.Common.{inl, inr}
use Rattle.std.proofs.lemmas.Bool.{and_parts, and_from, not-true, not_from_false, cases_Bool, both_ways}
use Rattle.guard.specs.declared.geometry.Point.{Point}
use Rattle.guard.specs.declared.geometry.Region.{Region}
use Rattle.guard.specs.Regions.{Inside, Within, holds, touches}
use Rattle.guard.specs.Meaning.{Meaning, Laws}
use Rattle.guard.proofs.Regions.{decides_holds, decides_touches}
use Rattle.guard.proofs.Decision.{T_true, true_T}
use Rattle.layers.specs.Fence.{outside, apart, clear, placed_outside, covers_clear, fenced}
use Rattle.layers.specs.Layered.{Kept, layered_laws}

not_held : (b c : Region) (p : Point) → Inside p c → touches b c ≡ false → holds b p ≡ false
not_held b c p i e =
    elim (cases_Bool (holds b p)) [
      | inl h ↦ absurd (both_ways (touches b c) e ((decides_touches b c).1 (p, (decides_holds b p).0 h, i)))
      | inr h ↦ h
    ]

not_touched : (b c d : Region) → Within d c → touches b c ≡ false → touches b d ≡ false
not_touched b c d w e =
    elim (cases_Bool (touches b d)) [
      | inl h ↦ let t = (decides_touches b d).0 h in absurd (both_ways (touches b c) e ((decides_touches b c).1 (t.0, t.1, w t.0 t.2)))
      | inr h ↦ h
    ]

apart_untouched : (b c : Region) → apart b c ≡ true → touches b c ≡ false
unfolding apart
apart_untouched b c e = not-true (touches b c) e

untouched_apart : (b c : Region) → touches b c ≡ false → apart b c ≡ true
unfolding apart
untouched_apart b c e = not_from_false (touches b c) e

-- a point of a region that is clear of the fence lies outside it
outside_if_clear : (bs : List Region) (c : Region) (p : Point) → Inside p c → clear bs c ≡ true → outside bs p ≡ true
outside_if_clear [] c p i e = refl
outside_if_clear (b ∷ bs) c p i e =
    let h = and_parts (apart b c) (clear bs c) e in
    and_from _ _ (not_from_false _ (not_held b c p i (apart_untouched b c h.0))) (outside_if_clear bs c p i h.1)

-- a region within one that is clear of the fence is clear of it
clear_within : (bs : List Region) (c d : Region) → Within d c → clear bs c ≡ true → clear bs d ≡ true
clear_within [] c d w e = refl
clear_within (b ∷ bs) c d w e =
    let h = and_parts (apart b c) (clear bs c) e in
    and_from _ _ (untouched_apart b d (not_touched b c d w (apart_untouched b c h.0))) (clear_within bs c d w h.1)

pub fence_kept : {S : Type 0} (bs : List Region) (m : Meaning S) → Laws m → Kept m (placed_outside bs m) (covers_clear bs m)
fence_kept bs m laws = record {
  safe = λ r h k. true_T _ (outside_if_clear bs (m.cover r.state) (m.place r.state) (laws.placed r h) (T_true _ k));
  stays = λ r t h k f. true_T _ (clear_within bs (m.cover r.state) (m.cover t.state) (laws.covered r t h f) (T_true _ k));
  charged = λ r p l k. k;
}

pub fenced_laws : {S : Type 0} (bs : List Region) (m : Meaning S) → Laws m → Laws (fenced bs m)
fenced_laws bs m laws = layered_laws m (placed_outside bs m) (covers_clear bs m) laws (fence_kept bs m laws)
