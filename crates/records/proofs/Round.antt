-- A record whose numbers fit their fields is read back from its bytes, whatever follows them.
use Rattle.std.proofs.Common.{◌≡◌, ℕ, ◌^◌, ◌<◌, false, ltb, List, ◌++◌, length, ℤ, Some, Ok, refl, ap, ◌∙◌, arith, length-append, drop_at, w32, SFits, to_z, of_z}
use Rattle.std.proofs.lemmas.Int.{to_z-of_z, ints}
use Rattle.records.specs.Bytes.{Noted, bytes, body, kind}
use Rattle.records.specs.Fitting.{FitsNoted, Fitting}
use Rattle.records.specs.Kinds.{length_of}
use Rattle.records.specs.LittleEndian.{le, number, signed_le, signed_number}
use Rattle.records.specs.Reads.{record_of, read_body, some_found, read}
use Rattle.records.specs.declared.record.Kind.{Kind}
use Rattle.records.specs.declared.record.Record.{Record}
use Rattle.records.specs.declared.record.Record.TheVariants.{Begin, Decide, Observe, Close, Switch, Refusal, Closing}
use Rattle.records.proofs.Endian.{number_le}

signed_back : (z : ℤ) → SFits w32 z → signed_number (signed_le z) ≡ z
signed_back z f =
    let small : of_z w32 z < 256 ^ 4 = omega (arith, ints) in
    ap (to_z w32) (number_le 4 (of_z w32 z) small) ∙ to_z-of_z w32 z f

noted_back : (r : Noted) → FitsNoted r → ◌≡◌ {A = Noted} (record { state = (signed_number (signed_le r.state.0), signed_number (signed_le r.state.1), signed_number (signed_le r.state.2)); charge = number (le 2 r.charge) }) r
noted_back r (x, y, z, q) = rw (signed_back r.state.0 x, signed_back r.state.1 y, signed_back r.state.2 z, number_le 2 r.charge q)

body_read : (k : Kind) (b rest : List ℕ) → length b ≡ length_of k → read_body k (b ++ rest) ≡ Ok (record_of k (b ++ rest), rest)
body_read k b rest e =
    let long : ltb (length (b ++ rest)) (length_of k) ≡ false = simp length-append (grind arith) in
    rw (long, drop_at b rest (length_of k) e)

same_switch : {t u v w : ℕ} {q r : Noted} → t ≡ u → v ≡ w → q ≡ r → Switch t v q ≡ Switch u w r
same_switch a b c = cc

same_refusal : {m n x y : ℕ} → m ≡ n → x ≡ y → Refusal m x ≡ Refusal n y
same_refusal a b = cc

same_closing : {t t' g g' s s' w w' l l' : ℕ} → t ≡ t' → g ≡ g' → s ≡ s' → w ≡ w' → l ≡ l' → Closing t g s w l ≡ Closing t' g' s' w' l'
same_closing a b c d e = cc

-- the record of the bytes of a body
again : (r : Record) → Fitting r → (rest : List ℕ) → record_of (kind r) (body r ++ rest) ≡ r
again (Begin r) f rest = ap Begin (noted_back r f)
again (Decide b) f rest = ap Decide (number_le 1 b f)
again (Observe r) f rest = ap Observe (noted_back r f)
again Close f rest = refl
again (Switch t why r) (ft, fw, fr) rest = same_switch (number_le 4 t ft) (number_le 1 why fw) (noted_back r fr)
again (Refusal n x) (fn, fx) rest = same_refusal (number_le 4 n fn) (number_le 1 x fx)
again (Closing t given spent gains losses) (ft, fg, fs, fw, fl) rest = same_closing (number_le 4 t ft) (number_le 4 given fg) (number_le 4 spent fs) (number_le 4 gains fw) (number_le 4 losses fl)

pub length_body : (r : Record) → length (body r) ≡ length_of (kind r)
length_body (Begin r) = refl
length_body (Decide b) = refl
length_body (Observe r) = refl
length_body Close = refl
length_body (Switch t why r) = refl
length_body (Refusal n x) = refl
length_body (Closing t given spent gains losses) = refl

-- the mark and the kind byte of a record lead to its body
headed : (r : Record) (rest : List ℕ) → read (bytes r ++ rest) ≡ some_found (read_body (kind r) (body r ++ rest))
headed (Begin r) rest = refl
headed (Decide b) rest = refl
headed (Observe r) rest = refl
headed Close rest = refl
headed (Switch t why r) rest = refl
headed (Refusal n x) rest = refl
headed (Closing t given spent gains losses) rest = refl

pub round : (r : Record) → Fitting r → (rest : List ℕ) → read (bytes r ++ rest) ≡ Ok (Some (r, rest))
round r f rest = headed r rest ∙ ap some_found (body_read (kind r) (body r) rest (length_body r)) ∙ ap (λ x. Ok (Some (x, rest))) (again r f rest)
