-- Where a record is read, the bytes taken are that record's bytes.
use Rattle.std.proofs.Common.{◌≡◌, ℕ, ◌+◌, ◌<◌, ◌≤◌, Bool, true, false, cond, eqb, ltb, List, [], ◌∷◌, ◌++◌, length, take, drop, Some, None, Ok, Err, Option, Result, sym, refl, ap, ◌∙◌, append_assoc, arith, length-drop, take-append-drop, length-take, drop-drop, take-add, Bor}
use Rattle.std.specs.List.{AllByRecursion}
use Rattle.std.specs.Str.{bytes_eq}
use Rattle.std.proofs.ByRecursion.{All-take, All-drop}
use Rattle.std.proofs.lemmas.Slice.Eq.{bytes_eq-Decides}
use Rattle.std.proofs.lemmas.Bool.{eqb-true, ltb-false}
use Rattle.records.specs.Bytes.{reading_bytes, bytes, body, kind}
use Rattle.records.specs.Kinds.{number_of, mark_of, length_of, kinds, kind_of, first_with}
use Rattle.records.specs.LittleEndian.{le, signed_le}
use Rattle.records.specs.Reads.{Found, field, signed_field, reading_at, record_of, read_body, read_kind}
use Rattle.records.specs.Reading.{Decoded, Decodes}
use Rattle.records.specs.declared.record.Kind.{Kind}
use Rattle.records.specs.declared.record.Kind.TheVariants.{Begin, Decide, Observe, Close, Switch, Refusal, Closing}
use Rattle.records.specs.declared.record.Record.{Record}
use Rattle.records.specs.declared.refusal.ReadRefusal.TheVariants.{Cut, WrongMark, UnknownKind}
use Rattle.records.specs.declared.refusal.ReadRefusal.{ReadRefusal}
use Rattle.records.proofs.Endian.{le_number, signed_le_number}

-- the bytes are bytes
abbrev pub Bytes : List ℕ → Type 0
Bytes bs = AllByRecursion (λ b. b < 256) bs

module _ (bs : List ℕ) (small : Bytes bs) where
  part : ℕ → ℕ → List ℕ
  part at width = take width (drop at bs)

  small_part : (at width : ℕ) → Bytes (take width (drop at bs))
  small_part at width = All-take (λ b. b < 256) width (drop at bs) (All-drop (λ b. b < 256) at bs small)

  length_part : (at width : ℕ) → at + width ≤ length bs → length (take width (drop at bs)) ≡ width
  length_part at width h = simp (length-take, length-drop) (omega arith)

  field_back : (at width : ℕ) → at + width ≤ length bs → le width (field at width bs) ≡ take width (drop at bs)
  field_back at width h = rw (length_part at width h) at (le_number (take width (drop at bs)) (small_part at width))

  signed_back : (at : ℕ) → at + 4 ≤ length bs → signed_le (signed_field at bs) ≡ take 4 (drop at bs)
  signed_back at h = signed_le_number (take 4 (drop at bs)) (small_part at 4) (length_part at 4 h)

joined : (bs : List ℕ) (at width more next all : ℕ) → next ≡ at + width → all ≡ width + more → take width (drop at bs) ++ take more (drop next bs) ≡ take all (drop at bs)
joined bs at width more next all e f = rw (e, f) (sym (take-add width more (drop at bs) ∙ ap (λ xs. take width (drop at bs) ++ take more xs) (drop-drop width at bs)))

-- two parts that stand side by side
on : {a b : List ℕ} (bs : List ℕ) (at width more next all : ℕ) → next ≡ at + width → all ≡ width + more → a ≡ take width (drop at bs) → b ≡ take more (drop next bs) → a ++ b ≡ take all (drop at bs)
on {a} {b} bs at width more next all e f p q = ap (λ xs. xs ++ b) p ∙ ap (λ xs. take width (drop at bs) ++ xs) q ∙ joined bs at width more next all e f

module _ (bs : List ℕ) (small : Bytes bs) where
  reading_back : (at : ℕ) → at + 14 ≤ length bs → reading_bytes (reading_at at bs) ≡ take 14 (drop at bs)
  reading_back at h =
      let last = on bs (at + 8) 4 2 (at + 12) 6 (omega arith) refl (signed_back bs small (at + 8) (omega arith)) (field_back bs small (at + 12) 2 (omega arith)) in
      let rest = on bs (at + 4) 4 6 (at + 8) 10 (omega arith) refl (signed_back bs small (at + 4) (omega arith)) last in
      on bs at 4 10 (at + 4) 14 refl refl (signed_back bs small at (omega arith)) rest

  body_back : (k : Kind) → length_of k ≤ length bs → body (record_of k bs) ≡ take (length_of k) bs
  body_back Begin h = reading_back 0 h
  body_back Decide h = field_back bs small 0 1 h
  body_back Observe h = reading_back 0 h
  body_back Close h = refl
  body_back Switch h =
      let rest = on bs 4 1 14 5 15 refl refl (field_back bs small 4 1 (omega arith)) (reading_back 5 h) in
      on bs 0 4 15 4 19 refl refl (field_back bs small 0 4 (omega arith)) rest
  body_back Refusal h = on bs 0 4 1 4 5 refl refl (field_back bs small 0 4 (omega arith)) (field_back bs small 4 1 h)
  body_back Closing h =
      let e = on bs 12 4 4 16 8 refl refl (field_back bs small 12 4 (omega arith)) (field_back bs small 16 4 h) in
      let d = on bs 8 4 8 12 12 refl refl (field_back bs small 8 4 (omega arith)) e in
      let b = on bs 4 4 12 8 16 refl refl (field_back bs small 4 4 (omega arith)) d in
      on bs 0 4 16 4 20 refl refl (field_back bs small 0 4 (omega arith)) b

kind_back : (k : Kind) (bs : List ℕ) → kind (record_of k bs) ≡ k
kind_back Begin bs = refl
kind_back Decide bs = refl
kind_back Observe bs = refl
kind_back Close bs = refl
kind_back Switch bs = refl
kind_back Refusal bs = refl
kind_back Closing bs = refl

named_step : (n : ℕ) (j k : Kind) (o : Option Kind) (b : Bool) → eqb n (number_of j) ≡ b → cond b (Some j) o ≡ Some k → (o ≡ Some k → n ≡ number_of k) → n ≡ number_of k
named_step n j k o true q e further = let i : j ≡ k = cc in eqb-true n (number_of j) q ∙ ap number_of i
named_step n j k o false q e further = further e

named : (n : ℕ) (k : Kind) (ks : List Kind) → first_with n ks ≡ Some k → n ≡ number_of k
named n k [] e = cc
named n k (j ∷ ks) e = named_step n j k (first_with n ks) (eqb n (number_of j)) refl e (named n k ks)

not_found : (x : ReadRefusal) (f : Found) → Err x ≡ Ok f → ⊥
not_found x f e = cc

module _ (mark : List ℕ) (byte : ℕ) (bs : List ℕ) (small : Bytes bs) (r : Record) (rest : List ℕ) where
  whole : (k : Kind) → mark ≡ mark_of k → byte ≡ number_of k → length_of k ≤ length bs → r ≡ record_of k bs → rest ≡ drop (length_of k) bs → mark ++ (byte ∷ bs) ≡ bytes r ++ rest
  whole k m n long p q =
      let t : take (length_of k) bs ++ drop (length_of k) bs ≡ bs = take-append-drop (length_of k) bs in
      rw (m, n, p, q, kind_back k bs, body_back bs small k long) (sym (append_assoc (mark_of k) (number_of k ∷ take (length_of k) bs) (drop (length_of k) bs) ∙ ap (λ xs. mark_of k ++ (number_of k ∷ xs)) t))

  by_length : (k : Kind) (cut : Bool) → ltb (length bs) (length_of k) ≡ cut → mark ≡ mark_of k → byte ≡ number_of k → cond {A = Result Found ReadRefusal} cut (Err Cut) (Ok (record_of k bs, drop (length_of k) bs)) ≡ Ok (r, rest) → mark ++ (byte ∷ bs) ≡ bytes r ++ rest
  by_length k true h m n e = absurd (not_found Cut (r, rest) e)
  by_length k false h m n e =
      let p : ◌≡◌ {A = Found} (record_of k bs, drop (length_of k) bs) (r, rest) = cc in
      whole k m n (ltb-false (length bs) (length_of k) h) (sym (ap (λ (x : Found). x.0) p)) (sym (ap (λ (x : Found). x.1) p))

  by_mark : (k : Kind) (same : Bool) → bytes_eq mark (mark_of k) ≡ same → byte ≡ number_of k → cond same (read_body k bs) (Err WrongMark) ≡ Ok (r, rest) → mark ++ (byte ∷ bs) ≡ bytes r ++ rest
  by_mark k true h n e = by_length k (ltb (length bs) (length_of k)) refl ((bytes_eq-Decides mark (mark_of k)).0 h) n e
  by_mark k false h n e = absurd (not_found WrongMark (r, rest) e)

  by_kind : (o : Option Kind) → ((k : Kind) → o ≡ Some k → byte ≡ number_of k) → read_kind o mark bs ≡ Ok (r, rest) → mark ++ (byte ∷ bs) ≡ bytes r ++ rest
  by_kind None name e = absurd (not_found UnknownKind (r, rest) e)
  by_kind (Some k) name e = by_mark k (bytes_eq mark (mark_of k)) refl (name k refl) e

  pub taken : read_kind (kind_of byte) mark bs ≡ Ok (r, rest) → mark ++ (byte ∷ bs) ≡ bytes r ++ rest
  taken e = by_kind (kind_of byte) (λ k. named byte k kinds) e

pub decodes : (mark : List ℕ) (byte : ℕ) (bs : List ℕ) → Bytes bs → (y : Result (Record × Bor (List ℕ)) ReadRefusal) → Decoded (read_kind (kind_of byte) mark bs) y → Decodes (mark ++ (byte ∷ bs)) y
decodes mark byte bs small (Ok p) e = taken mark byte bs small p.0 p.1.now e
decodes mark byte bs small (Err x) e = tt
