-- Bytes put into a buffer one after another.
use Rattle.std.proofs.Common.{◌≡◌, ℕ, ◌+◌, ◌-◌, ◌≤◌, false, ltb, List, [], ◌++◌, length, take, drop, sym, refl, ap, ◌∙◌, append_assoc, append-nil, add-zero, arith, length-append, length-drop, take-append-drop, length-take, drop-drop}
use borrow.Rule.Slice.PartMut.{put_mid}
use Rattle.std.proofs.lemmas.List.{drop_all}
use Rattle.std.proofs.lemmas.Slice.{take-put_mid, drop-put_mid}
use Rattle.records.specs.Bytes.{bytes}
use Rattle.records.specs.Writing.{placed, with_record}
use Rattle.records.specs.declared.record.Record.{Record}

as_part : (log : List ℕ) (at : ℕ) (bs : List ℕ) → placed log at bs ≡ put_mid at (length bs) log bs
as_part log at bs = ap (λ d. take at log ++ (bs ++ d)) (sym (drop-drop (length bs) at log))

pub placed_part : (log : List ℕ) (at width : ℕ) (bs cs : List ℕ) → bs ≡ cs → width ≡ length cs → put_mid at width log bs ≡ placed log at cs
placed_part log at width bs cs e f = rw (e, f) (sym (as_part log at cs))

placed_both : (log : List ℕ) (at : ℕ) (a b : List ℕ) → at + length a + length b ≤ length log → placed (placed log at a) (at + length a) b ≡ placed log at (a ++ b)
placed_both log at a b h =
    let p = as_part log at a in
    let front : take (at + length a) (placed log at a) ≡ take at log ++ a = ap (take (at + length a)) p ∙ take-put_mid at (length a) log a (at + length a) refl (omega arith) in
    let n = at + length a + length b in
    let back : drop n (placed log at a) ≡ drop n log = ap (drop n) p ∙ drop-put_mid at (length a) log a n (omega arith) (omega arith) refl in
    let more : n ≡ at + length (a ++ b) = simp length-append (omega arith) in
    rw (front, back) (append_assoc (take at log) a (b ++ drop n log) ∙ ap (λ xs. take at log ++ xs) (sym (append_assoc a b (drop n log))) ∙ ap (λ (m : ℕ). take at log ++ ((a ++ b) ++ drop m log)) more)

-- a at the place, and then b behind it
pub placed_then : (log : List ℕ) (at next : ℕ) (a b mid after : List ℕ) → at + length a + length b ≤ length log → next ≡ at + length a → mid ≡ placed log at a → after ≡ placed mid next b → after ≡ placed log at (a ++ b)
placed_then log at next a b mid after h n m e = e ∙ ap (λ (k : ℕ). placed mid k b) n ∙ ap (λ (xs : List ℕ). placed xs (at + length a) b) m ∙ placed_both log at a b h

pub placed_none : (log : List ℕ) (at : ℕ) → log ≡ placed log at []
placed_none log at = rw add-zero (sym (take-append-drop at log))

pub length_placed : (log : List ℕ) (at : ℕ) (bs : List ℕ) → at + length bs ≤ length log → length (placed log at bs) ≡ length log
length_placed log at bs h = simp (length-append, length-take, length-drop) (omega arith)

-- the bytes of a record that fits, put into the buffer
pub record_put : (log : List ℕ) (at width : ℕ) (bs : List ℕ) (r : Record) → bs ≡ bytes r → width ≡ length bs → length bs ≤ length log - at → put_mid at width log bs ≡ with_record log at r
record_put log at width bs r e w h =
    let fits : length (bytes r) ≤ length log - at = rw e at h in
    let room : ltb (length log - at) (length (bytes r)) ≡ false = grind arith in
    rw room (placed_part log at width bs (bytes r) e (w ∙ ap length e))

-- the bytes that fill a buffer are what it then holds
pub placed_all : (log bs after : List ℕ) → length log ≡ length bs → after ≡ placed log 0 bs → after ≡ bs
placed_all log bs after h e =
    let end : drop (0 + length bs) log ≡ [] = drop_all (0 + length bs) log (omega arith) in
    e ∙ rw end (append-nil bs)

-- bytes that are put behind those at the front, by what they are
pub behind : (log front mid after xs bs : List ℕ) (next : ℕ) → next ≡ length front → length front + length bs ≤ length log → mid ≡ placed log 0 front → xs ≡ bs → after ≡ placed mid next xs → after ≡ placed log 0 (front ++ bs)
behind log front mid after xs bs next n h m e p = placed_then log 0 next front bs mid after (omega arith) (omega arith) m (p ∙ ap (placed mid next) e)
