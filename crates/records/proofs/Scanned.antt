-- A tape's contents, by its first record and the contents of what is left.
use Rattle.std.proofs.Common.{◌≡◌, ℕ, zero, suc, ◌<◌, ◌≤◌, Bool, true, false, cond, ltb, List, [], ◌∷◌, ◌++◌, length, drop, Some, None, Ok, Err, Option, Result, sym, refl, ap, ◌∙◌, subst, append_assoc, arith, length-drop}
use Rattle.std.specs.Str.{bytes_eq}
use Rattle.records.specs.Bytes.{bytes}
use Rattle.records.specs.Kinds.{kind_of, mark_of, length_of}
use Rattle.records.specs.Reads.{Found, record_of, read_body, read_kind, some_found, read}
use Rattle.records.specs.Tapes.{at_end, at_fault, Tape, ends, breaks, goes_on, joined, with_first, after_read, at_most, contents}
use Rattle.records.specs.declared.record.Kind.{Kind}
use Rattle.records.specs.declared.record.Record.{Record}
use Rattle.records.specs.declared.refusal.ReadRefusal.{ReadRefusal}
use Rattle.records.specs.declared.refusal.ReadRefusal.TheVariants.{Cut, WrongMark}

-- what is left after a record is shorter, whatever the result
Shorter : Result (Option Found) ReadRefusal → ℕ → Type 0
Shorter (Ok None) n = Unit {0}
Shorter (Ok (Some f)) n = length f.1 < n
Shorter (Err x) n = Unit {0}

shorter_body : (k : Kind) (bs : List ℕ) (n : ℕ) (cut : Bool) → length bs < n → Shorter (some_found (cond {A = Result Found ReadRefusal} cut (Err Cut) (Ok (record_of k bs, drop (length_of k) bs)))) n
unfolding Shorter
shorter_body k bs n true h = tt
shorter_body k bs n false h = simp length-drop (omega arith)

shorter_mark : (k : Kind) (bs : List ℕ) (n : ℕ) (same : Bool) → length bs < n → Shorter (some_found (cond same (read_body k bs) (Err WrongMark))) n
unfolding Shorter
shorter_mark k bs n true h = shorter_body k bs n (ltb (length bs) (length_of k)) h
shorter_mark k bs n false h = tt

shorter_kind : (o : Option Kind) (mark bs : List ℕ) (n : ℕ) → length bs < n → Shorter (some_found (read_kind o mark bs)) n
unfolding Shorter
shorter_kind None mark bs n h = tt
shorter_kind (Some k) mark bs n h = shorter_mark k bs n (bytes_eq mark (mark_of k)) h

shorter_read : (t : List ℕ) → Shorter (read t) (length t)
unfolding Shorter
shorter_read [] = tt
shorter_read (a ∷ []) = tt
shorter_read (a ∷ b ∷ []) = tt
shorter_read (a ∷ b ∷ k ∷ bs) = shorter_kind (kind_of k) (a ∷ b ∷ []) bs (length (a ∷ b ∷ k ∷ bs)) (omega arith)

pub rest_shorter : (t : List ℕ) (r : Record) (rest : List ℕ) → read t ≡ Ok (Some (r, rest)) → length rest < length t
unfolding Shorter
rest_shorter t r rest e = subst (λ x. Shorter x (length t)) e (shorter_read t)

-- a number of turns that is large enough makes no difference
enough_so : (m n : ℕ) (x : Result (Option Found) ReadRefusal) (k : ℕ) → Shorter x k → k ≤ m → k ≤ n → ((t : List ℕ) → length t < m → length t < n → at_most m t ≡ at_most n t) → after_read x (at_most m) ≡ after_read x (at_most n)
unfolding Shorter
enough_so m n (Ok None) k s p q same = refl
enough_so m n (Ok (Some (r, rest))) k s p q same = ap (with_first r) (same rest (omega arith) (omega arith))
enough_so m n (Err x) k s p q same = refl

enough : (m n : ℕ) (t : List ℕ) → length t < m → length t < n → at_most m t ≡ at_most n t
unfolding at_most
enough zero n t p q = absurd (omega arith)
enough (suc m) zero t p q = absurd (omega arith)
enough (suc m) (suc n) t p q = enough_so m n (read t) (length t) (shorter_read t) (omega arith) (omega arith) (enough m n)

pub contents_end : (t : List ℕ) → read t ≡ Ok None → contents t ≡ record { records = []; stop = at_end }
unfolding at_most
contents_end t e = ap (λ x. after_read x (at_most (length t))) e

pub contents_fault : (t : List ℕ) (x : ReadRefusal) → read t ≡ Err x → contents t ≡ record { records = []; stop = at_fault x }
unfolding at_most
contents_fault t x e = ap (λ y. after_read y (at_most (length t))) e

pub contents_further : (t : List ℕ) (r : Record) (rest : List ℕ) → read t ≡ Ok (Some (r, rest)) → contents t ≡ with_first r (contents rest)
unfolding at_most
contents_further t r rest e =
    let s = rest_shorter t r rest e in
    ap (λ x. after_read x (at_most (length t))) e ∙ ap (with_first r) (enough (length t) (suc (length rest)) rest s (omega arith))

-- the contents of a tape are on it
tape_so : (n : ℕ) (t : List ℕ) → length t < suc n → (x : Result (Option Found) ReadRefusal) → read t ≡ x → Shorter x (length t) → ((u : List ℕ) → length u < n → Tape u (contents u).records (contents u).stop) → Tape t (contents t).records (contents t).stop
unfolding Shorter
tape_so n t h (Ok None) e s further = subst (λ c. Tape t c.records c.stop) (sym (contents_end t e)) (ends e)
tape_so n t h (Ok (Some (r, rest))) e s further = subst (λ c. Tape t c.records c.stop) (sym (contents_further t r rest e)) (goes_on e (further rest (omega arith)))
tape_so n t h (Err x) e s further = subst (λ c. Tape t c.records c.stop) (sym (contents_fault t x e)) (breaks e)

tape_below : (n : ℕ) (t : List ℕ) → length t < n → Tape t (contents t).records (contents t).stop
tape_below zero t h = absurd (omega arith)
tape_below (suc n) t h = tape_so n t h (read t) refl (shorter_read t) (tape_below n)

pub tape_is : (t : List ℕ) → Tape t (contents t).records (contents t).stop
tape_is t = tape_below (suc (length t)) t (omega arith)

-- records that are read back from their bytes are the contents of their bytes
abbrev pub Backed : List Record → Type 0
Backed [] = Unit {0}
Backed (r ∷ rs) = ((rest : List ℕ) → read (bytes r ++ rest) ≡ Ok (Some (r, rest))) × Backed rs

pub tape_of : (rs : List Record) → Backed rs → Tape (joined rs) rs at_end
tape_of [] b = ends refl
tape_of (r ∷ rs) (b, bs) = goes_on (b (joined rs)) (tape_of rs bs)

pub backed_both : (ps qs : List Record) → Backed ps → Backed qs → Backed (ps ++ qs)
backed_both [] qs b n = n
backed_both (p ∷ ps) qs (b, bs) n = (b, backed_both ps qs bs n)

pub joined_both : (ps qs : List Record) → joined (ps ++ qs) ≡ joined ps ++ joined qs
joined_both [] qs = refl
joined_both (p ∷ ps) qs = ap (λ xs. bytes p ++ xs) (joined_both ps qs) ∙ sym (append_assoc (bytes p) (joined ps) (joined qs))
