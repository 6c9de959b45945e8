-- The words for the reasons and the refusals that records give by their numbers.
use Rattle.std.specs.Prelude.{ℕ, zero, suc, List, [], ◌∷◌, codes, slice_index_or}

-- those of the reasons from 0 on
abbrev pub reasons : List (List ℕ)
reasons =
    codes "control stays"
    ∷ codes "no action was proposed, so control goes to the keeper"
    ∷ codes "the proposal is not admissible, so control goes to the keeper"
    ∷ codes "the reading is calm, so control goes to the planner"
    ∷ []

abbrev pub reason_text : ℕ → List ℕ
reason_text n = slice_index_or reasons n (codes "unknown reason")

-- those of the refusals from 1 on
abbrev pub refusals : List (List ℕ)
refusals =
    codes "an upper coordinate is below its lower one"
    ∷ codes "the draft holds 16 regions"
    ∷ codes "the length of a rail is not from 1 to 100,000"
    ∷ codes "the size of a hall is not from 1 to 63 on each axis"
    ∷ codes "no state has these numbers"
    ∷ codes "the call has no place in the phase"
    ∷ codes "the reading is not recoverable"
    ∷ codes "the grant is not the one that is out"
    ∷ codes "the state cannot follow"
    ∷ codes "the charge cannot follow"
    ∷ codes "the mission has had its 1,000,000 ticks"
    ∷ codes "the record is cut short"
    ∷ codes "the mark is not that of the kind"
    ∷ codes "the kind is not from 1 to 7"
    ∷ codes "the record is one of a log"
    ∷ codes "there is no room for the record"
    ∷ []

abbrev pub refusal_text : ℕ → List ℕ
refusal_text zero = codes "unknown refusal"
refusal_text (suc n) = slice_index_or refusals n (codes "unknown refusal")
