-- A draft by the regions that were added to it, and what adding a region answers and leaves.
use Rattle.std.specs.Prelude.{◌≡◌, true, false, cond, ◌&&◌, List, [], ◌∷◌, ◌++◌, length, map, take, Ok, Err, Result, MatchResult, nat_lt}
use Rattle.guard.specs.declared.geometry.Region.{Region}
use Rattle.layers.specs.declared.draft.Draft.{Draft}
use Rattle.layers.specs.declared.draft.keep_out.KeepOut.{KeepOut}
use Rattle.layers.specs.declared.draft.refusal.DraftRefusal.{DraftRefusal}
use Rattle.layers.specs.declared.draft.refusal.DraftRefusal.TheVariants.{Inverted, Full}
use Rattle.layers.specs.Upright.{upright}

-- the places of a draft that are taken
abbrev pub keep_outs : Draft → List KeepOut
keep_outs d = take d.count d.regions

-- the regions that were added, in their order
abbrev pub drafted : Draft → List Region
drafted d = map (λ k. k.region) (keep_outs d)

-- what adding the region b to a draft of the regions bs answers, and what the draft then holds
abbrev pub answer : List Region → Region → Result (Unit {0}) DraftRefusal
answer bs b = cond (upright b) (cond (nat_lt (length bs) 16) (Ok tt) (Err Full)) (Err Inverted)

abbrev pub added : List Region → Region → List Region
added bs b = cond (upright b && nat_lt (length bs) 16) (bs ++ b ∷ []) bs

-- an upright region is taken as it is, and any other refused
abbrev pub TakesUpright : Region → Result KeepOut DraftRefusal → Type 0
TakesUpright b r = MatchResult r (λ k. (upright b ≡ true) × (k.region ≡ b)) (λ e. (upright b ≡ false) × (e ≡ Inverted))
