-- A fence of keep-out regions.
use Rattle.std.specs.Prelude.{Bool, not, List}
use Rattle.std.specs.List.{list_all}
use Rattle.guard.specs.declared.geometry.Point.{Point}
use Rattle.guard.specs.declared.geometry.Region.{Region}
use Rattle.guard.specs.Meaning.{Meaning}
use Rattle.guard.specs.Regions.{holds, touches}
use Rattle.guard.specs.declared.reading.Reading.{Reading}
use Rattle.layers.specs.Layer.{under}

-- no point lies in both regions
abbrev pub apart : Region → Region → Bool
apart b c = not (touches b c)

-- the point lies in none of the regions
abbrev pub outside : List Region → Point → Bool
outside bs p = list_all (λ b. not (holds b p)) bs

-- the region touches none of the regions
abbrev pub clear : List Region → Region → Bool
clear bs c = list_all (λ b. apart b c) bs

-- the place lies in no keep-out region
abbrev pub placed_outside : {S : Type 0} → List Region → Meaning S → Reading S → Bool
placed_outside regions m r = outside regions (m.place r.state)

-- the cover touches no keep-out region
abbrev pub covers_clear : {S : Type 0} → List Region → Meaning S → Reading S → Bool
covers_clear regions m r = clear regions (m.cover r.state)

-- safe adds that the place lies in no keep-out region, recoverable that the cover touches none
abbrev pub fenced : {S : Type 0} → List Region → Meaning S → Meaning S
fenced regions m = under (placed_outside regions) (covers_clear regions) m
