-- A machine under its own fallback, driven by a list of gusts.
use Rattle.std.specs.Prelude.{ℕ, ◌<◌, T, List, [], ◌∷◌, Decides}
use Rattle.std.specs.List.{AllByRecursion}
use Rattle.guard.specs.declared.reading.Reading.{Reading}
use Rattle.guard.specs.Meaning.{Meaning, lowest_charge}

-- the reading after the action a under the gust w, where the most charge is drawn
abbrev pub lowest : {S : Type 0} → Meaning S → Reading S → ℕ → ℕ → Reading S
lowest m r a w = record { state = m.after r.state a w; charge = lowest_charge m r a }

-- one tick of the fallback under the gust w
abbrev pub fallen_back : {S : Type 0} → Meaning S → Reading S → ℕ → Reading S
fallen_back m r w = lowest m r (m.fallback r.state) w

-- a tick of the fallback for each gust of the list, in order
abbrev pub driven : {S : Type 0} → Meaning S → Reading S → List ℕ → Reading S
driven m r [] = r
driven m r (w ∷ ws) = driven m (fallen_back m r w) ws

-- no list of gusts, the empty one neither, drives the machine under its fallback into an unsafe reading
abbrev pub Withstands : {S : Type 0} → Meaning S → Reading S → Type 0
Withstands m r = (ws : List ℕ) → AllByRecursion (λ w. w < m.gusts) ws → T (m.safe (driven m r ws))

-- recoverable says exactly that
abbrev pub Exact : {S : Type 0} → Meaning S → Type 0
Exact m = (r : Reading _) → Decides (m.recoverable r) (Withstands m r)
