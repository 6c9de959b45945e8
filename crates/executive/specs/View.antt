-- What a client sees of an executive.
use Rattle.std.specs.Prelude.{Some, None, Option}
use Rattle.guard.specs.declared.reading.Reading.{Reading}
use Rattle.history.specs.declared.phase.Phase.{Phase}
use Rattle.history.specs.declared.phase.Phase.TheVariants.{Parked, Ready, Granted, Moving, Closed}

-- the last accepted reading, while the mission lasts
abbrev pub reading_of : {S : Type 0} → Phase S → Option (Reading S)
reading_of Parked = None
reading_of (Ready r) = Some r
reading_of (Granted r t) = Some r
reading_of (Moving r a) = Some r
reading_of Closed = None
