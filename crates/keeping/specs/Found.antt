-- What is found in the bytes of a log: the planner's ticks, or the first fault.
use Rattle.std.specs.Prelude.{◌≡◌, ℕ, ◌+◌, Bool, true, false, cond, List, [], ◌∷◌, length, Some, None, Ok, Err, vec_items, Option, Result}
use Rattle.records.specs.Bytes.{bytes}
use Rattle.records.specs.Tapes.{Stop, at_end, at_fault}
use Rattle.records.specs.declared.record.Record.{Record}
use Rattle.records.specs.declared.record.Record.TheVariants.{Begin, Decide, Observe, Close, Switch, Refusal, Closing}
use Rattle.keeping.specs.Control.{ranges, open_after}
use Rattle.keeping.specs.declared.planned.Planned.{Planned}
use Rattle.keeping.specs.declared.planned.LogFault.{LogFault}
use Rattle.keeping.specs.declared.planned.LogFault.TheVariants.{Unread, OfTape, Memory}

abbrev pub in_log : Record → Bool
in_log (Begin r) = false
in_log (Decide b) = false
in_log (Observe r) = false
in_log Close = false
in_log (Switch tick why r) = true
in_log (Refusal i x) = true
in_log (Closing tick given spent gains losses) = true

-- the first fault of the records that begin at the offset, and of where they stop
abbrev pub fault : ℕ → List Record → Stop → Option LogFault
fault at [] at_end = None
fault at [] (at_fault x) = Some (Unread at x)
fault at (r ∷ rs) stop = cond (in_log r) (fault (at + length (bytes r)) rs stop) (Some (OfTape at))

-- the answer to bytes that have these records and then stop so; for want of memory there is none
abbrev pub Found : List Record → Stop → Result Planned LogFault → Type 0
Found rs stop (Ok p) = (fault 0 rs stop ≡ None) × (vec_items p.ranges ≡ ranges None rs) × (p.open ≡ open_after None rs)
Found rs stop (Err (Unread at x)) = fault 0 rs stop ≡ Some (Unread at x)
Found rs stop (Err (OfTape at)) = fault 0 rs stop ≡ Some (OfTape at)
Found rs stop (Err Memory) = Unit {0}
