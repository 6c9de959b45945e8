-- The ticks in which the planner has control, by the records of a log: a tick goes from its decision to the next accepted reading.
use Rattle.std.specs.Prelude.{ℕ, cond, List, [], ◌∷◌, ◌++◌, Some, None, Option, ◌==◌, nat_lt}
use Rattle.std.specs.Option.{option_to_list}
use Rattle.records.specs.declared.record.Record.{Record}
use Rattle.records.specs.declared.record.Record.TheVariants.{Begin, Decide, Observe, Close, Switch, Refusal, Closing}
use Rattle.keeping.specs.declared.ticks.Ticks.{Ticks}

-- the range from the start to before the end, if the planner has control since the start; a range without a tick is none
abbrev pub up_to : Option ℕ → ℕ → Option Ticks
up_to None end = None
up_to (Some first) end = cond (nat_lt first end) (Some (record { first = first; end = end })) None

-- a gain at the tick: the planner has control from the tick on, the tick included, or has had it before
abbrev pub gained : Option ℕ → ℕ → Option ℕ
gained None tick = Some tick
gained (Some first) tick = Some first

-- by a switch at the tick: reasons 1 and 2 are losses, 3 is a gain, and any other is neither
abbrev pub switched : Option ℕ → ℕ → ℕ → Option ℕ
switched start tick why = cond (why == 1) None (cond (why == 2) None (cond (why == 3) (gained start tick) start))

-- a loss at the tick ends a range before the tick
abbrev pub lost : Option ℕ → ℕ → ℕ → Option Ticks
lost start tick why = cond (why == 1) (up_to start tick) (cond (why == 2) (up_to start tick) None)

-- the range that a record ends; a mission that is closed has had the ticks 0 to given - 1
abbrev pub closed_by : Option ℕ → Record → Option Ticks
closed_by start (Begin r) = None
closed_by start (Decide b) = None
closed_by start (Observe r) = None
closed_by start Close = None
closed_by start (Switch tick why r) = lost start tick why
closed_by start (Refusal i x) = None
closed_by start (Closing tick given spent gains losses) = up_to start given

-- since when the planner has control after a record, if it has
abbrev pub start_after : Option ℕ → Record → Option ℕ
start_after start (Begin r) = start
start_after start (Decide b) = start
start_after start (Observe r) = start
start_after start Close = start
start_after start (Switch tick why r) = switched start tick why
start_after start (Refusal i x) = start
start_after start (Closing tick given spent gains losses) = None

-- the ranges that the records end, one after another
abbrev pub ranges : Option ℕ → List Record → List Ticks
ranges start [] = []
ranges start (r ∷ rs) = option_to_list (closed_by start r) ++ ranges (start_after start r) rs

-- since when the planner has control after the records: a range whose end is not known
abbrev pub open_after : Option ℕ → List Record → Option ℕ
open_after start [] = start
open_after start (r ∷ rs) = open_after (start_after start r) rs
