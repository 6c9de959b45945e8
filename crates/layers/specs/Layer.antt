-- A layer over a guard: it adds a condition to safe and one to recoverable, and passes on everything else.
use Rattle.std.specs.Prelude.{Bool, ◌&&◌}
use Rattle.guard.specs.declared.reading.Reading.{Reading}
use Rattle.guard.specs.Meaning.{Meaning}

abbrev pub layered : {S : Type 0} → (Reading S → Bool) → (Reading S → Bool) → Meaning S → Meaning S
layered safely recoverably m = record {
  actions = m.actions;
  gusts = m.gusts;
  after = m.after;
  draw = m.draw;
  place = m.place;
  cover = m.cover;
  ticks = m.ticks;
  fallback = m.fallback;
  fallback_draw = m.fallback_draw;
  safe = λ r. m.safe r && safely r;
  recoverable = λ r. m.recoverable r && recoverably r;
  numbers = m.numbers;
  made = m.made;
}

-- what a guard of the meaning m means under a layer whose two conditions are over the meaning below them
abbrev pub under : {S : Type 0} → (Meaning S → Reading S → Bool) → (Meaning S → Reading S → Bool) → Meaning S → Meaning S
under safely recoverably m = layered (safely m) (recoverably m) m
