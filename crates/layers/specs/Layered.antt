-- A layer keeps the laws, from those of the guard below and what it shows of its own conditions.
use Rattle.std.specs.Prelude.{ℕ, ◌≤◌, Bool, ◌&&◌, T}
use Rattle.std.proofs.lemmas.Bool.{and_parts, and_from}
use Rattle.guard.specs.declared.reading.Reading.{Reading}
use Rattle.guard.specs.Meaning.{Meaning, Laws, Follows, FallsBack, with_charge}
use Rattle.guard.proofs.Decision.{T_true, true_T}
use Rattle.layers.specs.Layer.{layered}

-- what a layer's conditions keep, where the guard below is recoverable
pub record Kept {S : Type 0} (m : Meaning S) (safely recoverably : Reading S → Bool) : Type 0 where
  pub safe : (r : Reading S) → T (m.recoverable r) → T (recoverably r) → T (safely r)
  pub stays : (r t : Reading S) → T (m.recoverable r) → T (recoverably r) → FallsBack m r t → T (recoverably t)
  pub charged : (r : Reading S) (p : ℕ) → r.charge ≤ p → T (recoverably r) → T (recoverably (with_charge r p))

both : (x y : Bool) → T x → T y → T (x && y)
both x y s t = true_T (x && y) (and_from x y (T_true x s) (T_true y t))

first : (x y : Bool) → T (x && y) → T x
first x y t = true_T x (and_parts x y (T_true (x && y) t)).0

second : (x y : Bool) → T (x && y) → T y
second x y t = true_T y (and_parts x y (T_true (x && y) t)).1

module _ {S : Type 0} (m : Meaning S) (safely recoverably : Reading S → Bool) where
  -- what follows under a layer is what follows below it
  below : (r t : Reading S) (a : ℕ) → Follows (layered safely recoverably m) r a t → Follows m r a t
  below r t a f = record { action = f.action; gust = f.gust; low = f.low; high = f.high }

  pub layered_laws : Laws m → Kept m safely recoverably → Laws (layered safely recoverably m)
  layered_laws laws kept = record {
    actions_range = laws.actions_range;
    gusts_range = laws.gusts_range;
    draw_range = laws.draw_range;
    ticks_range = laws.ticks_range;
    fallback_draw_range = laws.fallback_draw_range;
    no_action = laws.no_action;
    no_gust = laws.no_gust;
    no_draw = laws.no_draw;
    safely = λ r h. both _ _ (laws.safely r (first _ _ h)) (kept.safe r (first _ _ h) (second _ _ h));
    stays = λ r t h f. both _ _ (laws.stays r t (first _ _ h) (below r t _ f)) (kept.stays r t (first _ _ h) (second _ _ h) (below r t _ f));
    sooner = λ r t h f. laws.sooner r t (first _ _ h) (below r t _ f);
    covered = λ r t h f. laws.covered r t (first _ _ h) (below r t _ f);
    placed = λ r h. laws.placed r (first _ _ h);
    cheap = λ r h. laws.cheap r (first _ _ h);
    free_at_rest = λ r h. laws.free_at_rest r (first _ _ h);
    charged = λ r p l h. both _ _ (laws.charged r p l (first _ _ h)) (kept.charged r p l (second _ _ h));
    fallback_known = laws.fallback_known;
    made_from_numbers = laws.made_from_numbers;
    numbers_of_made = laws.numbers_of_made;
  }
