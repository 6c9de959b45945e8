-- The worked edges, by computation.
use Rattle.std.proofs.Common.{refl}
use Rattle.guard.specs.Regions.{between}
use Rattle.worked.specs.Edges.{Edges}

pub edges : Edges
unfolding between
edges = record {
  distances = (refl, refl, refl);
  forward = (refl, refl);
  backward = (refl, refl);
  cart_actions = (refl, refl);
  cart_calms = (refl, refl, refl, refl);
  drone_cells = (refl, refl);
  drone_actions = (refl, refl);
  fences = (refl, refl);
  batteries = (refl, refl, refl, refl);
}
