use Rattle.std.proofs.Common.{◌≡◌, ℕ, ◌<◌, ◌≤◌, List, get_or, sym, ap, ◌∙◌, subst, arith}
use Rattle.std.proofs.lemmas.List.FromFn.{get_or-map-range_with_len}
use Rattle.cart.specs.BrakingDistance.{distance}
use Rattle.cart.specs.BrakingDistanceLemmas.{distance_bound}
use Rattle.cart.proofs.distances.Distances.at.Goals as goal

pub returns : goal.returns
returns c =
    let u = c.args.u in
    let h : u < 41 = omega arith in
    let e : get_or c.args.self.now.entries u 0 ≡ distance u = ap (λ (l : List ℕ). get_or l u 0) c.args.self.now.rule ∙ get_or-map-range_with_len distance 0 41 u u 0 h (omega arith) in
    record { value = e; bound = subst (λ (n : ℕ). n ≤ 380) (sym e) (distance_bound u h) }
