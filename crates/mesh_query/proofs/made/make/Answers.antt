-- The numbers of the crossing, in lowest terms.
use Rattle.std.proofs.Common.{rules, arith, FitsSigned, w64, ◌≡◌}
use Rattle.std.specs.Int.{w128}
use Rattle.std.proofs.lemmas.Int.{ints, to_z-of_z}
use Rattle.mesh_query.proofs.made.make.Goals as goal

pub returns : goal.returns
returns c =
    let x = c.args.r.now.crossing in
    let over : c.from.result ≡ x.over = search rules in
    let under : c.from-under.result ≡ x.under = search rules in
    let height : c.from-2.result ≡ x.height = search rules in
    let fits : FitsSigned w64 x.height = search rules in
    let wide_over : FitsSigned w128 x.over = omega (arith, ints, c.requires) in
    let wide_under : FitsSigned w128 x.under = omega (arith, ints, c.requires) in
    let wide_height : FitsSigned w128 x.height = omega (arith, ints, fits) in
    record {
      at = simp to_z-of_z at (rw (over, under) at c.reduced.ensures.value);
      at_lowest = c.reduced.ensures.lowest;
      metres = simp to_z-of_z at (rw (height, under) at c.reduced-2.ensures.value);
      metres_lowest = c.reduced-2.ensures.lowest;
      at_size = simp to_z-of_z at (rw under at c.reduced.ensures.under_size);
      metres_size = simp to_z-of_z at (rw height at c.reduced-2.ensures.over_size);
      metres_under_size = simp to_z-of_z at (rw under at c.reduced-2.ensures.under_size);
    }
