use Rattle.std.proofs.Common.{◌≡◌, ◌∙◌, sym, subst, List, length, arith}
use Rattle.std.specs.List.{IsDistinct}
use Rattle.tile_mesh.specs.declared.point.GridPoint.{GridPoint}
use Rattle.tile_mesh.specs.Numbers.{AreOnGrid, ArePlaces, point_eq}
use Rattle.tile_mesh.proofs.Counts.{few}
use Rattle.tile_mesh.proofs.Places.{points_there, number_next, points_next, grid_push, distinct_push, full_push, places_push}
use Rattle.tile_mesh.proofs.builder.Builder.number.Goals as goal

pub returns-in-Some-clause-points : goal.returns-in-Some-clause-points
returns-in-Some-clause-points c =
    points_there c.args.point c.args.self.now.points.items c.in-Some.number (sym c.number_of.ensures ∙ c.in-Some.is)

pub overflow_cast-number : goal.overflow_cast-number
overflow_cast-number c =
    let most = few c.args.self.now.points.items c.args.self.now.distinct c.args.self.now.on_grid in omega (arith, most)

pub invariant_of-self : goal.invariant_of-self
invariant_of-self c =
    let same = sym c.in_err-push.ensures.items in
    record {
      on_grid = subst (λ (qs : List GridPoint). AreOnGrid qs) same c.args.self.now.on_grid;
      distinct = subst (λ (qs : List GridPoint). IsDistinct point_eq qs) same c.args.self.now.distinct;
      full = c.args.self.now.full;
      places = subst (λ (qs : List GridPoint). ArePlaces c.args.self.now.numbers.items qs) same c.args.self.now.places;
    }

pub invariant_of-self-2-clause-on_grid : goal.invariant_of-self-2-clause-on_grid
invariant_of-self-2-clause-on_grid c =
    grid_push c.args.point c.args.self.now.points.items c.push.new.self.items c.requires c.in_ok-push.ensures.items
    c.args.self.now.on_grid

pub invariant_of-self-2-clause-distinct : goal.invariant_of-self-2-clause-distinct
invariant_of-self-2-clause-distinct c =
    distinct_push c.args.point c.args.self.now.points.items c.push.new.self.items
    (sym c.number_of.ensures ∙ c.in_default.is) c.in_ok-push.ensures.items c.args.self.now.distinct

pub invariant_of-self-2-clause-full : goal.invariant_of-self-2-clause-full
invariant_of-self-2-clause-full c =
    full_push c.args.self.now.numbers.items c.spot.result c.len-number.result c.args.self.now.full

pub invariant_of-self-2-clause-places : goal.invariant_of-self-2-clause-places
invariant_of-self-2-clause-places c =
    let count : c.len-number.result ≡ length c.args.self.now.points.items = omega arith in
    places_push c.args.point c.args.self.now.points.items c.push.new.self.items c.args.self.now.numbers.items
    c.spot.result c.len-number.result c.requires c.args.self.now.full (sym c.number_of.ensures ∙ c.in_default.is)
    c.spot.ensures.place count c.in_ok-push.ensures.items c.args.self.now.places

pub returns-clause-number : goal.returns-clause-number
returns-clause-number c =
    let count : c.len-number.result ≡ length c.args.self.now.points.items = omega arith in
    c.from-2.ensures ∙ count
    ∙ number_next c.args.point c.args.self.now.points.items (sym c.number_of.ensures ∙ c.in_default.is)

pub returns-clause-points : goal.returns-clause-points
returns-clause-points c =
    c.in_ok-push.ensures.items
    ∙ points_next c.args.point c.args.self.now.points.items (sym c.number_of.ensures ∙ c.in_default.is)
