use Rattle.std.proofs.Common.{pos, slice_index_or, rules, arith, FitsSigned, w16, ◌∙◌}
use Rattle.std.proofs.lemmas.Int.{ints, to_z-of_z}
use Rattle.tile_mesh.specs.declared.point.MeshPoint.{MeshPoint}
use Rattle.tile_bytes.proofs.Lines.{box_is, meridian_count, meridian_fits, meridian_is, next_box, parallel_count, parallel_fits, parallel_is, same_units}
use Rattle.tile_bytes.proofs.vertex_boxes.boxes.Goals as goal

abbrev none : MeshPoint
none = record { i = 0; j = 0; metres = pos 0 }

pub index-meridian-requires : goal.index-meridian-requires
index-meridian-requires c =
    let column = (c.requires.on_grid c.loop-point.point-index none c.loop-point-test.true).column in
    let count = meridian_count c.args.tile c.in_ok-meridians.meridians.items c.in_ok-meridians.ensures in
    omega (arith, column, count, c.in_ok-meridians.meridians.ok)

pub index-parallel-requires : goal.index-parallel-requires
index-parallel-requires c =
    let row = (c.requires.on_grid c.loop-point.point-index none c.loop-point-test.true).row in
    let count = parallel_count c.args.tile c.in_ok-parallels.parallels.items c.in_ok-parallels.ensures in
    omega (arith, row, count, c.in_ok-parallels.parallels.ok)

pub box_at-requires-clause-meridian : goal.box_at-requires-clause-meridian
box_at-requires-clause-meridian c =
    let column = (c.requires.on_grid c.loop-point.point-index none c.loop-point-test.true).column in
    let is = c.index-meridian.ensures ∙ meridian_is c.args.tile c.in_ok-meridians.meridians.items _ _ column c.in_ok-meridians.ensures in
    meridian_fits c.args.tile _ c.index-meridian.result.now column is

pub box_at-requires-clause-parallel : goal.box_at-requires-clause-parallel
box_at-requires-clause-parallel c =
    let row = (c.requires.on_grid c.loop-point.point-index none c.loop-point-test.true).row in
    let is = c.index-parallel.ensures ∙ parallel_is c.args.tile c.in_ok-parallels.parallels.items _ _ row c.in_ok-parallels.ensures in
    parallel_fits c.args.tile _ c.index-parallel.result.now row is

pub box_at-requires-clause-units : goal.box_at-requires-clause-units
box_at-requires-clause-units c =
    let place = c.requires.on_grid c.loop-point.point-index none c.loop-point-test.true in
    let meridian = c.index-meridian.ensures ∙ meridian_is c.args.tile c.in_ok-meridians.meridians.items _ _ place.column c.in_ok-meridians.ensures in
    let parallel = c.index-parallel.ensures ∙ parallel_is c.args.tile c.in_ok-parallels.parallels.items _ _ place.row c.in_ok-parallels.ensures in
    same_units c.args.tile _ _ c.index-meridian.result.now c.index-parallel.result.now meridian parallel

pub box_at-requires-clause-low : goal.box_at-requires-clause-low
box_at-requires-clause-low c =
    let fits : FitsSigned w16 (slice_index_or c.args.points.now c.loop-point.point-index none).metres = search rules in
    let height = c.requires.heights c.loop-point.point-index none c.loop-point-test.true in
    simp to_z-of_z (omega (arith, ints, height.above))

pub box_at-requires-clause-high : goal.box_at-requires-clause-high
box_at-requires-clause-high c =
    let fits : FitsSigned w16 (slice_index_or c.args.points.now c.loop-point.point-index none).metres = search rules in
    let height = c.requires.heights c.loop-point.point-index none c.loop-point-test.true in
    simp to_z-of_z (omega (arith, ints, height.below))

pub loop-point-preserved : goal.loop-point-preserved
loop-point-preserved c =
    let point = slice_index_or c.args.points.now c.loop-point.point-index none in
    let fits : FitsSigned w16 point.metres = search rules in
    let place = c.requires.on_grid c.loop-point.point-index none c.loop-point-test.true in
    let meridian = c.index-meridian.ensures ∙ meridian_is c.args.tile c.in_ok-meridians.meridians.items _ _ place.column c.in_ok-meridians.ensures in
    let parallel = c.index-parallel.ensures ∙ parallel_is c.args.tile c.in_ok-parallels.parallels.items _ _ place.row c.in_ok-parallels.ensures in
    let here = box_is c.args.tile point c.index-meridian.result.now c.index-parallel.result.now c.box_at.result meridian parallel (simp to_z-of_z at c.box_at.ensures.exact) in
    next_box c.args.tile c.args.points.now c.loop-point.point-index none c.loop-point.boxes.items c.push.new.self.items c.box_at.result
    c.loop-point-test.true c.loop-point.invariant here c.in_ok-push.ensures.items
