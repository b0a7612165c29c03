-- The point lies on the tile.
use Rattle.std.proofs.Common.{arith, FitsSigned, w64, ◌≡◌}
use Rattle.std.specs.Int.{w128}
use Rattle.std.proofs.lemmas.Int.{ints, to_z-of_z}
use Rattle.mesh_query.specs.Found.{at_place}
use Rattle.mesh_query.specs.Way.{way}
use Rattle.mesh_query.proofs.Pieces.{on_tile}
use Rattle.sight_line.proofs.Sizes.{point_fits}
use Rattle.sight_line.proofs.blocked.holder_at.Goals as goal

pub along-v-requires-clause-low : goal.along-v-requires-clause-low
along-v-requires-clause-low c =
    let k = c.args.at in let f = c.requires.fraction in let s = c.requires.small in
    let wide_under : FitsSigned w128 k.under = omega (arith, ints, f.above_zero, s) in
    let wide_over : FitsSigned w128 k.over = omega (arith, ints, f.low, f.high, s) in
    let scale : FitsSigned w64 k.under = omega (arith, ints, f.above_zero, s) in
    let over : FitsSigned w64 k.over = omega (arith, ints, f.low, f.high, s) in
    simp to_z-of_z f.low

pub along-v-requires-clause-high : goal.along-v-requires-clause-high
along-v-requires-clause-high c =
    let k = c.args.at in let f = c.requires.fraction in let s = c.requires.small in
    let wide_under : FitsSigned w128 k.under = omega (arith, ints, f.above_zero, s) in
    let wide_over : FitsSigned w128 k.over = omega (arith, ints, f.low, f.high, s) in
    let scale : FitsSigned w64 k.under = omega (arith, ints, f.above_zero, s) in
    let over : FitsSigned w64 k.over = omega (arith, ints, f.low, f.high, s) in
    simp to_z-of_z f.high

pub along-v-requires-clause-scale : goal.along-v-requires-clause-scale
along-v-requires-clause-scale c =
    let k = c.args.at in let f = c.requires.fraction in let s = c.requires.small in
    let wide_under : FitsSigned w128 k.under = omega (arith, ints, f.above_zero, s) in
    let wide_over : FitsSigned w128 k.over = omega (arith, ints, f.low, f.high, s) in
    let scale : FitsSigned w64 k.under = omega (arith, ints, f.above_zero, s) in
    let over : FitsSigned w64 k.over = omega (arith, ints, f.low, f.high, s) in
    simp to_z-of_z s

pub holder-requires-clause-scale : goal.holder-requires-clause-scale
holder-requires-clause-scale c =
    let k = c.args.at in let f = c.requires.fraction in let s = c.requires.small in
    let wide_under : FitsSigned w128 k.under = omega (arith, ints, f.above_zero, s) in
    let wide_over : FitsSigned w128 k.over = omega (arith, ints, f.low, f.high, s) in
    let scale : FitsSigned w64 k.under = omega (arith, ints, f.above_zero, s) in
    let over : FitsSigned w64 k.over = omega (arith, ints, f.low, f.high, s) in
    simp to_z-of_z (record { least = f.above_zero; greatest = omega (arith, ints, s) })

pub holder-requires-clause-point : goal.holder-requires-clause-point
holder-requires-clause-point c =
    let k = c.args.at in let f = c.requires.fraction in let s = c.requires.small in
    let wide_under : FitsSigned w128 k.under = omega (arith, ints, f.above_zero, s) in
    let wide_over : FitsSigned w128 k.over = omega (arith, ints, f.low, f.high, s) in
    let scale : FitsSigned w64 k.under = omega (arith, ints, f.above_zero, s) in
    let over : FitsSigned w64 k.over = omega (arith, ints, f.low, f.high, s) in
    let line = c.args.line.now in
    let from_u : FitsSigned w64 line.from.u = omega (arith, ints, c.requires.line.from) in
    let from_v : FitsSigned w64 line.from.v = omega (arith, ints, c.requires.line.from) in
    let to_u : FitsSigned w64 line.to.u = omega (arith, ints, c.requires.line.to) in
    let to_v : FitsSigned w64 line.to.v = omega (arith, ints, c.requires.line.to) in
    let p = at_place line.from in let q = at_place line.to in
    let point = on_tile p q k f c.requires.line.from c.requires.line.to in
    let u_is : c.along-u.result ≡ (way p q k).u = simp to_z-of_z at c.along-u.ensures in
    let v_is : c.along-v.result ≡ (way p q k).v = simp to_z-of_z at c.along-v.ensures in
    let u : FitsSigned w64 c.along-u.result =
    point_fits c.along-u.result (way p q k).u k.under u_is point.west point.east s in
    let v : FitsSigned w64 c.along-v.result =
    point_fits c.along-v.result (way p q k).v k.under v_is point.south point.north s in
    simp to_z-of_z (rw (u_is, v_is) point)

pub returns : goal.returns
returns c =
    let k = c.args.at in let f = c.requires.fraction in let s = c.requires.small in
    let wide_under : FitsSigned w128 k.under = omega (arith, ints, f.above_zero, s) in
    let wide_over : FitsSigned w128 k.over = omega (arith, ints, f.low, f.high, s) in
    let scale : FitsSigned w64 k.under = omega (arith, ints, f.above_zero, s) in
    let over : FitsSigned w64 k.over = omega (arith, ints, f.low, f.high, s) in
    let line = c.args.line.now in
    let from_u : FitsSigned w64 line.from.u = omega (arith, ints, c.requires.line.from) in
    let from_v : FitsSigned w64 line.from.v = omega (arith, ints, c.requires.line.from) in
    let to_u : FitsSigned w64 line.to.u = omega (arith, ints, c.requires.line.to) in
    let to_v : FitsSigned w64 line.to.v = omega (arith, ints, c.requires.line.to) in
    let p = at_place line.from in let q = at_place line.to in
    let point = on_tile p q k f c.requires.line.from c.requires.line.to in
    let u_is : c.along-u.result ≡ (way p q k).u = simp to_z-of_z at c.along-u.ensures in
    let v_is : c.along-v.result ≡ (way p q k).v = simp to_z-of_z at c.along-v.ensures in
    let u : FitsSigned w64 c.along-u.result =
    point_fits c.along-u.result (way p q k).u k.under u_is point.west point.east s in
    let v : FitsSigned w64 c.along-v.result =
    point_fits c.along-v.result (way p q k).v k.under v_is point.south point.north s in
    rw (u_is, v_is) at (simp to_z-of_z at c.holder.ensures)
