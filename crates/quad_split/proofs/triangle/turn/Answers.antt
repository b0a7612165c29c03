use Rattle.std.proofs.Common.{◌≡◌, arith, FitsSigned, w64}
use Rattle.std.specs.Prelude.{pos}
use Rattle.std.specs.Int.{w128}
use Rattle.std.proofs.lemmas.Int.{ints, to_z-of_z}
use Rattle.mesh_plane.specs.Plane.{IsTilePoint, side_of}
use Rattle.quad_split.proofs.Areas.{side_small}
use Rattle.quad_split.proofs.triangle.turn.Goals as goal

pub returns-clause-size : goal.returns-clause-size
returns-clause-size c =
    let u : FitsSigned w64 c.line.result = omega (arith, ints, c.line.ensures.value, c.line.ensures.within) in
    let v : FitsSigned w64 c.line-2.result = omega (arith, ints, c.line-2.ensures.value, c.line-2.ensures.within) in
    let point : IsTilePoint (pos 1) c.line.result c.line-2.result = record {
      west = omega (arith, ints, c.line.ensures.value);
      east = omega (arith, ints, c.line.ensures.value, c.line.ensures.within);
      south = omega (arith, ints, c.line-2.ensures.value);
      north = omega (arith, ints, c.line-2.ensures.value, c.line-2.ensures.within);
    } in
    let value : c.side.result ≡ side_of c.args.a.now c.args.b.now (pos 1) c.line.result c.line-2.result =
    simp to_z-of_z at c.side.ensures.value in
    let small = side_small c.args.a.now c.args.b.now c.line.result c.line-2.result c.requires.a c.requires.b point in
    let wide : FitsSigned w128 c.side.result = omega (arith, ints, c.side.ensures.size) in
    let fits : FitsSigned w64 c.side.result = omega (arith, ints, c.side.ensures.size) in
    simp to_z-of_z (rw value small)
