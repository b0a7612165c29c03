-- The square of the degrees.
use Rattle.std.proofs.Common.{arith, FitsSigned, w64}
use Rattle.std.specs.Prelude.{pos, ◌-ℤ◌}
use Rattle.std.proofs.lemmas.Int.{ints, to_z-of_z}
use Rattle.tile_mesh.specs.Plane.{triangles_in}
use Rattle.post_bound.proofs.Among.{its_degree}
use Rattle.post_bound.proofs.squares.one_degree.Goals as goal

pub returns-clause-value : goal.returns-clause-value
returns-clause-value g c told is =
    let square = c.in-Some.square in let v = c.in-Some.ensures.value in
    let round_fits : FitsSigned w64 c.from-turns.result = omega (arith, ints, c.from-turns.ensures) in
    let turns_fit : FitsSigned w64 (c.from-turns.result -ℤ pos 1) = omega (arith, ints, c.from-turns.ensures) in
    let turned = simp to_z-of_z at (c.in_ok-after.ensures.value told is) in
    its_degree told c.args.tile (triangles_in c.args.mesh.now) c.requires.mesh.triangles square (c.from-turns.result -ℤ pos 1) c.args.lat c.args.degree
    (omega (arith, v.1)) (omega (arith, ints, c.from-turns.ensures, v.0)) turned
