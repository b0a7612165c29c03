-- The three levels.
use Rattle.std.proofs.lemmas.Int.{to_z-of_z}
use Rattle.cell_mosaic.proofs.Keeping.{told_next}
use Rattle.tile_mesh.specs.Plane.{triangles_in}
use Rattle.post_bound.proofs.Among.{three_levels}
use Rattle.post_bound.proofs.squares.one_square.Goals as goal

pub returns-clause-value : goal.returns-clause-value
returns-clause-value g c told is =
    let r = c.ranges.turns in
    let first = c.in_ok-fine.ensures in let second = c.in_ok-both.ensures in let third = c.in_ok-all.ensures in
    let one = simp to_z-of_z at (first.value told is) in
    let next = told_next first.leaves told is in
    let two = simp to_z-of_z at (second.value told next) in
    let three = simp to_z-of_z at (third.value told (told_next second.leaves told next)) in
    three_levels told c.args.tile (triangles_in c.args.mesh.now) c.requires.mesh.triangles c.args.square c.args.turns one two three
