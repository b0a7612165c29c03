use Rattle.std.proofs.Common.{rules, arith, FitsSigned, w16, w32, w64, pos, ◌+ℤ◌}
use Rattle.std.proofs.lemmas.Int.{ints, to_z-of_z, to_z_pos}
use Rattle.tile_bytes.proofs.Headers.{header_by}
use Rattle.tile_bytes.proofs.header.header.Goals as goal

pub returns : goal.returns
returns c =
    let frame = c.args.frame.now in
    let sphere = c.args.sphere.now in
    let x : FitsSigned w64 sphere.x = search rules in
    let y : FitsSigned w64 sphere.y = search rules in
    let z : FitsSigned w64 sphere.z = search rules in
    let r : FitsSigned w64 sphere.radius = search rules in
    let base : FitsSigned w16 frame.base = search rules in
    let wide : FitsSigned w32 frame.base = omega (arith, ints, c.requires.base.above, c.requires.base.below) in
    let up = to_z_pos w32 frame.range (omega (arith, c.requires.range)) in
    let end : FitsSigned w32 (frame.base +ℤ pos frame.range) = omega (arith, ints, c.requires.base.above, c.requires.base.below, c.requires.range) in
    header_by frame sphere c.args.horizon.now c.patterns-centre.result c.bits32.result c.bits32-2.result c.bits64.result c.patterns.result
    (simp to_z-of_z at c.patterns-centre.ensures) (simp to_z-of_z at c.bits32.ensures.exact) (simp (to_z-of_z, up) at c.bits32-2.ensures.exact)
    (simp to_z-of_z at c.bits64.ensures.exact) c.patterns.ensures
