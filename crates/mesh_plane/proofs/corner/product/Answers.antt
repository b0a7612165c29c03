-- The product fits 64 bits, so it is the whole number.
use Rattle.std.proofs.Common.{lit<, FitsSigned, w64}
use Rattle.std.specs.Prelude.{◌*ℤ◌}
use Rattle.std.proofs.lemmas.Int.{to_z-of_z, fits_signed_mul}
use Rattle.mesh_plane.proofs.Sizes.{size_product}
use Rattle.mesh_plane.proofs.corner.product.Goals as goal

pub returns-clause-value : goal.returns-clause-value
returns-clause-value c =
    let a = c.ranges.a in let b = c.ranges.b in
    let f : FitsSigned w64 (c.args.a *ℤ c.args.b) =
    fits_signed_mul w64 c.args.a c.args.b 32768 70368744177664 c.requires.a c.requires.b (lit< tt) in
    simp to_z-of_z

pub returns-clause-size : goal.returns-clause-size
returns-clause-size c =
    let a = c.ranges.a in let b = c.ranges.b in
    let f : FitsSigned w64 (c.args.a *ℤ c.args.b) =
    fits_signed_mul w64 c.args.a c.args.b 32768 70368744177664 c.requires.a c.requires.b (lit< tt) in
    simp to_z-of_z (size_product c.args.a c.args.b 32768 70368744177664 c.requires.a c.requires.b)
