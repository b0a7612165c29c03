-- The product fits 64 bits, so it is the whole number.
use Rattle.std.proofs.Common.{lit<, FitsSigned, w64}
use Rattle.std.specs.Prelude.{◌*ℤ◌}
use Rattle.std.proofs.lemmas.Int.{to_z-of_z, fits_signed_mul}
use Rattle.mesh_plane.proofs.Sizes.{size_product}
use Rattle.post_bound.proofs.axes.times.Goals as goal

pub returns-clause-value : goal.returns-clause-value
returns-clause-value c =
    let a = c.ranges.seconds in let b = c.ranges.k in
    let f : FitsSigned w64 (c.args.seconds *ℤ c.args.k) =
    fits_signed_mul w64 c.args.seconds c.args.k 4194304 256 c.requires.seconds c.requires.k (lit< tt) in
    simp to_z-of_z

pub returns-clause-size : goal.returns-clause-size
returns-clause-size c =
    let a = c.ranges.seconds in let b = c.ranges.k in
    let f : FitsSigned w64 (c.args.seconds *ℤ c.args.k) =
    fits_signed_mul w64 c.args.seconds c.args.k 4194304 256 c.requires.seconds c.requires.k (lit< tt) in
    simp to_z-of_z (size_product c.args.seconds c.args.k 4194304 256 c.requires.seconds c.requires.k)
