-- A product of two numbers of 64 bits.
use Rattle.std.proofs.Common.{◌≤◌, arith, lit<, FitsSigned, w64}
use Rattle.std.specs.Prelude.{◌*ℤ◌, unsigned_abs}
use Rattle.std.specs.Int.{w128}
use Rattle.std.proofs.lemmas.Int.{ints, to_z-of_z, fits_signed_mul}
use Rattle.mesh_plane.proofs.Sizes.{size_product}
use Rattle.mesh_plane.proofs.gap.area_at.Goals as goal

pub returns-clause-value : goal.returns-clause-value
returns-clause-value c =
    let r = c.ranges.scale in
    let doubled_fits : FitsSigned w64 c.doubled.result = omega (arith, ints, c.doubled.ensures.size) in
    let scale_widened = simp to_z-of_z at c.from.ensures in
    let doubled_widened = simp to_z-of_z at c.from-2.ensures in
    let wide_scale_fits : FitsSigned w128 c.from.result = omega (arith, ints, scale_widened, c.requires.scale) in
    let wide_doubled_fits : FitsSigned w128 c.from-2.result =
    omega (arith, ints, doubled_widened, c.doubled.ensures.size) in
    let k : FitsSigned w128 (c.from.result *ℤ c.from-2.result) =
    fits_signed_mul w128 c.from.result c.from-2.result 2147483648 4611686018427387904
    (omega (arith, ints, scale_widened, c.requires.scale))
    (omega (arith, ints, doubled_widened, c.doubled.ensures.size)) (lit< tt) in
    simp to_z-of_z (cc (scale_widened, doubled_widened, c.doubled.ensures.value))

pub returns-clause-size : goal.returns-clause-size
returns-clause-size c =
    let r = c.ranges.scale in
    let doubled_fits : FitsSigned w64 c.doubled.result = omega (arith, ints, c.doubled.ensures.size) in
    let scale_widened = simp to_z-of_z at c.from.ensures in
    let doubled_widened = simp to_z-of_z at c.from-2.ensures in
    let wide_scale_fits : FitsSigned w128 c.from.result = omega (arith, ints, scale_widened, c.requires.scale) in
    let wide_doubled_fits : FitsSigned w128 c.from-2.result =
    omega (arith, ints, doubled_widened, c.doubled.ensures.size) in
    let scale_size : unsigned_abs c.from.result ≤ 2147483648 = omega (arith, ints, scale_widened, c.requires.scale) in
    let doubled_size : unsigned_abs c.from-2.result ≤ 4611686018427387904 =
    omega (arith, ints, doubled_widened, c.doubled.ensures.size) in
    let k : FitsSigned w128 (c.from.result *ℤ c.from-2.result) =
    fits_signed_mul w128 c.from.result c.from-2.result 2147483648 4611686018427387904
    scale_size doubled_size (lit< tt) in
    simp to_z-of_z (size_product c.from.result c.from-2.result 2147483648 4611686018427387904 scale_size doubled_size)
