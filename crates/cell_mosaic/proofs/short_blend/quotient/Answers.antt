use Rattle.std.proofs.Common.{◌≡◌, ◌∙◌, refl, sym, arith, FitsSigned}
use Rattle.std.specs.Prelude.{◌*ℤ◌, ◌*◌, ◌+ℤ◌, pos}
use Rattle.std.proofs.lemmas.Int.{ints, to_z-of_z, to_z_pos}
use mir.Syntax.{w64}
use Rattle.terrain_base.proofs.Quotients.{floor_is, floor_is_euclid}
use Rattle.cell_mosaic.specs.Blend.{rounded}
use Rattle.cell_mosaic.proofs.Sums.{rounded_height}
use Rattle.cell_mosaic.proofs.short_blend.quotient.Goals as goal

pub returns : goal.returns
returns c =
    let sum = c.args.sum in
    let unit = c.args.unit in
    let within = c.requires.within in
    let short = c.requires.unit in
    let sum_fits : FitsSigned w64 sum = omega (arith, ints, within.above, within.below, short) in
    let doubled_fits : FitsSigned w64 (sum *ℤ pos 2) = omega (arith, ints, within.above, within.below, short) in
    let upper_fits : FitsSigned w64 ((sum *ℤ pos 2) +ℤ pos unit) =
    omega (arith, ints, within.above, within.below, short) in
    let unit_is = to_z_pos w64 unit (omega (arith, short)) in
    let twice_is = to_z_pos w64 (2 * unit) (omega (arith, short)) in
    let exact : c.div_euclid.result ≡ rounded sum unit =
    (simp (to_z-of_z, unit_is, twice_is) at c.div_euclid.ensures)
    ∙ sym (floor_is_euclid ((sum *ℤ pos 2) +ℤ pos unit) (pos (2 * unit))) in
    let height = rounded_height sum unit (rounded sum unit) short.0
    (floor_is ((sum *ℤ pos 2) +ℤ pos unit) (pos (2 * unit)) (omega (arith, ints, short))) within in
    let result_fits : FitsSigned w64 (rounded sum unit) = omega (arith, ints, height.above, height.below) in
    rw exact (record { value = simp to_z-of_z refl; height = simp to_z-of_z height })
