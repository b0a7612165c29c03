use Rattle.std.proofs.Common.{◌≡◌, ◌∙◌, ap, arith, rules, FitsSigned}
use Rattle.std.proofs.lemmas.Int.{ints, to_z-of_z}
use Rattle.std.specs.Prelude.{pos, neg_ℤ, ◌-ℤ◌}
use mir.Syntax.{w64}
use Rattle.bound_spheres.specs.Horizon.{equatorial_down, equatorial_up}
use Rattle.bound_spheres.proofs.Scaling.{equatorial_up_few, equatorial_up_is}
use Rattle.bound_spheres.proofs.scaled.equatorial_high.Goals as goal

pub returns : goal.returns
returns c =
    let n = c.args.n in
    let low = c.equatorial_low.result in
    let small : FitsSigned w64 n = search rules in
    let turned_fits : FitsSigned w64 (pos 0 -ℤ n) = omega (arith, ints, c.requires) in
    let turned : pos 0 -ℤ n ≡ neg_ℤ n = omega (arith, ints) in
    let low_fits : FitsSigned w64 low = search rules in
    let back_fits : FitsSigned w64 (pos 0 -ℤ low) = omega (arith, ints, c.equatorial_low.ensures.size) in
    let back : pos 0 -ℤ low ≡ neg_ℤ low = omega (arith, ints) in
    let low_is : low ≡ equatorial_down (neg_ℤ n) = rw turned at (simp to_z-of_z at c.equatorial_low.ensures.exact) in
    let exact : pos 0 -ℤ low ≡ equatorial_up n = back ∙ ap neg_ℤ low_is ∙ equatorial_up_is n in
    record { exact = simp to_z-of_z exact; size = simp to_z-of_z (rw exact (equatorial_up_few n c.requires)) }
