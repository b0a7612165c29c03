use Rattle.std.proofs.Common.{◌≡◌, ◌∙◌, arith, rules, FitsSigned}
use Rattle.std.proofs.lemmas.Int.{ints, to_z-of_z}
use Rattle.std.specs.Prelude.{pos, ◌*ℤ◌}
use mir.Syntax.{w64}
use Rattle.bound_spheres.specs.Horizon.{equatorial_down}
use Rattle.bound_spheres.proofs.Scaling.{equatorial_down_few, equatorial_down_is}
use Rattle.bound_spheres.proofs.scaled.equatorial_low.Goals as goal

pub returns : goal.returns
returns c =
    let n = c.args.n in
    let small : FitsSigned w64 n = search rules in
    let product : FitsSigned w64 (n *ℤ pos 1024) = omega (arith, ints, c.requires) in
    let result : FitsSigned w64 c.div_euclid.result = search rules in
    let exact : c.div_euclid.result ≡ equatorial_down n = (simp to_z-of_z at c.div_euclid.ensures) ∙ equatorial_down_is n in
    record { exact = simp to_z-of_z exact; size = simp to_z-of_z (rw exact (equatorial_down_few n c.requires)) }
