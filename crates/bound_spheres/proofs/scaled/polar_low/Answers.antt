use Rattle.std.proofs.Common.{◌≡◌, ◌∙◌, rules, FitsSigned}
use Rattle.std.proofs.lemmas.Int.{to_z-of_z}
use mir.Syntax.{w64}
use Rattle.bound_spheres.specs.Horizon.{polar_down}
use Rattle.bound_spheres.proofs.Scaling.{polar_down_few, polar_down_is}
use Rattle.bound_spheres.proofs.scaled.polar_low.Goals as goal

pub returns : goal.returns
returns c =
    let n = c.args.n in
    let small : FitsSigned w64 n = search rules in
    let once : FitsSigned w64 c.unflattened.result = search rules in
    let result : FitsSigned w64 c.div_euclid.result = search rules in
    let scaled = simp to_z-of_z at c.unflattened.ensures.exact in
    let exact : c.div_euclid.result ≡ polar_down n =
    (rw scaled at (simp to_z-of_z at c.div_euclid.ensures)) ∙ polar_down_is n in
    record { exact = simp to_z-of_z exact; size = simp to_z-of_z (rw exact (polar_down_few n c.requires)) }
