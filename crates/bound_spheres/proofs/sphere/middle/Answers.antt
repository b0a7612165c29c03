use Rattle.std.proofs.Common.{◌≡◌, ◌∙◌, ◌≤◌, ◌^◌, sym, arith, rules, FitsSigned}
use Rattle.std.proofs.lemmas.Int.{ints, to_z-of_z}
use Rattle.std.specs.Prelude.{pos, ◌+ℤ◌, unsigned_abs}
use mir.Syntax.{w64}
use Rattle.terrain_base.specs.Division.{floor_of}
use Rattle.terrain_base.proofs.Quotients.{floor_is_euclid}
use Rattle.bound_spheres.proofs.Spheres.{middle_small}
use Rattle.bound_spheres.proofs.sphere.middle.Goals as goal

pub returns : goal.returns
returns c =
    let lo = c.args.lo in
    let hi = c.args.hi in
    let lo_fits : FitsSigned w64 lo = search rules in
    let hi_fits : FitsSigned w64 hi = search rules in
    let sum : FitsSigned w64 (lo +ℤ hi) = omega (arith, ints, c.requires.lo, c.requires.hi) in
    let result : FitsSigned w64 c.div_euclid.result = search rules in
    let exact : c.div_euclid.result ≡ floor_of (lo +ℤ hi) (pos 2) =
    (simp to_z-of_z at c.div_euclid.ensures) ∙ sym (floor_is_euclid (lo +ℤ hi) (pos 2)) in
    let size : unsigned_abs c.div_euclid.result ≤ 2 ^ 33 =
    rw exact (middle_small lo hi c.requires.lo c.requires.hi) in
    record { exact = simp to_z-of_z exact; size = simp to_z-of_z size }
