-- A coordinate is at most 32767, also at a scale.
use Rattle.std.proofs.Common.{arith, lit<, FitsSigned, w64, refl, [], ◌∷◌}
use Rattle.std.specs.Prelude.{◌*ℤ◌, ◌-ℤ◌, pos}
use Rattle.std.proofs.lemmas.Int.{ints, to_z-of_z, fits_signed_mul}
use Rattle.polynomial.proofs.Expressions.{var, num, sub, mul}
use Rattle.polynomial.proofs.NormalForm.{by_ring}
use Rattle.polynomial.proofs.Signs.{times_nonneg}
use Rattle.mesh_plane.proofs.corner.scaled.Goals as goal

pub returns-clause-high : goal.returns-clause-high
returns-clause-high c =
    let s = c.args.scale in let n = c.args.n in
    let a = c.ranges.scale in let b = c.ranges.n in
    let f : FitsSigned w64 (s *ℤ n) =
    fits_signed_mul w64 s n 2147483648 32767 (omega (arith, ints, c.requires.scale))
    (omega (arith, ints, c.requires.low, c.requires.high)) (lit< tt) in
    simp to_z-of_z
    (omega (
      arith,
      ints,
      times_nonneg s (pos 32767 -ℤ n) (omega (arith, ints, c.requires.scale))
          (omega (arith, ints, c.requires.high)),
      by_ring (mul (var 0) (sub (num 32767) (var 1))) (sub (mul (num 32767) (var 0)) (mul (var 0) (var 1)))
          (s ∷ n ∷ []) refl,
    ))
