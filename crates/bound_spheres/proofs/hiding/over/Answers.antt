use Rattle.std.proofs.Common.{◌≡◌, arith, rules, FitsSigned, to_z, ◌≤◌, ◌^◌}
use Rattle.std.proofs.lemmas.Int.{ints, to_z-of_z, to_z_pos}
use Rattle.std.specs.Prelude.{pos, ◌*ℤ◌, ◌-ℤ◌, unsigned_abs}
use mir.Syntax.{w64}
use Rattle.bound_spheres.proofs.Horizons.{multiple_few, over_few}
use Rattle.bound_spheres.proofs.hiding.over.Goals as goal

pub overflow_mul-result : goal.overflow_mul-result
overflow_mul-result c =
    let m = c.args.m in
    let m_is : to_z w64 m ≡ pos m = to_z_pos w64 m (omega (arith, c.requires.m)) in
    let both : FitsSigned w64 c.args.both = search rules in
    let few : unsigned_abs (pos m *ℤ c.args.both) ≤ 2 ^ 49 = multiple_few m c.args.both c.requires.m c.requires.both in
    let fits : FitsSigned w64 (pos m *ℤ c.args.both) = omega (arith, ints, few) in
    rw m_is (simp to_z-of_z fits)

pub overflow_sub-result : goal.overflow_sub-result
overflow_sub-result c =
    let m = c.args.m in
    let m_is : to_z w64 m ≡ pos m = to_z_pos w64 m (omega (arith, c.requires.m)) in
    let both : FitsSigned w64 c.args.both = search rules in
    let corner : FitsSigned w64 c.args.corner = search rules in
    let few : unsigned_abs (pos m *ℤ c.args.both) ≤ 2 ^ 49 = multiple_few m c.args.both c.requires.m c.requires.both in
    let left : FitsSigned w64 (pos m *ℤ c.args.both) = omega (arith, ints, few) in
    let right : FitsSigned w64 (pos 256 *ℤ c.args.corner) = omega (arith, ints, c.requires.corner) in
    let size : unsigned_abs (pos m *ℤ c.args.both -ℤ pos 256 *ℤ c.args.corner) ≤ 2 ^ 50 =
    over_few m c.args.both c.args.corner c.requires.m c.requires.both c.requires.corner in
    let fits : FitsSigned w64 (pos m *ℤ c.args.both -ℤ pos 256 *ℤ c.args.corner) = omega (arith, ints, size) in
    rw m_is (simp to_z-of_z fits)

pub returns : goal.returns
returns c =
    let m = c.args.m in
    let m_is : to_z w64 m ≡ pos m = to_z_pos w64 m (omega (arith, c.requires.m)) in
    let both : FitsSigned w64 c.args.both = search rules in
    let corner : FitsSigned w64 c.args.corner = search rules in
    let few : unsigned_abs (pos m *ℤ c.args.both) ≤ 2 ^ 49 = multiple_few m c.args.both c.requires.m c.requires.both in
    let left : FitsSigned w64 (pos m *ℤ c.args.both) = omega (arith, ints, few) in
    let right : FitsSigned w64 (pos 256 *ℤ c.args.corner) = omega (arith, ints, c.requires.corner) in
    let size : unsigned_abs (pos m *ℤ c.args.both -ℤ pos 256 *ℤ c.args.corner) ≤ 2 ^ 50 =
    over_few m c.args.both c.args.corner c.requires.m c.requires.both c.requires.corner in
    let fits : FitsSigned w64 (pos m *ℤ c.args.both -ℤ pos 256 *ℤ c.args.corner) = omega (arith, ints, size) in
    record { exact = rw m_is (simp to_z-of_z); size = rw m_is (simp to_z-of_z size) }
