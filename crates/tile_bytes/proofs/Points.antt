-- The horizon point, as it is computed.
use Rattle.std.proofs.Common.{◌≡◌, ℕ, ◌*◌, ◌^◌, ◌<◌, ◌≤◌, ℤ, pos, negsuc, ◌*ℤ◌, unsigned_abs, arith, refl, ap, subst, [], ◌∷◌, Option, Some, IfSome, All, FitsSigned, w64, to_z, of_z}
use Rattle.std.proofs.lemmas.Int.{ints, to_z-of_z, to_z_pos}
use Rattle.std.proofs.lemmas.List.Elements.{All-from_recursion}
use Rattle.std.proofs.Math.Nat.{mul-le-mul}
use Rattle.bound_spheres.specs.declared.scaled.Vector.{Vector}
use Rattle.bound_spheres.specs.declared.sphere.Sphere.{Sphere}
use Rattle.bound_spheres.specs.Sphere.{IsCentreWithin}
use Rattle.bound_spheres.specs.Horizon.{IsVectorWithin, scaled_centre}
use Rattle.tile_rule.specs.Tile.{horizon_point}
use Rattle.tile_rule.proofs.Headers.{horizon_small, times_small}

-- four times the multiple, times a number of the centre, in 64 bits
abbrev pub in_bits : ℕ → ℤ → ℤ
in_bits m n = to_z w64 (of_z w64 (to_z w64 (of_z w64 (pos 4 *ℤ to_z w64 m)) *ℤ to_z w64 (of_z w64 n)))

pub bits_are : (m : ℕ) (n : ℤ) → m ≤ 4096 → unsigned_abs n ≤ 2 ^ 21 → in_bits m n ≡ pos (4 * m) *ℤ n
bits_are m n few small =
    let wide = to_z_pos w64 m (omega (arith, few)) in
    let four : pos 4 *ℤ to_z w64 m ≡ pos (4 * m) = rw wide (omega (arith, ints)) in
    let times : FitsSigned w64 (pos (4 * m)) = omega (arith, ints, few) in
    let number : FitsSigned w64 n = omega (arith, ints, small) in
    let size = times_small (4 * m) n (omega (arith, few)) small in
    let product : FitsSigned w64 (pos (4 * m) *ℤ n) = omega (arith, ints, size) in
    rw four (simp to_z-of_z refl)

few_of : (o : Option ℕ) (m : ℕ) → o ≡ Some m → IfSome o (λ n. n ≤ 4096) → m ≤ 4096
few_of o m is h = subst (λ p. IfSome p (λ n. n ≤ 4096)) is h

pub point_is : (o : Option ℕ) (m : ℕ) (sphere : Sphere) (c : Vector) → o ≡ Some m → IfSome o (λ n. n ≤ 4096) → c ≡ scaled_centre sphere
    → IsVectorWithin 21 c → in_bits m c.x ∷ in_bits m c.y ∷ in_bits m c.z ∷ [] ≡ horizon_point o sphere
point_is o m sphere c is few same size =
    let l = few_of o m is few in
    rw (is, bits_are m c.x l size.x, bits_are m c.y l size.y, bits_are m c.z l size.z)
    (ap (λ (v : Vector). (pos (4 * m) *ℤ v.x) ∷ (pos (4 * m) *ℤ v.y) ∷ (pos (4 * m) *ℤ v.z) ∷ []) same)

pub few_all : (o : Option ℕ) (sphere : Sphere) → IsCentreWithin 33 sphere → IfSome o (λ n. n ≤ 4096)
    → All (λ n. unsigned_abs n < 2 ^ 53) (horizon_point o sphere)
few_all o sphere centre few =
    All-from_recursion (λ n. unsigned_abs n < 2 ^ 53) (horizon_point o sphere) (horizon_small o sphere centre (λ m is. few_of o m is few))
