-- The fields of a header have their widths.
use Rattle.std.proofs.Common.{◌≡◌, ℕ, ◌*◌, ◌^◌, ◌<◌, ◌≤◌, arith, refl, subst, List, [], ◌∷◌, length, All}
use Rattle.std.specs.Prelude.{ℤ, pos, negsuc, ◌+ℤ◌, ◌*ℤ◌, unsigned_abs, Option, Some, None}
use Rattle.std.specs.List.{AllByRecursion}
use Rattle.std.proofs.lemmas.Int.{ints}
use Rattle.std.proofs.Math.Nat.{mul-le-mul}
use Rattle.std.proofs.lemmas.List.Elements.{All-nil, All-cons}
use Rattle.terrain_base.specs.Height.{IsHeight}
use Rattle.terrain_base.specs.declared.tile.TileId.{TileId}
use Rattle.ecef_boxes.specs.declared.ecef_box.EcefBox.{EcefBox}
use Rattle.height_lattice.specs.declared.height_frame.HeightFrame.{HeightFrame}
use Rattle.bound_spheres.specs.declared.sphere.Sphere.{Sphere}
use Rattle.bound_spheres.specs.Sphere.{IsCentreWithin, IsSmall}
use Rattle.bound_spheres.proofs.FarPoints.{equatorial_small, polar_small}
use Rattle.mesh_codec.specs.Text.{IsHeader, IsPoint}
use Rattle.tile_mesh.specs.Mesh.{Mesh}
use Rattle.float_bits.specs.Binary64.{bits64_of}
use Rattle.bound_spheres.specs.Horizon.{IsHorizon, IsLeastHidden, equatorial_down, horizon_of, polar_down}
use Rattle.bound_spheres.proofs.Rising.{horizon_is}
use Rattle.bound_spheres.proofs.Scaling.{equatorial_down_few, polar_down_few}
use Rattle.tile_rule.specs.Tile.{frame_in, sphere_in, horizon_in, horizon_point, patterns, centre_of, header_of, header_in}
use Rattle.float_bits.proofs.Patterns.{bits64_is, bits32_is, width64, width32}

-- ---- the horizon point
-- the least that hides all is at most 4096
pub least_hidden : (sphere : Sphere) (boxes : List EcefBox) (m : ℕ) → horizon_of sphere boxes ≡ Some m → IsLeastHidden sphere boxes m
least_hidden sphere boxes m e = subst (IsHorizon sphere boxes) e (horizon_is sphere boxes)

pub times_small : (n : ℕ) (c : ℤ) → n ≤ 16384 → unsigned_abs c ≤ 2 ^ 21 → unsigned_abs (pos n *ℤ c) < 2 ^ 53
times_small n (pos k) h l = omega (arith, ints, mul-le-mul h l)
times_small n (negsuc k) h l = omega (arith, ints, mul-le-mul h l)

pub horizon_small : (horizon : Option ℕ) (sphere : Sphere) → IsCentreWithin 33 sphere → ((m : ℕ) → horizon ≡ Some m → m ≤ 4096)
    → AllByRecursion (λ n. unsigned_abs n < 2 ^ 53) (horizon_point horizon sphere)
horizon_small None sphere c h =
    let x = equatorial_small sphere.x c.x in
    let y = equatorial_small sphere.y c.y in
    let z = polar_small sphere.z c.z in
    (omega (arith, x), (omega (arith, y), (omega (arith, z), tt)))
horizon_small (Some m) sphere c h =
    let few : 4 * m ≤ 16384 = (let l = h m refl in omega (arith, l)) in
    let x = times_small (4 * m) (equatorial_down sphere.x) few (equatorial_down_few sphere.x c.x) in
    let y = times_small (4 * m) (equatorial_down sphere.y) few (equatorial_down_few sphere.y c.y) in
    let z = times_small (4 * m) (polar_down sphere.z) few (polar_down_few sphere.z c.z) in
    (x, (y, (z, tt)))

three : (horizon : Option ℕ) (sphere : Sphere) → length (horizon_point horizon sphere) ≡ 3
three None sphere = refl
three (Some m) sphere = refl

-- ---- patterns
patterns_small : (shift : ℕ) (ns : List ℤ) → shift ≤ 63 → AllByRecursion (λ n. unsigned_abs n < 2 ^ 53) ns → All (λ c. c < 2 ^ 64) (patterns shift ns)
patterns_small shift [] h all = All-nil (λ c. c < 2 ^ 64)
patterns_small shift (n ∷ ns) h all =
    All-cons (λ c. c < 2 ^ 64) (bits64_of n shift) (patterns shift ns) (width64 n shift (bits64_of n shift) (bits64_is n shift all.0 h)) (patterns_small shift ns h all.1)

same_count : (shift : ℕ) (ns : List ℤ) → length (patterns shift ns) ≡ length ns
same_count shift [] = refl
same_count shift (n ∷ ns) = omega (arith, same_count shift ns)

point_is : (shift : ℕ) (ns : List ℤ) → shift ≤ 63 → length ns ≡ 3 → AllByRecursion (λ n. unsigned_abs n < 2 ^ 53) ns → IsPoint (patterns shift ns)
point_is shift ns h e all = (omega (arith, same_count shift ns, e), patterns_small shift ns h all)

pub centre_small : (sphere : Sphere) → IsCentreWithin 33 sphere → AllByRecursion (λ n. unsigned_abs n < 2 ^ 53) (centre_of sphere)
centre_small sphere c = (omega (arith, c.x), (omega (arith, c.y), (omega (arith, c.z), tt)))

header_is : (frame : HeightFrame) (sphere : Sphere) (horizon : Option ℕ) → IsHeight frame.base → frame.range ≤ 32767 → IsSmall sphere
    → ((m : ℕ) → horizon ≡ Some m → m ≤ 4096) → IsHeader (header_of frame sphere (horizon_point horizon sphere))
header_is frame sphere horizon b r s h =
    let centre = point_is 8 (centre_of sphere) (omega arith) refl (centre_small sphere s.centre) in
    let low : unsigned_abs frame.base < 2 ^ 24 = omega (arith, ints, b.above, b.below) in
    let high : unsigned_abs (frame.base +ℤ pos frame.range) < 2 ^ 24 = omega (arith, ints, b.above, b.below, r) in
    let far : unsigned_abs sphere.radius < 2 ^ 53 = omega (arith, s.radius) in
    record {
      centre = centre;
      least = width32 frame.base _ (bits32_is frame.base low);
      greatest = width32 (frame.base +ℤ pos frame.range) _ (bits32_is (frame.base +ℤ pos frame.range) high);
      sphere_centre = centre;
      radius = width64 sphere.radius 8 _ (bits64_is sphere.radius 8 far (omega arith));
      horizon = point_is 28 (horizon_point horizon sphere) (omega arith) (three horizon sphere) (horizon_small horizon sphere s.centre h);
    }

pub header_in_is : (tile : TileId) (m : Mesh) → IsHeight (frame_in m).base → (frame_in m).range ≤ 32767 → IsSmall (sphere_in tile m) → IsHeader (header_in tile m)
unfolding header_in horizon_in
header_in_is tile m b r s =
    header_is (frame_in m) (sphere_in tile m) (horizon_in tile m) b r s (λ k e. (least_hidden (sphere_in tile m) _ k e).to)
