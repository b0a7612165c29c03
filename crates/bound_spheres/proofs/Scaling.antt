-- Scaled numbers.
use Rattle.std.proofs.Common.{◌≡◌, ◌∙◌, ◌≤◌, ◌<◌, ◌^◌, ℕ, arith, refl, sym, subst, List, [], ◌∷◌, All}
use Rattle.std.proofs.lemmas.Int.{ints}
use Rattle.std.proofs.lemmas.List.Elements.{All-from_recursion}
use Rattle.std.specs.Int.{int_div_euclid}
use Rattle.std.specs.Prelude.{ℤ, pos, neg_ℤ, ◌+ℤ◌, ◌-ℤ◌, ◌*ℤ◌, ◌<ℤ◌, unsigned_abs}
use Rattle.terrain_base.specs.Division.{IsFloor, IsCeil, floor_of, ceil_of}
use Rattle.terrain_base.proofs.Quotients.{floor_is, floor_is_euclid, floor_once, ceil_is, ceil_once, neg_mul}
use Rattle.ecef_boxes.specs.Ellipsoid.{semi_major_axis}
use Rattle.ecef_boxes.specs.Bounds.{IsBoxWithin}
use Rattle.ecef_boxes.specs.declared.ecef_box.EcefBox.{EcefBox}
use Rattle.bound_spheres.specs.declared.scaled.Vector.{Vector}
use Rattle.bound_spheres.specs.Horizon.{IsVectorWithin, equatorial_down, equatorial_up, polar_down, polar_up, polar_numerator, polar_divisor}
use Rattle.bound_spheres.specs.Horizon.{scaled_corners, vector}

-- ---- in 64 bits

pub equatorial_down_is : (n : ℤ) → int_div_euclid (n *ℤ pos 1024) (pos semi_major_axis) ≡ equatorial_down n
unfolding equatorial_down
equatorial_down_is n = sym (floor_is_euclid (n *ℤ pos 1024) (pos semi_major_axis))

pub floor_from : (a q : ℤ) (n : ℕ) → 0 < n → q ≡ int_div_euclid a (pos n) → IsFloor a (pos n) q
floor_from a q n h e =
    rw (e, sym (floor_is_euclid a (pos n))) (floor_is a (pos n) (omega (arith, ints, h)))

-- the quotient, and the scaled quotient of what is left
pub unflattened_is : (n whole last : ℤ) → IsFloor (n *ℤ pos (10 ^ 9)) (pos 297257223563) whole
    → IsFloor (((n *ℤ pos (10 ^ 9)) -ℤ (whole *ℤ pos 297257223563)) *ℤ pos 1024) (pos 297257223563) last
    → ((n +ℤ whole) *ℤ pos 1024) +ℤ last ≡ floor_of (n *ℤ pos polar_numerator) (pos 297257223563)
unflattened_is n whole last f g =
    let positive : pos 0 <ℤ pos 297257223563 = omega (arith, ints) in
    floor_once (n *ℤ pos polar_numerator) (pos 297257223563) _ _ positive
    (record { low = omega (arith, ints, g.low); high = omega (arith, ints, g.high) })
    (floor_is (n *ℤ pos polar_numerator) (pos 297257223563) positive)

-- a quotient in two steps
pub polar_down_is : (n : ℤ)
    → int_div_euclid (floor_of (n *ℤ pos polar_numerator) (pos 297257223563)) (pos semi_major_axis) ≡ polar_down n
unfolding polar_down
polar_down_is n =
    let once = floor_of (n *ℤ pos polar_numerator) (pos 297257223563) in
    let first = floor_is (n *ℤ pos polar_numerator) (pos 297257223563) (omega (arith, ints)) in
    let second = floor_is once (pos semi_major_axis) (omega (arith, ints)) in
    let positive : pos 0 <ℤ pos polar_divisor = omega (arith, ints) in
    sym (floor_is_euclid once (pos semi_major_axis)) ∙ floor_once (n *ℤ pos polar_numerator) (pos polar_divisor) _ _ positive
    (record {
      low = omega (arith, ints, first.low, second.low);
      high = omega (arith, ints, first.high, second.high);
    })
    (floor_is (n *ℤ pos polar_numerator) (pos polar_divisor) positive)

-- ---- rounded up is rounded down on the other side of 0

up_from : (a b q : ℤ) → IsFloor (neg_ℤ a) b q → IsCeil a b (neg_ℤ q)
up_from a b q f = record {
  low = rw (neg_mul q b) (omega (arith, ints, f.high));
  high = rw (neg_mul q b) (omega (arith, ints, f.low));
}

turned : (n : ℤ) (k m : ℕ) → 0 < m → neg_ℤ (floor_of (neg_ℤ n *ℤ pos k) (pos m)) ≡ ceil_of (n *ℤ pos k) (pos m)
turned n k m h =
    let positive : pos 0 <ℤ pos m = omega (arith, ints, h) in
    let q = floor_of (neg_ℤ n *ℤ pos k) (pos m) in
    let down : IsFloor (neg_ℤ n *ℤ pos k) (pos m) q = floor_is (neg_ℤ n *ℤ pos k) (pos m) positive in
    ceil_once (n *ℤ pos k) (pos m) (neg_ℤ q) _ positive
    (up_from (n *ℤ pos k) (pos m) q (subst (λ a. IsFloor a (pos m) q) (neg_mul n (pos k)) down))
    (ceil_is (n *ℤ pos k) (pos m) positive)

pub equatorial_up_is : (n : ℤ) → neg_ℤ (equatorial_down (neg_ℤ n)) ≡ equatorial_up n
unfolding equatorial_down equatorial_up
equatorial_up_is n = turned n 1024 semi_major_axis (omega arith)

pub polar_up_is : (n : ℤ) → neg_ℤ (polar_down (neg_ℤ n)) ≡ polar_up n
unfolding polar_down polar_up
polar_up_is n = turned n polar_numerator polar_divisor (omega arith)

-- ---- sizes

pub equatorial_down_few : (n : ℤ) → unsigned_abs n ≤ 2 ^ 33 → unsigned_abs (equatorial_down n) ≤ 2 ^ 21
unfolding equatorial_down
equatorial_down_few n h =
    let f = floor_is (n *ℤ pos 1024) (pos semi_major_axis) (omega (arith, ints)) in
    omega (arith, ints, h, f.low, f.high)

pub equatorial_up_few : (n : ℤ) → unsigned_abs n ≤ 2 ^ 33 → unsigned_abs (equatorial_up n) ≤ 2 ^ 21
unfolding equatorial_up
equatorial_up_few n h =
    let f = ceil_is (n *ℤ pos 1024) (pos semi_major_axis) (omega (arith, ints)) in
    omega (arith, ints, h, f.low, f.high)

pub polar_down_few : (n : ℤ) → unsigned_abs n ≤ 2 ^ 33 → unsigned_abs (polar_down n) ≤ 2 ^ 21
unfolding polar_down
polar_down_few n h =
    let f = floor_is (n *ℤ pos polar_numerator) (pos polar_divisor) (omega (arith, ints)) in
    omega (arith, ints, h, f.low, f.high)

pub polar_up_few : (n : ℤ) → unsigned_abs n ≤ 2 ^ 33 → unsigned_abs (polar_up n) ≤ 2 ^ 21
unfolding polar_up
polar_up_few n h =
    let f = ceil_is (n *ℤ pos polar_numerator) (pos polar_divisor) (omega (arith, ints)) in
    omega (arith, ints, h, f.low, f.high)

pub unflattened_few : (n : ℤ) → unsigned_abs n ≤ 2 ^ 33 → unsigned_abs (floor_of (n *ℤ pos polar_numerator) (pos 297257223563)) ≤ 2 ^ 44
unflattened_few n h =
    let f = floor_is (n *ℤ pos polar_numerator) (pos 297257223563) (omega (arith, ints)) in
    omega (arith, ints, h, f.low, f.high)

all_within : (west east near far low high : ℤ) → unsigned_abs west ≤ 2 ^ 21 → unsigned_abs east ≤ 2 ^ 21
    → unsigned_abs near ≤ 2 ^ 21 → unsigned_abs far ≤ 2 ^ 21 → unsigned_abs low ≤ 2 ^ 21 → unsigned_abs high ≤ 2 ^ 21
    → All (IsVectorWithin 21) (vector west near low ∷ vector west near high ∷ vector west far low ∷ vector west far high
    ∷ vector east near low ∷ vector east near high ∷ vector east far low ∷ vector east far high ∷ [])
all_within west east near far low high w e n f l h =
    All-from_recursion (IsVectorWithin 21)
    (vector west near low ∷ vector west near high ∷ vector west far low ∷ vector west far high
    ∷ vector east near low ∷ vector east near high ∷ vector east far low ∷ vector east far high ∷ [])
    (record { x = w; y = n; z = l }, (record { x = w; y = n; z = h }, (record { x = w; y = f; z = l }, (record { x = w; y = f; z = h }, (record { x = e; y = n; z = l }, (record { x = e; y = n; z = h }, (record { x = e; y = f; z = l }, (record { x = e; y = f; z = h }, tt))))))))

pub corners_within : (b : EcefBox) → IsBoxWithin 33 b → All (IsVectorWithin 21) (scaled_corners b)
corners_within b h =
    all_within _ _ _ _ _ _ (equatorial_down_few b.x_lo h.x_lo) (equatorial_up_few b.x_hi h.x_hi) (equatorial_down_few b.y_lo h.y_lo)
    (equatorial_up_few b.y_hi h.y_hi) (polar_down_few b.z_lo h.z_lo) (polar_up_few b.z_hi h.z_hi)

-- for the code
pub corners_are : (b : EcefBox) (west east near far low high : ℤ) → west ≡ equatorial_down b.x_lo → east ≡ equatorial_up b.x_hi
    → near ≡ equatorial_down b.y_lo → far ≡ equatorial_up b.y_hi → low ≡ polar_down b.z_lo → high ≡ polar_up b.z_hi
    → ◌≡◌ {A = List Vector} (vector west near low ∷ vector west near high ∷ vector west far low ∷ vector west far high
    ∷ vector east near low ∷ vector east near high ∷ vector east far low ∷ vector east far high ∷ []) (scaled_corners b)
corners_are b west east near far low high e f g h i j = rw (e, f, g, h, i, j) refl
