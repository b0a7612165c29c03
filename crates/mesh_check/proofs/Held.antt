-- Which triangles reach through the slab of a point that they hold, and points moved off a level.
use Rattle.std.proofs.Common.{◌≡◌, refl, arith, [], ◌∷◌}
use Rattle.std.specs.Prelude.{ℤ, pos, ◌+ℤ◌, ◌-ℤ◌, ◌*ℤ◌, ◌≤ℤ◌, ◌<ℤ◌}
use Rattle.std.proofs.lemmas.Int.{ints}
use Rattle.polynomial.proofs.Expressions.{var, num, add, sub, mul}
use Rattle.polynomial.proofs.NormalForm.{by_ring}
use Rattle.polynomial.proofs.Signs.{times_nonneg, factor_nonneg, factor_pos, weaken}
use Rattle.mesh_plane.specs.declared.corner.Corner.{Corner}
use Rattle.mesh_plane.specs.declared.corner.Tri.{Tri}
use Rattle.mesh_plane.specs.Plane.{side_of, doubled_area, IsCounterClockwise, TriangleHolds, TriangleHoldsInside, IsTileTri}
use Rattle.mesh_check.proofs.Sides.{side, areaE, corners, height}

module _ (t : Tri) (n : IsCounterClockwise t) (s x y : ℤ) (h : TriangleHolds s x y t) where
  -- the point is as far above the level m as its three parts
  parts : (m : ℤ) → doubled_area t *ℤ (y -ℤ s *ℤ m)
      ≡ (side_of t.b t.c s x y *ℤ (t.a.v -ℤ m) +ℤ side_of t.c t.a s x y *ℤ (t.b.v -ℤ m)) +ℤ side_of t.a t.b s x y *ℤ
      (t.c.v -ℤ m)
  parts m =
      by_ring (mul (areaE 0 1 2) (sub (var 2) (mul (var 0) (var 9))))
      (add (add (mul (side 1 2) (sub (height 0) (var 9))) (mul (side 2 0) (sub (height 1) (var 9))))
      (mul (side 0 1) (sub (height 2) (var 9))))
      (s ∷ x ∷ y ∷ t.a.u ∷ t.a.v ∷ t.b.u ∷ t.b.v ∷ t.c.u ∷ t.c.v ∷ m ∷ []) refl

  pub above_least : (m : ℤ) → m ≤ℤ t.a.v → m ≤ℤ t.b.v → m ≤ℤ t.c.v → (s *ℤ m) ≤ℤ y
  above_least m a b c =
      let k : pos 0 ≤ℤ (y -ℤ s *ℤ m) = factor_nonneg (doubled_area t) (y -ℤ s *ℤ m) n
      (omega (
        arith,
        ints,
        parts m,
        times_nonneg (side_of t.b t.c s x y) (t.a.v -ℤ m) h.bc (omega (arith, ints, a)),
        times_nonneg (side_of t.c t.a s x y) (t.b.v -ℤ m) h.ca (omega (arith, ints, b)),
        times_nonneg (side_of t.a t.b s x y) (t.c.v -ℤ m) h.ab (omega (arith, ints, c)),
      )) in
      omega (arith, ints, k)

  minus : (a b c : ℤ) → a *ℤ (b -ℤ c) ≡ pos 0 -ℤ a *ℤ (c -ℤ b)
  minus a b c = by_ring (mul (var 0) (sub (var 1) (var 2))) (sub (num 0) (mul (var 0) (sub (var 2) (var 1))))
      (a ∷ b ∷ c ∷ []) refl

  pub below_greatest : (m : ℤ) → t.a.v ≤ℤ m → t.b.v ≤ℤ m → t.c.v ≤ℤ m → y ≤ℤ (s *ℤ m)
  below_greatest m a b c =
      let k : pos 0 ≤ℤ (s *ℤ m -ℤ y) = factor_nonneg (doubled_area t) (s *ℤ m -ℤ y) n
      (omega (
        arith,
        ints,
        parts m,
        minus (doubled_area t) y (s *ℤ m),
        minus (side_of t.b t.c s x y) t.a.v m,
        minus (side_of t.c t.a s x y) t.b.v m,
        minus (side_of t.a t.b s x y) t.c.v m,
        times_nonneg (side_of t.b t.c s x y) (m -ℤ t.a.v) h.bc (omega (arith, ints, a)),
        times_nonneg (side_of t.c t.a s x y) (m -ℤ t.b.v) h.ca (omega (arith, ints, b)),
        times_nonneg (side_of t.a t.b s x y) (m -ℤ t.c.v) h.ab (omega (arith, ints, c)),
      )) in
      omega (arith, ints, k)

-- a scale above 0 keeps the order
pub less_out : (s a b : ℤ) → pos 0 <ℤ s → (s *ℤ a) <ℤ (s *ℤ b) → a <ℤ b
less_out s a b h l =
    let k : pos 0 <ℤ (b -ℤ a) = factor_pos s (b -ℤ a) h (omega (
      arith,
      ints,
      l,
      by_ring (mul (var 0) (sub (var 1) (var 2))) (sub (mul (var 0) (var 1)) (mul (var 0) (var 2)))
          (s ∷ b ∷ a ∷ []) refl,
    )) in
    omega (arith, ints, k)

pub most_out : (s a b : ℤ) → pos 0 <ℤ s → (s *ℤ a) ≤ℤ (s *ℤ b) → a ≤ℤ b
most_out s a b h l =
    let k : pos 0 ≤ℤ (b -ℤ a) = factor_nonneg s (b -ℤ a) h (omega (
      arith,
      ints,
      l,
      by_ring (mul (var 0) (sub (var 1) (var 2))) (sub (mul (var 0) (var 1)) (mul (var 0) (var 2)))
          (s ∷ b ∷ a ∷ []) refl,
    )) in
    omega (arith, ints, k)

pub most_in : (s a b : ℤ) → pos 0 ≤ℤ s → a ≤ℤ b → (s *ℤ a) ≤ℤ (s *ℤ b)
most_in s a b h l =
    omega (
      arith,
      ints,
      times_nonneg s (b -ℤ a) h (omega (arith, ints, l)),
      by_ring (mul (var 0) (sub (var 1) (var 2))) (sub (mul (var 0) (var 1)) (mul (var 0) (var 2)))
          (s ∷ b ∷ a ∷ []) refl,
    )

-- ---- off a level: the point one (65536 * s)th higher
abbrev pub off : ℤ
off = pos 65536

moved : (a b : Corner) (s x y : ℤ) → side_of a b (off *ℤ s) (off *ℤ x) (off *ℤ y +ℤ pos 1) ≡ off *ℤ side_of a b s x y +ℤ
    (b.u -ℤ a.u)
moved a b s x y =
    by_ring
    (sub (mul (sub (var 5) (var 3)) (sub (add (mul (num 65536) (var 2)) (num 1)) (mul (mul (num 65536) (var 0))
    (var 4))))
    (mul (sub (var 6) (var 4)) (sub (mul (num 65536) (var 1)) (mul (mul (num 65536) (var 0)) (var 3)))))
    (add (mul (num 65536) (side 0 1)) (sub (var 5) (var 3))) (s ∷ x ∷ y ∷ corners (a ∷ b ∷ [])) refl

pub still_strictly : (t : Tri) (s x y : ℤ) → IsTileTri t → TriangleHoldsInside s x y t → TriangleHoldsInside (off *ℤ s) (off *ℤ x)
    (off *ℤ y +ℤ pos 1) t
still_strictly t s x y i h = record {
  ab = omega (arith, ints, moved t.a t.b s x y, h.ab, i.a.west, i.a.east, i.b.west, i.b.east);
  bc = omega (arith, ints, moved t.b t.c s x y, h.bc, i.c.west, i.c.east, i.b.west, i.b.east);
  ca = omega (arith, ints, moved t.c t.a s x y, h.ca, i.a.west, i.a.east, i.c.west, i.c.east);
}

pub off_level : (s y l : ℤ) → ((off *ℤ s) *ℤ l) ≤ℤ (off *ℤ y +ℤ pos 1) → ((off *ℤ s) *ℤ l) <ℤ (off *ℤ y +ℤ pos 1)
off_level s y l h =
    omega (
      arith,
      ints,
      h,
      by_ring (mul (mul (num 65536) (var 0)) (var 1)) (mul (num 65536) (mul (var 0) (var 1)))
          (s ∷ l ∷ []) refl,
    )

pub strictly_holds : (t : Tri) (s x y : ℤ) → TriangleHoldsInside s x y t → TriangleHolds s x y t
strictly_holds t s x y h = record { ab = weaken h.ab; bc = weaken h.bc; ca = weaken h.ca }
