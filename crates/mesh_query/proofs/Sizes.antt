-- Sizes of products and of differences of products.
use Rattle.std.proofs.Common.{◌≡◌, ◌≤◌, ◌^◌, arith, refl, ap, ◌∙◌, [], ◌∷◌, FitsSigned, w64}
use Rattle.std.specs.Prelude.{ℤ, pos, ◌+ℤ◌, ◌-ℤ◌, ◌*ℤ◌, unsigned_abs}
use Rattle.std.proofs.lemmas.Int.{ints}
use Rattle.polynomial.proofs.Expressions.{var, num, sub, mul}
use Rattle.polynomial.proofs.NormalForm.{by_ring}
use Rattle.mesh_plane.specs.declared.corner.Corner.{Corner}
use Rattle.mesh_plane.specs.Plane.{Point, side_of}

-- a place on the line of a side, at the scale 1
pub left_is : (a b : Corner) (x y : ℤ)
    → (b.u -ℤ a.u) *ℤ (y -ℤ a.v) -ℤ (b.v -ℤ a.v) *ℤ (x -ℤ a.u) ≡ side_of a b (pos 1) x y
left_is a b x y =
    by_ring (sub (mul (sub (var 2) (var 0)) (sub (var 5) (var 1))) (mul (sub (var 3) (var 1)) (sub (var 4) (var 0))))
    (sub (mul (sub (var 2) (var 0)) (sub (var 5) (mul (num 1) (var 1))))
    (mul (sub (var 3) (var 1)) (sub (var 4) (mul (num 1) (var 0)))))
    (a.u ∷ a.v ∷ b.u ∷ b.v ∷ x ∷ y ∷ []) refl

pub fall_is : (a b : Corner) (p q : Point)
    → (q.u -ℤ p.u) *ℤ (b.v -ℤ a.v) -ℤ (q.v -ℤ p.v) *ℤ (b.u -ℤ a.u)
    ≡ side_of a b (pos 1) p.u p.v -ℤ side_of a b (pos 1) q.u q.v
fall_is a b p q =
    by_ring (sub (mul (sub (var 6) (var 4)) (sub (var 3) (var 1))) (mul (sub (var 7) (var 5)) (sub (var 2) (var 0))))
    (sub
    (sub (mul (sub (var 2) (var 0)) (sub (var 5) (mul (num 1) (var 1))))
    (mul (sub (var 3) (var 1)) (sub (var 4) (mul (num 1) (var 0)))))
    (sub (mul (sub (var 2) (var 0)) (sub (var 7) (mul (num 1) (var 1))))
    (mul (sub (var 3) (var 1)) (sub (var 6) (mul (num 1) (var 0))))))
    (a.u ∷ a.v ∷ b.u ∷ b.v ∷ p.u ∷ p.v ∷ q.u ∷ q.v ∷ []) refl

pub difference_size : (a b : ℤ) → unsigned_abs a ≤ 2 ^ 48 → unsigned_abs b ≤ 2 ^ 48 → unsigned_abs (a -ℤ b) ≤ 2 ^ 49
difference_size a b h k = omega (arith, ints)

pub difference_fits : (a b : ℤ) → unsigned_abs a ≤ 2 ^ 48 → unsigned_abs b ≤ 2 ^ 48 → FitsSigned w64 (a -ℤ b)
difference_fits a b h k = omega (arith, ints)

pub sum_fits : (a b : ℤ) → unsigned_abs a ≤ 2147352578 → unsigned_abs b ≤ 2147352578 → FitsSigned w64 (a +ℤ b)
sum_fits a b h k = omega (arith, ints)

-- ---- three weighed heights
pub turned : (w s h : ℤ) → w ≡ s → w *ℤ h ≡ h *ℤ s
turned w s h e = by_ring (mul (var 0) (var 1)) (mul (var 1) (var 0)) (w ∷ h ∷ []) refl ∙ ap (λ z. h *ℤ z) e

pub sum_of_three : (a b c x y z : ℤ) → a ≡ x → b ≡ y → c ≡ z → (a +ℤ b) +ℤ c ≡ (x +ℤ y) +ℤ z
sum_of_three a b c x y z e f g = omega (arith, ints, e, f, g)
