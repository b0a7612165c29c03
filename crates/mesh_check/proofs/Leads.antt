-- Which of two segments lies further east at a height: by how much, without fractions.
use Rattle.std.proofs.Common.{◌≡◌, ℕ, ◌+◌, ◌*◌, refl, ap, sym, arith, ◌∙◌, List, [], ◌∷◌}
use Rattle.std.specs.Prelude.{ℤ, pos, ◌+ℤ◌, ◌-ℤ◌, ◌*ℤ◌, ◌≤ℤ◌, ◌<ℤ◌}
use Rattle.std.proofs.lemmas.Int.{ints, by_lt_z}
use Rattle.polynomial.proofs.Expressions.{Expr, var, num, add, sub, mul}
use Rattle.polynomial.proofs.NormalForm.{by_ring}
use Rattle.polynomial.proofs.Signs.{times_nonneg, times_pos, factor_nonneg, factor_pos, factor_nought, weaken}
use Rattle.mesh_check.specs.Slab.{Slab, Segment, under, over, Spans, IsSame, west, east}
use Rattle.mesh_check.proofs.Wedges.{beside}

-- at the height y/s: h is this far east of g, times both their rises and s
abbrev pub lead : Segment → Segment → ℤ → ℤ → ℤ
lead g h s y = beside h s (pos 0) y *ℤ under g -ℤ beside g s (pos 0) y *ℤ under h

-- ---- polynomials: the point is the variables 0 to 2, the segment i the four from 4 * i + 3 on
abbrev pub besides : ℕ → Expr → Expr → Expr → Expr
besides i s x y =
    sub
    (mul (sub (var (4 * i + 5)) (var (4 * i + 3))) (sub y (mul s (var (4 * i + 4)))))
    (mul (sub (var (4 * i + 6)) (var (4 * i + 4))) (sub x (mul s (var (4 * i + 3)))))

abbrev pub rise : ℕ → Expr
rise i = sub (var (4 * i + 6)) (var (4 * i + 4))

abbrev pub leads : ℕ → ℕ → Expr → Expr → Expr
leads i j s y = sub (mul (besides j s (num 0) y) (rise i)) (mul (besides i s (num 0) y) (rise j))

abbrev pub ends : List Segment → List ℤ
ends [] = []
ends (g ∷ gs) = g.low.u ∷ g.low.v ∷ g.high.u ∷ g.high.v ∷ ends gs

-- by any point of that height
pub lead_at : (g h : Segment) (s x y : ℤ) → beside h s x y *ℤ under g -ℤ beside g s x y *ℤ under h ≡ lead g h s y
lead_at g h s x y =
    by_ring
    (sub (mul (besides 1 (var 0) (var 1) (var 2)) (rise 0)) (mul (besides 0 (var 0) (var 1) (var 2)) (rise 1)))
    (leads 0 1 (var 0) (var 2)) (s ∷ x ∷ y ∷ ends (g ∷ h ∷ [])) refl

-- a combination of two heights
pub lead_mix : (g h : Segment) (k m s y t z : ℤ)
    → lead g h (k *ℤ s +ℤ m *ℤ t) (k *ℤ y +ℤ m *ℤ z) ≡ k *ℤ lead g h s y +ℤ m *ℤ lead g h t z
lead_mix g h k m s y t z =
    by_ring
    (leads 0 1 (add (mul (var 0) (var 1)) (mul (var 2) (var 11))) (add (mul (var 0) (var 12)) (mul (var 2) (var 13))))
    (add (mul (var 0) (leads 0 1 (var 1) (var 12))) (mul (var 2) (leads 0 1 (var 11) (var 13))))
    (k ∷ s ∷ m ∷ g.low.u ∷ g.low.v ∷ g.high.u ∷ g.high.v ∷ h.low.u ∷ h.low.v ∷ h.high.u ∷ h.high.v ∷ t ∷ y ∷ z ∷ [])
    refl

-- three segments
pub lead_on : (f g h : Segment) (s y : ℤ)
    → lead f h s y *ℤ under g ≡ lead f g s y *ℤ under h +ℤ lead g h s y *ℤ under f
lead_on f g h s y =
    by_ring
    (mul (leads 0 2 (var 0) (var 2)) (rise 1))
    (add (mul (leads 0 1 (var 0) (var 2)) (rise 2)) (mul (leads 1 2 (var 0) (var 2)) (rise 0)))
    (s ∷ pos 0 ∷ y ∷ ends (f ∷ g ∷ h ∷ [])) refl

-- on a level, by the fractions
pub over_is : (g : Segment) (v : ℤ) → beside g (pos 1) (pos 0) v ≡ over g v
over_is g v =
    by_ring (besides 0 (num 1) (num 0) (var 0))
    (add (mul (var 3) (sub (var 6) (var 0))) (mul (var 5) (sub (var 0) (var 4))))
    (v ∷ pos 0 ∷ pos 0 ∷ ends (g ∷ [])) refl

pub lead_over : (g h : Segment) (v : ℤ) → lead g h (pos 1) v ≡ over h v *ℤ under g -ℤ over g v *ℤ under h
lead_over g h v = ap (λ i. i *ℤ under g -ℤ beside g (pos 1) (pos 0) v *ℤ under h) (over_is h v) ∙ ap
    (λ i. over h v *ℤ under g -ℤ i *ℤ under h) (over_is g v)

-- ---- signs
swap : (a b : ℤ) → a *ℤ b ≡ b *ℤ a
swap a b = by_ring (mul (var 0) (var 1)) (mul (var 1) (var 0)) (a ∷ b ∷ []) refl

module _ (g h : Segment) (s x y : ℤ) (hg : pos 0 <ℤ under g) (hh : pos 0 <ℤ under h) where
  -- who is left of a segment, or on it, is so of each that is not west of it
  pub still_left : pos 0 ≤ℤ lead g h s y → pos 0 ≤ℤ beside g s x y → pos 0 ≤ℤ beside h s x y
  still_left l i =
      factor_nonneg (under g) (beside h s x y) hg
      (omega (
        arith,
        ints,
        l,
        lead_at g h s x y,
        swap (under g) (beside h s x y),
        times_nonneg (beside g s x y) (under h) i (weaken hh),
      ))

  pub still_strictly_left : pos 0 ≤ℤ lead g h s y → pos 0 <ℤ beside g s x y → pos 0 <ℤ beside h s x y
  still_strictly_left l i =
      factor_pos (under g) (beside h s x y) hg
      (omega (
        arith,
        ints,
        l,
        lead_at g h s x y,
        swap (under g) (beside h s x y),
        times_pos (beside g s x y) (under h) i hh,
      ))

  -- and the other way round
  pub still_right : pos 0 ≤ℤ lead g h s y → beside h s x y ≤ℤ pos 0 → beside g s x y ≤ℤ pos 0
  still_right l i = by_lt_z (pos 0) (beside g s x y) (λ k. absurd (omega (arith, ints, i, still_strictly_left l k)))
      (λ k. k)

  pub still_strictly_right : pos 0 ≤ℤ lead g h s y → beside h s x y <ℤ pos 0 → beside g s x y <ℤ pos 0
  still_strictly_right l i = by_lt_z (beside g s x y) (pos 0) (λ k. k)
      (λ k. absurd (omega (arith, ints, i, still_left l k)))

-- ---- one segment
module _ (slab : Slab) (gap : slab.low <ℤ slab.high) where
  pub rises : (g : Segment) → Spans slab g → pos 0 <ℤ under g
  rises g i = omega (arith, ints, gap, i.low, i.high)

  pub same_lead : (g h : Segment) → IsSame slab g h → (lead g h (pos 1) slab.low ≡ pos 0) ×
      (lead g h (pos 1) slab.high ≡ pos 0)
  same_lead g h e = (
    omega (arith, ints, lead_over g h slab.low, e.low),
    omega (
      arith,
      ints,
      lead_over g h slab.high,
      e.high,
    ),
  )

  -- each height is a mixture of both levels
  mixed : (g h : Segment) (s y : ℤ)
      → (slab.high -ℤ slab.low) *ℤ lead g h s y
      ≡ (s *ℤ slab.high -ℤ y) *ℤ lead g h (pos 1) slab.low +ℤ (y -ℤ s *ℤ slab.low) *ℤ lead g h (pos 1) slab.high
  mixed g h s y =
      by_ring (mul (sub (var 12) (var 11)) (leads 0 1 (var 0) (var 2)))
      (add (mul (sub (mul (var 0) (var 12)) (var 2)) (leads 0 1 (num 1) (var 11)))
      (mul (sub (var 2) (mul (var 0) (var 11))) (leads 0 1 (num 1) (var 12))))
      (s ∷ pos 0 ∷ y ∷ g.low.u ∷ g.low.v ∷ g.high.u ∷ g.high.v ∷ h.low.u ∷ h.low.v ∷ h.high.u ∷ h.high.v ∷ slab.low ∷
      slab.high ∷ []) refl

  noughts : (a b : ℤ) → a *ℤ pos 0 +ℤ b *ℤ pos 0 ≡ pos 0
  noughts a b = by_ring (add (mul (var 0) (num 0)) (mul (var 1) (num 0))) (num 0) (a ∷ b ∷ []) refl

  pub no_lead : (g h : Segment) → IsSame slab g h → (s y : ℤ) → lead g h s y ≡ pos 0
  no_lead g h e s y =
      factor_nought (slab.high -ℤ slab.low) (lead g h s y) (omega (arith, ints, gap))
      (mixed g h s y
      ∙ ap (λ i. (s *ℤ slab.high -ℤ y) *ℤ i +ℤ (y -ℤ s *ℤ slab.low) *ℤ lead g h (pos 1) slab.high) (same_lead g h e).0
      ∙ ap (λ i. (s *ℤ slab.high -ℤ y) *ℤ pos 0 +ℤ (y -ℤ s *ℤ slab.low) *ℤ i) (same_lead g h e).1
      ∙ noughts (s *ℤ slab.high -ℤ y) (y -ℤ s *ℤ slab.low))

  pub same_back : (g h : Segment) → IsSame slab g h → IsSame slab h g
  same_back g h e = record { low = sym e.low; high = sym e.high }

-- ---- the edges of the tile
pub beside_east : (s x y : ℤ) → beside east s x y ≡ pos 32767 *ℤ (pos 32767 *ℤ s -ℤ x)
beside_east s x y =
    by_ring
    (sub (mul (sub (num 32767) (num 32767)) (sub (var 2) (mul (var 0) (num 0))))
    (mul (sub (num 32767) (num 0)) (sub (var 1) (mul (var 0) (num 32767)))))
    (mul (num 32767) (sub (mul (num 32767) (var 0)) (var 1))) (s ∷ x ∷ y ∷ []) refl

pub beside_west : (s x y : ℤ) → beside west s x y ≡ pos 32767 *ℤ (pos 0 -ℤ x)
beside_west s x y =
    by_ring
    (sub (mul (sub (num 0) (num 0)) (sub (var 2) (mul (var 0) (num 0))))
    (mul (sub (num 32767) (num 0)) (sub (var 1) (mul (var 0) (num 0)))))
    (mul (num 32767) (sub (num 0) (var 1))) (s ∷ x ∷ y ∷ []) refl
