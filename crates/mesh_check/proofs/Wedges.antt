-- In a slab a member is what lies between its left and its right segment.
use Rattle.std.proofs.Common.{◌≡◌, refl, ap, sym, subst, arith, ◌∙◌, [], ◌∷◌, inl, inr}
use Rattle.std.specs.Prelude.{ℤ, pos, ◌+ℤ◌, ◌-ℤ◌, ◌*ℤ◌, ◌≤ℤ◌, ◌<ℤ◌}
use Rattle.std.proofs.lemmas.Int.{ints}
use Rattle.polynomial.proofs.Expressions.{var, num, add, sub, mul}
use Rattle.polynomial.proofs.NormalForm.{by_ring}
use Rattle.polynomial.proofs.Signs.{times_nonneg, times_pos, factor_nonneg, factor_pos, weaken}
use Rattle.mesh_plane.specs.declared.corner.Corner.{Corner}
use Rattle.mesh_plane.specs.declared.corner.Tri.{Tri}
use Rattle.mesh_plane.specs.Plane.{side_of, IsCounterClockwise, TriangleHolds, TriangleHoldsInside}
use Rattle.mesh_check.specs.Slab.{Slab, Segment, segment, under, Spans, IsDown, IsUp}
use Rattle.mesh_check.proofs.Sides.{area, flipped, three_sides, above}

-- above 0 where the point lies to the left of the segment
abbrev pub beside : Segment → ℤ → ℤ → ℤ → ℤ
beside g s x y = side_of g.low g.high s x y

pub record Wedge (slab : Slab) (t : Tri) (l r : Segment) : Type 0 where
  pub left : Spans slab l
  pub right : Spans slab r
  pub inside : (s x y : ℤ) → TriangleHolds s x y t → (beside l s x y ≤ℤ pos 0) × (pos 0 ≤ℤ beside r s x y)
  pub strictly_inside : (s x y : ℤ) → TriangleHoldsInside s x y t
      → (beside l s x y <ℤ pos 0) × (pos 0 <ℤ beside r s x y)
  pub holds : (s x y : ℤ) → pos 0 ≤ℤ s → (s *ℤ slab.low) ≤ℤ y → y ≤ℤ (s *ℤ slab.high)
      → beside l s x y ≤ℤ pos 0 → pos 0 ≤ℤ beside r s x y → TriangleHolds s x y t
  pub holds_strictly : (s x y : ℤ) → pos 0 ≤ℤ s → (s *ℤ slab.low) <ℤ y → y <ℤ (s *ℤ slab.high)
      → beside l s x y <ℤ pos 0 → pos 0 <ℤ beside r s x y → TriangleHoldsInside s x y t
  pub wide : (s x y : ℤ) → pos 0 ≤ℤ s → (s *ℤ slab.low) ≤ℤ y → y ≤ℤ (s *ℤ slab.high)
      → (beside l s x y *ℤ under r) ≤ℤ (beside r s x y *ℤ under l)
  pub strictly_wide : (s x y : ℤ) → pos 0 ≤ℤ s → (s *ℤ slab.low) <ℤ y → y <ℤ (s *ℤ slab.high)
      → (beside l s x y *ℤ under r) <ℤ (beside r s x y *ℤ under l)

-- ---- numbers
less : (a b c : ℤ) → a *ℤ (b -ℤ c) ≡ a *ℤ b -ℤ a *ℤ c
less a b c = by_ring (mul (var 0) (sub (var 1) (var 2))) (sub (mul (var 0) (var 1)) (mul (var 0) (var 2)))
    (a ∷ b ∷ c ∷ []) refl

third_sum : (a b c t m n h w : ℤ) → (a +ℤ b) +ℤ c ≡ t → b *ℤ m +ℤ c *ℤ n ≡ t *ℤ h -ℤ w
    → h *ℤ a ≡ (b *ℤ (m -ℤ h) +ℤ c *ℤ (n -ℤ h)) +ℤ w
third_sum a b c t m n h w e f =
    omega (
      arith,
      ints,
      f,
      ap (λ i. i *ℤ h) e,
      less b m h,
      less c n h,
      by_ring (mul (add (add (var 0) (var 1)) (var 2)) (var 3)) (add (add (mul (var 3) (var 0)) (mul (var 1) (var 3)))
          (mul (var 2) (var 3))) (a ∷ b ∷ c ∷ h ∷ []) refl,
    )

third : (a b c t m n h w : ℤ) → (a +ℤ b) +ℤ c ≡ t → b *ℤ m +ℤ c *ℤ n ≡ t *ℤ h -ℤ w → pos 0 ≤ℤ w → pos 0 <ℤ h
    → h ≤ℤ m → h ≤ℤ n → pos 0 ≤ℤ b → pos 0 ≤ℤ c → pos 0 ≤ℤ a
third a b c t m n h w e f hw hh hm hn hb hc =
    factor_nonneg h a hh (omega (
      arith,
      ints,
      hw,
      third_sum a b c t m n h w e f,
      times_nonneg b (m -ℤ h) hb (omega (arith, ints, hm)),
      times_nonneg c (n -ℤ h) hc (omega (arith, ints, hn)),
    ))

strict_third : (a b c t m n h w : ℤ) → (a +ℤ b) +ℤ c ≡ t → b *ℤ m +ℤ c *ℤ n ≡ t *ℤ h -ℤ w → pos 0 <ℤ w → pos 0 <ℤ h
    → h ≤ℤ m → h ≤ℤ n → pos 0 ≤ℤ b → pos 0 ≤ℤ c → pos 0 <ℤ a
strict_third a b c t m n h w e f hw hh hm hn hb hc =
    factor_pos h a hh (omega (
      arith,
      ints,
      hw,
      third_sum a b c t m n h w e f,
      times_nonneg b (m -ℤ h) hb (omega (arith, ints, hm)),
      times_nonneg c (n -ℤ h) hc (omega (arith, ints, hn)),
    ))

-- ---- the apex lies below the slab: left is p r, right is p q
module _ (slab : Slab) (p q r : Corner) (gap : slab.low <ℤ slab.high) (ccw : pos 0 <ℤ area p q r) where
  abbrev A : ℤ
  A = area p q r

  -- on the far side, by the upper level
  far_below : (s x y : ℤ) → side_of r p s x y *ℤ (q.v -ℤ p.v) +ℤ side_of p q s x y *ℤ (r.v -ℤ p.v)
      ≡ (s *ℤ A) *ℤ (slab.high -ℤ p.v) -ℤ A *ℤ (s *ℤ slab.high -ℤ y)
  far_below s x y =
      above s x y p q r
      ∙ by_ring (mul (var 0) (sub (var 2) (mul (var 1) (var 3))))
      (sub (mul (mul (var 1) (var 0)) (sub (var 4) (var 3))) (mul (var 0) (sub (mul (var 1) (var 4)) (var 2))))
      (A ∷ s ∷ y ∷ p.v ∷ slab.high ∷ []) refl

  wide_below : (s x y : ℤ) → side_of p q s x y *ℤ (r.v -ℤ p.v) -ℤ side_of p r s x y *ℤ (q.v -ℤ p.v)
      ≡ A *ℤ (y -ℤ s *ℤ slab.low) +ℤ A *ℤ (s *ℤ (slab.low -ℤ p.v))
  wide_below s x y =
      ap (λ i. side_of p q s x y *ℤ (r.v -ℤ p.v) -ℤ i *ℤ (q.v -ℤ p.v)) (flipped s x y r p)
      ∙ by_ring (sub (mul (var 0) (var 1)) (mul (sub (num 0) (var 2)) (var 3))) (add (mul (var 2) (var 3))
      (mul (var 0) (var 1)))
      (side_of p q s x y ∷ (r.v -ℤ p.v) ∷ side_of r p s x y ∷ (q.v -ℤ p.v) ∷ []) refl
      ∙ above s x y p q r
      ∙ by_ring (mul (var 0) (sub (var 2) (mul (var 1) (var 3))))
      (add (mul (var 0) (sub (var 2) (mul (var 1) (var 4)))) (mul (var 0) (mul (var 1) (sub (var 4) (var 3)))))
      (A ∷ s ∷ y ∷ p.v ∷ slab.low ∷ []) refl

  pub below : p.v ≤ℤ slab.low → slab.high ≤ℤ q.v → slab.high ≤ℤ r.v
      → Wedge slab (record { a = p; b = q; c = r }) (segment p r) (segment p q)
  below lp lq lr = record {
    left = record { low = lp; high = lr };
    right = record { low = lp; high = lq };
    inside = λ s x y i. (omega (arith, ints, i.ca, flipped s x y r p), i.ab);
    strictly_inside = λ s x y i. (omega (arith, ints, i.ca, flipped s x y r p), i.ab);
    holds = λ s x y hs ly hy a b.
        let ca : pos 0 ≤ℤ side_of r p s x y = omega (arith, ints, a, flipped s x y r p) in
        record {
          ab = b;
          bc = third (side_of q r s x y) (side_of r p s x y) (side_of p q s x y) (s *ℤ A) (q.v -ℤ p.v) (r.v -ℤ p.v)
              (slab.high -ℤ p.v) (A *ℤ (s *ℤ slab.high -ℤ y))
              (three_sides s x y p q r) (far_below s x y) (times_nonneg A (s *ℤ slab.high -ℤ y) (weaken ccw)
              (omega (arith, ints, hy)))
              (omega (arith, ints, lp, gap)) (omega (arith, ints, lq)) (omega (arith, ints, lr)) ca b;
          ca = ca;
        };
    holds_strictly = λ s x y hs ly hy a b.
        let ca : pos 0 <ℤ side_of r p s x y = omega (arith, ints, a, flipped s x y r p) in
        record {
          ab = b;
          bc = strict_third (side_of q r s x y) (side_of r p s x y) (side_of p q s x y) (s *ℤ A) (q.v -ℤ p.v)
              (r.v -ℤ p.v) (slab.high -ℤ p.v) (A *ℤ (s *ℤ slab.high -ℤ y))
              (three_sides s x y p q r) (far_below s x y) (times_pos A (s *ℤ slab.high -ℤ y) ccw (omega (
                arith,
                ints,
                hy,
              )))
              (omega (arith, ints, lp, gap)) (omega (arith, ints, lq)) (omega (arith, ints, lr)) (weaken ca) (weaken b);
          ca = ca;
        };
    wide = λ s x y hs ly hy. omega (
      arith,
      ints,
      wide_below s x y,
      times_nonneg A (y -ℤ s *ℤ slab.low) (weaken ccw) (omega (arith, ints, ly)),
      times_nonneg A (s *ℤ (slab.low -ℤ p.v)) (weaken ccw) (times_nonneg s (slab.low -ℤ p.v) hs (omega (
        arith,
        ints,
        lp,
      ))),
    );
    strictly_wide = λ s x y hs ly hy. omega (
      arith,
      ints,
      wide_below s x y,
      times_pos A (y -ℤ s *ℤ slab.low) ccw (omega (arith, ints, ly)),
      times_nonneg A (s *ℤ (slab.low -ℤ p.v)) (weaken ccw) (times_nonneg s (slab.low -ℤ p.v) hs (omega (
        arith,
        ints,
        lp,
      ))),
    );
  }

  -- ---- the apex lies above the slab: left is q p, right is r p
  far_above : (s x y : ℤ) → side_of r p s x y *ℤ (p.v -ℤ q.v) +ℤ side_of p q s x y *ℤ (p.v -ℤ r.v)
      ≡ (s *ℤ A) *ℤ (p.v -ℤ slab.low) -ℤ A *ℤ (y -ℤ s *ℤ slab.low)
  far_above s x y =
      by_ring (add (mul (var 0) (sub (var 2) (var 3))) (mul (var 1) (sub (var 2) (var 4))))
      (sub (num 0) (add (mul (var 0) (sub (var 3) (var 2))) (mul (var 1) (sub (var 4) (var 2)))))
      (side_of r p s x y ∷ side_of p q s x y ∷ p.v ∷ q.v ∷ r.v ∷ []) refl
      ∙ ap (λ i. pos 0 -ℤ i) (above s x y p q r)
      ∙ by_ring (sub (num 0) (mul (var 0) (sub (var 2) (mul (var 1) (var 3)))))
      (sub (mul (mul (var 1) (var 0)) (sub (var 3) (var 4))) (mul (var 0) (sub (var 2) (mul (var 1) (var 4)))))
      (A ∷ s ∷ y ∷ p.v ∷ slab.low ∷ []) refl

  wide_above : (s x y : ℤ) → side_of r p s x y *ℤ (p.v -ℤ q.v) -ℤ side_of q p s x y *ℤ (p.v -ℤ r.v)
      ≡ A *ℤ (s *ℤ slab.high -ℤ y) +ℤ A *ℤ (s *ℤ (p.v -ℤ slab.high))
  wide_above s x y =
      ap (λ i. side_of r p s x y *ℤ (p.v -ℤ q.v) -ℤ i *ℤ (p.v -ℤ r.v)) (flipped s x y p q)
      ∙ by_ring (sub (mul (var 0) (sub (var 2) (var 3))) (mul (sub (num 0) (var 1)) (sub (var 2) (var 4))))
      (sub (num 0) (add (mul (var 0) (sub (var 3) (var 2))) (mul (var 1) (sub (var 4) (var 2)))))
      (side_of r p s x y ∷ side_of p q s x y ∷ p.v ∷ q.v ∷ r.v ∷ []) refl
      ∙ ap (λ i. pos 0 -ℤ i) (above s x y p q r)
      ∙ by_ring (sub (num 0) (mul (var 0) (sub (var 2) (mul (var 1) (var 3)))))
      (add (mul (var 0) (sub (mul (var 1) (var 4)) (var 2))) (mul (var 0) (mul (var 1) (sub (var 3) (var 4)))))
      (A ∷ s ∷ y ∷ p.v ∷ slab.high ∷ []) refl

  pub over_it : slab.high ≤ℤ p.v → q.v ≤ℤ slab.low → r.v ≤ℤ slab.low
      → Wedge slab (record { a = p; b = q; c = r }) (segment q p) (segment r p)
  over_it lp lq lr = record {
    left = record { low = lq; high = lp };
    right = record { low = lr; high = lp };
    inside = λ s x y i. (omega (arith, ints, i.ab, flipped s x y p q), i.ca);
    strictly_inside = λ s x y i. (omega (arith, ints, i.ab, flipped s x y p q), i.ca);
    holds = λ s x y hs ly hy a b.
        let ab : pos 0 ≤ℤ side_of p q s x y = omega (arith, ints, a, flipped s x y p q) in
        record {
          ab = ab;
          bc = third (side_of q r s x y) (side_of r p s x y) (side_of p q s x y) (s *ℤ A) (p.v -ℤ q.v) (p.v -ℤ r.v)
              (p.v -ℤ slab.low) (A *ℤ (y -ℤ s *ℤ slab.low))
              (three_sides s x y p q r) (far_above s x y) (times_nonneg A (y -ℤ s *ℤ slab.low) (weaken ccw)
              (omega (arith, ints, ly)))
              (omega (arith, ints, lp, gap)) (omega (arith, ints, lq)) (omega (arith, ints, lr)) b ab;
          ca = b;
        };
    holds_strictly = λ s x y hs ly hy a b.
        let ab : pos 0 <ℤ side_of p q s x y = omega (arith, ints, a, flipped s x y p q) in
        record {
          ab = ab;
          bc = strict_third (side_of q r s x y) (side_of r p s x y) (side_of p q s x y) (s *ℤ A) (p.v -ℤ q.v)
              (p.v -ℤ r.v) (p.v -ℤ slab.low) (A *ℤ (y -ℤ s *ℤ slab.low))
              (three_sides s x y p q r) (far_above s x y) (times_pos A (y -ℤ s *ℤ slab.low) ccw (omega (
                arith,
                ints,
                ly,
              )))
              (omega (arith, ints, lp, gap)) (omega (arith, ints, lq)) (omega (arith, ints, lr)) (weaken b) (weaken ab);
          ca = b;
        };
    wide = λ s x y hs ly hy. omega (
      arith,
      ints,
      wide_above s x y,
      times_nonneg A (s *ℤ slab.high -ℤ y) (weaken ccw) (omega (arith, ints, hy)),
      times_nonneg A (s *ℤ (p.v -ℤ slab.high)) (weaken ccw) (times_nonneg s (p.v -ℤ slab.high) hs (omega (
        arith,
        ints,
        lp,
      ))),
    );
    strictly_wide = λ s x y hs ly hy. omega (
      arith,
      ints,
      wide_above s x y,
      times_pos A (s *ℤ slab.high -ℤ y) ccw (omega (arith, ints, hy)),
      times_nonneg A (s *ℤ (p.v -ℤ slab.high)) (weaken ccw) (times_nonneg s (p.v -ℤ slab.high) hs (omega (
        arith,
        ints,
        lp,
      ))),
    );
  }

-- ---- the same triangle from its next corner on
turned : (slab : Slab) (a b c : Corner) (l r : Segment) → Wedge slab (record { a = b; b = c; c = a }) l r
    → Wedge slab (record { a = a; b = b; c = c }) l r
turned slab a b c l r w = record {
  left = w.left;
  right = w.right;
  inside = λ s x y i. w.inside s x y (record { ab = i.bc; bc = i.ca; ca = i.ab });
  strictly_inside = λ s x y i. w.strictly_inside s x y (record { ab = i.bc; bc = i.ca; ca = i.ab });
  holds = λ s x y hs ly hy i j.
      let h : TriangleHolds s x y (record { a = b; b = c; c = a }) = w.holds s x y hs ly hy i j in
      record { ab = h.ca; bc = h.ab; ca = h.bc };
  holds_strictly = λ s x y hs ly hy i j.
      let h : TriangleHoldsInside s x y (record { a = b; b = c; c = a }) = w.holds_strictly s x y hs ly hy i j in
      record { ab = h.ca; bc = h.ab; ca = h.bc };
  wide = w.wide;
  strictly_wide = w.strictly_wide;
}

area_on : (a b c : Corner) → area b c a ≡ area a b c
area_on a b c =
    by_ring (sub (mul (sub (var 4) (var 2)) (sub (var 1) (var 3))) (mul (sub (var 5) (var 3)) (sub (var 0) (var 2))))
    (sub (mul (sub (var 2) (var 0)) (sub (var 5) (var 1))) (mul (sub (var 3) (var 1)) (sub (var 4) (var 0))))
    (a.u ∷ a.v ∷ b.u ∷ b.v ∷ c.u ∷ c.v ∷ []) refl

put : (slab : Slab) (t : Tri) (l r l' r' : Segment) → l ≡ l' → r ≡ r' → Wedge slab t l' r' → Wedge slab t l r
put slab t l r l' r' e f w =
    subst (λ (g : Segment). Wedge slab t g r) (sym e) (subst (λ (h : Segment). Wedge slab t l' h) (sym f) w)

module _ (slab : Slab) (gap : slab.low <ℤ slab.high) where
  spans_by : (g h : Segment) → g ≡ h → Spans slab g → Spans slab h
  spans_by g h e i = subst (λ (k : Segment). Spans slab k) e i

  -- down from a to b, and up to c or from c
  down_up : (a b c : Corner) → pos 0 <ℤ area a b c → Spans slab (segment b a) → Spans slab (segment b c)
      → Wedge slab (record { a = a; b = b; c = c }) (segment b a) (segment b c)
  down_up a b c n i j =
      turned slab a b c (segment b a) (segment b c)
      (below slab b c a gap (omega (arith, ints, n, area_on a b c)) i.low j.high i.high)

  down_down : (a b c : Corner) → pos 0 <ℤ area a b c → Spans slab (segment b a) → Spans slab (segment c a)
      → Wedge slab (record { a = a; b = b; c = c }) (segment b a) (segment c a)
  down_down a b c n i j = over_it slab a b c gap n i.high i.low j.low

  clash : (a b : Corner) → Spans slab (segment b a) → Spans slab (segment a b) → ⊥
  clash a b i j = omega (arith, ints, gap, i.low, i.high, j.low, j.high)

  pub wedge : (t : Tri) (l r : Segment) → IsCounterClockwise t → IsDown t l → IsUp t r → Spans slab l → Spans slab r
      → Wedge slab t l r
  wedge t l r n (inl e) (inl f) i j =
      absurd (clash t.a t.b (spans_by l (segment t.b t.a) e i) (spans_by r (segment t.a t.b) f j))
  wedge t l r n (inl e) (inr (inl f)) i j =
      put slab t l r (segment t.b t.a) (segment t.b t.c) e f
      (down_up t.a t.b t.c n (spans_by l (segment t.b t.a) e i) (spans_by r (segment t.b t.c) f j))
  wedge t l r n (inl e) (inr (inr f)) i j =
      put slab t l r (segment t.b t.a) (segment t.c t.a) e f
      (down_down t.a t.b t.c n (spans_by l (segment t.b t.a) e i) (spans_by r (segment t.c t.a) f j))
  wedge t l r n (inr (inl e)) (inl f) i j =
      put slab t l r (segment t.c t.b) (segment t.a t.b) e f
      (turned slab t.a t.b t.c (segment t.c t.b) (segment t.a t.b)
      (down_down t.b t.c t.a (omega (arith, ints, n, area_on t.a t.b t.c)) (spans_by l (segment t.c t.b) e i)
      (spans_by r (segment t.a t.b) f j)))
  wedge t l r n (inr (inl e)) (inr (inl f)) i j =
      absurd (clash t.b t.c (spans_by l (segment t.c t.b) e i) (spans_by r (segment t.b t.c) f j))
  wedge t l r n (inr (inl e)) (inr (inr f)) i j =
      put slab t l r (segment t.c t.b) (segment t.c t.a) e f
      (turned slab t.a t.b t.c (segment t.c t.b) (segment t.c t.a)
      (down_up t.b t.c t.a (omega (arith, ints, n, area_on t.a t.b t.c)) (spans_by l (segment t.c t.b) e i)
      (spans_by r (segment t.c t.a) f j)))
  wedge t l r n (inr (inr e)) (inl f) i j =
      put slab t l r (segment t.a t.c) (segment t.a t.b) e f
      (below slab t.a t.b t.c gap n (spans_by l (segment t.a t.c) e i).low (spans_by r (segment t.a t.b) f j).high
      (spans_by l (segment t.a t.c) e i).high)
  wedge t l r n (inr (inr e)) (inr (inl f)) i j =
      put slab t l r (segment t.a t.c) (segment t.b t.c) e f
      (turned slab t.a t.b t.c (segment t.a t.c) (segment t.b t.c)
      (turned slab t.b t.c t.a (segment t.a t.c) (segment t.b t.c)
      (down_down t.c t.a t.b (omega (arith, ints, n, area_on t.a t.b t.c, area_on t.b t.c t.a))
      (spans_by l (segment t.a t.c) e i) (spans_by r (segment t.b t.c) f j))))
  wedge t l r n (inr (inr e)) (inr (inr f)) i j =
      absurd (clash t.c t.a (spans_by l (segment t.a t.c) e i) (spans_by r (segment t.c t.a) f j))
