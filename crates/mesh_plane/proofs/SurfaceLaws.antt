-- The law of the surface.
use Rattle.std.proofs.Common.{◌≡◌, refl, ap, sym, arith, ◌∙◌, subst, List, [], ◌∷◌}
use Rattle.std.specs.Prelude.{◌↔◌, ℤ, pos, ◌+ℤ◌, ◌-ℤ◌, ◌*ℤ◌, ◌≤ℤ◌, ◌<ℤ◌, unsigned_abs, Contains}
use Rattle.std.proofs.lemmas.Int.{ints}
use Rattle.common_laws.proofs.Sizes.{near_of_size, size_of_near}
use Rattle.polynomial.proofs.Expressions.{Expr, var, num, add, sub, mul}
use Rattle.polynomial.proofs.NormalForm.{by_ring}
use Rattle.polynomial.proofs.Signs.{times_nonneg, times_pos, factor_nonneg, weaken}
use Rattle.mesh_plane.specs.declared.corner.Corner.{Corner}
use Rattle.mesh_plane.specs.declared.corner.Tri.{Tri}
use Rattle.mesh_plane.specs.Plane.{Point, point, side_of, doubled_area, TriangleHolds, IsCounterClockwise}
use Rattle.mesh_plane.specs.Surface.{lift_of, gap_over, gap_under, HasHeight, Surface}
use Rattle.mesh_plane.specs.Cover.{Covers}
use Rattle.mesh_plane.specs.SurfaceLaw.{AreHeightsWithin, IsSurfaceNear, IsTriIn, part_of, SurfaceLaw}
use Rattle.mesh_plane.specs.Fan.{Rect, grown, InRect}
use Rattle.mesh_plane.proofs.Heights.{cancelled}
use Rattle.mesh_plane.proofs.Scales.{nonneg_in, nonneg_out}
use Rattle.mesh_plane.proofs.Surfaces.{surface_some, surface_one}

abbrev side_expr : (au av bu bv s x y : Expr) → Expr
side_expr au av bu bv s x y = sub (mul (sub bu au) (sub y (mul s av))) (mul (sub bv av) (sub x (mul s au)))

-- ---- a finer scale
side_finer : (a b : Corner) (k s x y : ℤ) → k *ℤ side_of a b s x y ≡ side_of a b (k *ℤ s) (k *ℤ x) (k *ℤ y)
side_finer a b k s x y =
    by_ring (mul (var 7) (side_expr (var 0) (var 1) (var 2) (var 3) (var 4) (var 5) (var 6)))
    (side_expr (var 0) (var 1) (var 2) (var 3) (mul (var 7) (var 4)) (mul (var 7) (var 5)) (mul (var 7) (var 6)))
    (a.u ∷ a.v ∷ b.u ∷ b.v ∷ s ∷ x ∷ y ∷ k ∷ []) refl

weighed_sum : (k f g h i j l : ℤ) → (f *ℤ (k *ℤ g) +ℤ h *ℤ (k *ℤ i)) +ℤ j *ℤ (k *ℤ l)
    ≡ k *ℤ ((f *ℤ g +ℤ h *ℤ i) +ℤ j *ℤ l)
weighed_sum k f g h i j l =
    by_ring
    (add (add (mul (var 1) (mul (var 0) (var 2))) (mul (var 3) (mul (var 0) (var 4))))
    (mul (var 5) (mul (var 0) (var 6))))
    (mul (var 0) (add (add (mul (var 1) (var 2)) (mul (var 3) (var 4))) (mul (var 5) (var 6))))
    (k ∷ f ∷ g ∷ h ∷ i ∷ j ∷ l ∷ []) refl

lift_finer : (t : Tri) (k s x y : ℤ) → lift_of t (k *ℤ s) (k *ℤ x) (k *ℤ y) ≡ k *ℤ lift_of t s x y
lift_finer t k s x y =
    ap (λ i. (t.a.h *ℤ i +ℤ t.b.h *ℤ side_of t.c t.a (k *ℤ s) (k *ℤ x) (k *ℤ y))
    +ℤ t.c.h *ℤ side_of t.a t.b (k *ℤ s) (k *ℤ x) (k *ℤ y)) (sym (side_finer t.b t.c k s x y))
    ∙ ap (λ i. (t.a.h *ℤ (k *ℤ side_of t.b t.c s x y) +ℤ t.b.h *ℤ i)
    +ℤ t.c.h *ℤ side_of t.a t.b (k *ℤ s) (k *ℤ x) (k *ℤ y)) (sym (side_finer t.c t.a k s x y))
    ∙ ap (λ i. (t.a.h *ℤ (k *ℤ side_of t.b t.c s x y) +ℤ t.b.h *ℤ (k *ℤ side_of t.c t.a s x y))
    +ℤ t.c.h *ℤ i) (sym (side_finer t.a t.b k s x y))
    ∙ weighed_sum k t.a.h (side_of t.b t.c s x y) t.b.h (side_of t.c t.a s x y) t.c.h (side_of t.a t.b s x y)

holds_finer : (t : Tri) (k s x y : ℤ) → pos 1 ≤ℤ k → TriangleHolds s x y t → TriangleHolds (k *ℤ s) (k *ℤ x) (k *ℤ y) t
holds_finer t k s x y h i = record {
  ab = nonneg_in k (side_of t.a t.b s x y) (side_of t.a t.b (k *ℤ s) (k *ℤ x) (k *ℤ y)) h (side_finer t.a t.b k s x y) i.ab;
  bc = nonneg_in k (side_of t.b t.c s x y) (side_of t.b t.c (k *ℤ s) (k *ℤ x) (k *ℤ y)) h (side_finer t.b t.c k s x y) i.bc;
  ca = nonneg_in k (side_of t.c t.a s x y) (side_of t.c t.a (k *ℤ s) (k *ℤ x) (k *ℤ y)) h (side_finer t.c t.a k s x y) i.ca;
}

holds_coarser : (t : Tri) (k s x y : ℤ) → pos 1 ≤ℤ k → TriangleHolds (k *ℤ s) (k *ℤ x) (k *ℤ y) t → TriangleHolds s x y t
holds_coarser t k s x y h i = record {
  ab = nonneg_out k (side_of t.a t.b s x y) (side_of t.a t.b (k *ℤ s) (k *ℤ x) (k *ℤ y)) h (side_finer t.a t.b k s x y) i.ab;
  bc = nonneg_out k (side_of t.b t.c s x y) (side_of t.b t.c (k *ℤ s) (k *ℤ x) (k *ℤ y)) h (side_finer t.b t.c k s x y) i.bc;
  ca = nonneg_out k (side_of t.c t.a s x y) (side_of t.c t.a (k *ℤ s) (k *ℤ x) (k *ℤ y)) h (side_finer t.c t.a k s x y) i.ca;
}

left_out : (k l n : ℤ) → k *ℤ (l *ℤ n) ≡ (k *ℤ l) *ℤ n
left_out k l n = by_ring (mul (var 0) (mul (var 1) (var 2))) (mul (mul (var 0) (var 1)) (var 2)) (k ∷ l ∷ n ∷ []) refl

right_out : (k m s d : ℤ) → k *ℤ (m *ℤ (s *ℤ d)) ≡ m *ℤ ((k *ℤ s) *ℤ d)
right_out k m s d =
    by_ring (mul (var 0) (mul (var 1) (mul (var 2) (var 3)))) (mul (var 1) (mul (mul (var 0) (var 2)) (var 3)))
    (k ∷ m ∷ s ∷ d ∷ []) refl

height_finer : (t : Tri) (k s x y m n : ℤ) → HasHeight s x y m n t
    → HasHeight (k *ℤ s) (k *ℤ x) (k *ℤ y) m n t
height_finer t k s x y m n e =
    ap (λ i. i *ℤ n) (lift_finer t k s x y) ∙ sym (left_out k (lift_of t s x y) n)
    ∙ ap (λ i. k *ℤ i) e ∙ right_out k m s (doubled_area t)

height_coarser : (t : Tri) (k s x y m n : ℤ) → pos 1 ≤ℤ k → HasHeight (k *ℤ s) (k *ℤ x) (k *ℤ y) m n t
    → HasHeight s x y m n t
height_coarser t k s x y m n h e =
    cancelled k (lift_of t s x y *ℤ n) (m *ℤ (s *ℤ doubled_area t)) (omega (arith, ints, h))
    (left_out k (lift_of t s x y) n ∙ ap (λ i. i *ℤ n) (sym (lift_finer t k s x y)) ∙ e
    ∙ sym (right_out k m s (doubled_area t)))

finer : (ts : List Tri) (s k x y m n : ℤ) → pos 1 ≤ℤ k → Surface ts s x y m n
    → Surface ts (k *ℤ s) (k *ℤ x) (k *ℤ y) m n
finer ts s k x y m n h i =
    let a = i.shown in record {
      above_zero = i.above_zero;
      shown = (a.0, a.1, a.2, a.3, (holds_finer a.1 k s x y h a.4.0, height_finer a.1 k s x y m n a.4.1));
    }

coarser : (ts : List Tri) (s k x y m n : ℤ) → pos 1 ≤ℤ k → Surface ts (k *ℤ s) (k *ℤ x) (k *ℤ y) m n
    → Surface ts s x y m n
coarser ts s k x y m n h i =
    let a = i.shown in record {
      above_zero = i.above_zero;
      shown = (a.0, a.1, a.2, a.3, (holds_coarser a.1 k s x y h a.4.0, height_coarser a.1 k s x y m n h a.4.1));
    }

-- ---- between the corners' heights
pub sides_sum : (t : Tri) (s x y : ℤ)
    → (side_of t.b t.c s x y +ℤ side_of t.c t.a s x y) +ℤ side_of t.a t.b s x y ≡ gap_under t s
sides_sum t s x y =
    by_ring
    (add (add (side_expr (var 2) (var 3) (var 4) (var 5) (var 6) (var 7) (var 8))
    (side_expr (var 4) (var 5) (var 0) (var 1) (var 6) (var 7) (var 8)))
    (side_expr (var 0) (var 1) (var 2) (var 3) (var 6) (var 7) (var 8)))
    (mul (var 6)
    (sub (mul (sub (var 2) (var 0)) (sub (var 5) (var 1))) (mul (sub (var 3) (var 1)) (sub (var 4) (var 0)))))
    (t.a.u ∷ t.a.v ∷ t.b.u ∷ t.b.v ∷ t.c.u ∷ t.c.v ∷ s ∷ x ∷ y ∷ []) refl

above : (m f g h i j l : ℤ) → ((f -ℤ m) *ℤ i +ℤ (g -ℤ m) *ℤ j) +ℤ (h -ℤ m) *ℤ l
    ≡ ((f *ℤ i +ℤ g *ℤ j) +ℤ h *ℤ l) -ℤ m *ℤ ((i +ℤ j) +ℤ l)
above m f g h i j l =
    by_ring
    (add (add (mul (sub (var 1) (var 0)) (var 4)) (mul (sub (var 2) (var 0)) (var 5)))
    (mul (sub (var 3) (var 0)) (var 6)))
    (sub (add (add (mul (var 1) (var 4)) (mul (var 2) (var 5))) (mul (var 3) (var 6)))
    (mul (var 0) (add (add (var 4) (var 5)) (var 6))))
    (m ∷ f ∷ g ∷ h ∷ i ∷ j ∷ l ∷ []) refl

below : (m f g h i j l : ℤ) → ((m -ℤ f) *ℤ i +ℤ (m -ℤ g) *ℤ j) +ℤ (m -ℤ h) *ℤ l
    ≡ m *ℤ ((i +ℤ j) +ℤ l) -ℤ ((f *ℤ i +ℤ g *ℤ j) +ℤ h *ℤ l)
below m f g h i j l =
    by_ring
    (add (add (mul (sub (var 0) (var 1)) (var 4)) (mul (sub (var 0) (var 2)) (var 5)))
    (mul (sub (var 0) (var 3)) (var 6)))
    (sub (mul (var 0) (add (add (var 4) (var 5)) (var 6)))
    (add (add (mul (var 1) (var 4)) (mul (var 2) (var 5))) (mul (var 3) (var 6))))
    (m ∷ f ∷ g ∷ h ∷ i ∷ j ∷ l ∷ []) refl

held_between : (t : Tri) (s x y m n : ℤ) → AreHeightsWithin m n t → TriangleHolds s x y t
    → ((m *ℤ gap_under t s) ≤ℤ lift_of t s x y) × (lift_of t s x y ≤ℤ (n *ℤ gap_under t s))
held_between t s x y m n w h =
    let i = side_of t.b t.c s x y in let j = side_of t.c t.a s x y in let l = side_of t.a t.b s x y in
    let a₁ = times_nonneg (t.a.h -ℤ m) i (omega (arith, ints, w.a.0)) h.bc in
    let b₁ = times_nonneg (t.b.h -ℤ m) j (omega (arith, ints, w.b.0)) h.ca in
    let c₁ = times_nonneg (t.c.h -ℤ m) l (omega (arith, ints, w.c.0)) h.ab in
    let a₂ = times_nonneg (n -ℤ t.a.h) i (omega (arith, ints, w.a.1)) h.bc in
    let b₂ = times_nonneg (n -ℤ t.b.h) j (omega (arith, ints, w.b.1)) h.ca in
    let c₂ = times_nonneg (n -ℤ t.c.h) l (omega (arith, ints, w.c.1)) h.ab in
    let e = above m t.a.h t.b.h t.c.h i j l in let f = below n t.a.h t.b.h t.c.h i j l in
    let g = ap (λ z. m *ℤ z) (sides_sum t s x y) in let k = ap (λ z. n *ℤ z) (sides_sum t s x y) in
    (omega (arith, ints, a₁, b₁, c₁, e, g), omega (arith, ints, a₂, b₂, c₂, f, k))

-- ---- the gap of a triangle is that of the surface
-- l/m is within t of h
pub record IsNear (t h m l : ℤ) : Type 0 where
  pub above : (l -ℤ h *ℤ m) ≤ℤ (t *ℤ m)
  pub below : (h *ℤ m -ℤ l) ≤ℤ (t *ℤ m)

-- one fraction by another that is equal: l/m = x/d
at_most_moved : (k m l d x : ℤ) → pos 0 <ℤ m → pos 0 <ℤ d → x *ℤ m ≡ l *ℤ d → l ≤ℤ (k *ℤ m) → x ≤ℤ (k *ℤ d)
at_most_moved k m l d x hm hd e h =
    let a = times_nonneg d (k *ℤ m -ℤ l) (weaken hd) (omega (arith, ints, h)) in
    let b : d *ℤ (k *ℤ m -ℤ l) ≡ m *ℤ (k *ℤ d) -ℤ l *ℤ d =
    by_ring (mul (var 0) (sub (mul (var 1) (var 2)) (var 3)))
    (sub (mul (var 2) (mul (var 1) (var 0))) (mul (var 3) (var 0))) (d ∷ k ∷ m ∷ l ∷ []) refl in
    let c : m *ℤ (k *ℤ d -ℤ x) ≡ m *ℤ (k *ℤ d) -ℤ x *ℤ m =
    by_ring (mul (var 2) (sub (mul (var 1) (var 0)) (var 3)))
    (sub (mul (var 2) (mul (var 1) (var 0))) (mul (var 3) (var 2))) (d ∷ k ∷ m ∷ x ∷ []) refl in
    let f = factor_nonneg m (k *ℤ d -ℤ x) hm (omega (arith, ints, a, b, c, e)) in omega (arith, ints, f)

difference_times : (a b c : ℤ) → (a -ℤ b) *ℤ c ≡ a *ℤ c -ℤ b *ℤ c
difference_times a b c =
    by_ring (mul (sub (var 0) (var 1)) (var 2)) (sub (mul (var 0) (var 2)) (mul (var 1) (var 2))) (a ∷ b ∷ c ∷ []) refl

sum_times : (a b c : ℤ) → (a +ℤ b) *ℤ c ≡ a *ℤ c +ℤ b *ℤ c
sum_times a b c =
    by_ring (mul (add (var 0) (var 1)) (var 2)) (add (mul (var 0) (var 2)) (mul (var 1) (var 2))) (a ∷ b ∷ c ∷ []) refl

minus_times : (a c : ℤ) → (pos 0 -ℤ a) *ℤ c ≡ pos 0 -ℤ a *ℤ c
minus_times a c = by_ring (mul (sub (num 0) (var 0)) (var 1)) (sub (num 0) (mul (var 0) (var 1))) (a ∷ c ∷ []) refl

pub near_moved : (t h m l d x : ℤ) → pos 0 <ℤ m → pos 0 <ℤ d → x *ℤ m ≡ l *ℤ d → IsNear t h m l → IsNear t h d x
near_moved t h m l d x hm hd e n =
    let up = at_most_moved (t +ℤ h) m l d x hm hd e (omega (arith, ints, n.above, sum_times t h m)) in
    let down = at_most_moved (t -ℤ h) m (pos 0 -ℤ l) d (pos 0 -ℤ x) hm hd
    (omega (arith, ints, e, minus_times x m, minus_times l d))
    (omega (arith, ints, n.below, difference_times t h m)) in
    record {
      above = omega (arith, ints, up, sum_times t h d);
      below = omega (arith, ints, down, difference_times t h d);
    }

abbrev GapIsNear : Tri → ℤ → ℤ → ℤ → ℤ → ℤ → Type 0
GapIsNear t s x y metres n = gap_over t s x y metres ≤ℤ (n *ℤ gap_under t s)

gap_law : (ts : List Tri) (t : Tri) (s x y metres n : ℤ) → Covers ts → pos 1 ≤ℤ s → Contains ts t → TriangleHolds s x y t
    → IsSurfaceNear ts s x y metres n ↔ GapIsNear t s x y metres n
gap_law ts t s x y metres n c one i holds =
    let ccw : IsCounterClockwise t = subst IsCounterClockwise i.2 (c.counter_clockwise i.0 t i.1) in
    let area : pos 0 <ℤ (s *ℤ doubled_area t) = times_pos s (doubled_area t) (omega (arith, ints, one)) ccw in
    let d = s *ℤ doubled_area t in let l = lift_of t s x y in
    let here : Surface ts s x y l d = record {
      above_zero = area;
      shown = (i.0, t, i.1, i.2, (holds, refl));
    } in (
      (λ f. f l d here),
      (λ (h : GapIsNear t s x y metres n) over under r.
          let near = near_of_size (l -ℤ metres *ℤ d) (n *ℤ d) h in
          let m = near_moved n metres d l under over area r.above_zero (surface_one s x y over under l d one ts c r here)
          (record { above = near.0; below = omega (arith, ints, near.1) }) in
          size_of_near (over -ℤ metres *ℤ under) (n *ℤ under) m.above (omega (arith, ints, m.below))),
    )

-- ---- along a segment
side_part : (a b : Corner) (s d n : ℤ) (p q : Point) → side_of a b (d *ℤ s) (part_of d n p q).u (part_of d n p q).v
    ≡ (d -ℤ n) *ℤ side_of a b s p.u p.v +ℤ n *ℤ side_of a b s q.u q.v
side_part a b s d n p q =
    by_ring
    (side_expr (var 0) (var 1) (var 2) (var 3) (mul (var 5) (var 4))
    (add (mul (sub (var 5) (var 6)) (var 7)) (mul (var 6) (var 9)))
    (add (mul (sub (var 5) (var 6)) (var 8)) (mul (var 6) (var 10))))
    (add (mul (sub (var 5) (var 6)) (side_expr (var 0) (var 1) (var 2) (var 3) (var 4) (var 7) (var 8)))
    (mul (var 6) (side_expr (var 0) (var 1) (var 2) (var 3) (var 4) (var 9) (var 10))))
    (a.u ∷ a.v ∷ b.u ∷ b.v ∷ s ∷ d ∷ n ∷ p.u ∷ p.v ∷ q.u ∷ q.v ∷ []) refl

abbrev mix : Expr → Expr → Expr
mix x y = add (mul (var 0) x) (mul (var 1) y)

abbrev sum : Expr → Expr → Expr → Expr
sum x y z = add (add (mul (var 2) x) (mul (var 3) y)) (mul (var 4) z)

parts : (e n f g h a b c i j k : ℤ) → (f *ℤ (e *ℤ a +ℤ n *ℤ i) +ℤ g *ℤ (e *ℤ b +ℤ n *ℤ j)) +ℤ h *ℤ (e *ℤ c +ℤ n *ℤ k)
    ≡ e *ℤ ((f *ℤ a +ℤ g *ℤ b) +ℤ h *ℤ c) +ℤ n *ℤ ((f *ℤ i +ℤ g *ℤ j) +ℤ h *ℤ k)
parts e n f g h a b c i j k =
    by_ring
    (sum (mix (var 5) (var 8)) (mix (var 6) (var 9)) (mix (var 7) (var 10)))
    (mix (sum (var 5) (var 6) (var 7)) (sum (var 8) (var 9) (var 10)))
    (e ∷ n ∷ f ∷ g ∷ h ∷ a ∷ b ∷ c ∷ i ∷ j ∷ k ∷ []) refl

lift_part : (t : Tri) (s d n : ℤ) (p q : Point) → lift_of t (d *ℤ s) (part_of d n p q).u (part_of d n p q).v
    ≡ (d -ℤ n) *ℤ lift_of t s p.u p.v +ℤ n *ℤ lift_of t s q.u q.v
lift_part t s d n p q =
    let r = part_of d n p q in
    let i = side_of t.b t.c (d *ℤ s) r.u r.v in let j = side_of t.c t.a (d *ℤ s) r.u r.v in
    let k = side_of t.a t.b (d *ℤ s) r.u r.v in
    let bc = λ (o : Point). side_of t.b t.c s o.u o.v in let ca = λ (o : Point). side_of t.c t.a s o.u o.v in
    let ab = λ (o : Point). side_of t.a t.b s o.u o.v in
    ap (λ z. (t.a.h *ℤ z +ℤ t.b.h *ℤ j) +ℤ t.c.h *ℤ k) (side_part t.b t.c s d n p q)
    ∙ ap (λ z. (t.a.h *ℤ ((d -ℤ n) *ℤ bc p +ℤ n *ℤ bc q) +ℤ t.b.h *ℤ z) +ℤ t.c.h *ℤ k) (side_part t.c t.a s d n p q)
    ∙ ap (λ z. (t.a.h *ℤ ((d -ℤ n) *ℤ bc p +ℤ n *ℤ bc q) +ℤ t.b.h *ℤ ((d -ℤ n) *ℤ ca p +ℤ n *ℤ ca q)) +ℤ t.c.h *ℤ z)
    (side_part t.a t.b s d n p q)
    ∙ parts (d -ℤ n) n t.a.h t.b.h t.c.h (bc p) (ca p) (ab p) (bc q) (ca q) (ab q)

side_convex : (a b : Corner) (s d n : ℤ) (p q : Point) → pos 0 ≤ℤ n → n ≤ℤ d → pos 0 ≤ℤ side_of a b s p.u p.v
    → pos 0 ≤ℤ side_of a b s q.u q.v → pos 0 ≤ℤ side_of a b (d *ℤ s) (part_of d n p q).u (part_of d n p q).v
side_convex a b s d n p q h k i j =
    omega (
      arith,
      ints,
      side_part a b s d n p q,
      times_nonneg (d -ℤ n) (side_of a b s p.u p.v) (omega (arith, ints, k)) i,
      times_nonneg n (side_of a b s q.u q.v) h j,
    )

held_part : (t : Tri) (s d n : ℤ) (p q : Point) → pos 0 ≤ℤ n → n ≤ℤ d → TriangleHolds s p.u p.v t → TriangleHolds s q.u q.v t
    → TriangleHolds (d *ℤ s) (part_of d n p q).u (part_of d n p q).v t
held_part t s d n p q h k i j = record {
  ab = side_convex t.a t.b s d n p q h k i.ab j.ab;
  bc = side_convex t.b t.c s d n p q h k i.bc j.bc;
  ca = side_convex t.c t.a s d n p q h k i.ca j.ca;
}

-- ---- in the box of the corners
-- a mean of three numbers by weights i, j and l, of which w is so many as the sum of the weights is s
apart : (d m s w : ℤ) → d *ℤ (w -ℤ s *ℤ m) ≡ w *ℤ d -ℤ m *ℤ (s *ℤ d)
apart d m s w =
    by_ring (mul (var 0) (sub (var 3) (mul (var 2) (var 1))))
    (sub (mul (var 3) (var 0)) (mul (var 1) (mul (var 2) (var 0)))) (d ∷ m ∷ s ∷ w ∷ []) refl

apart_back : (d m s w : ℤ) → d *ℤ (s *ℤ m -ℤ w) ≡ m *ℤ (s *ℤ d) -ℤ w *ℤ d
apart_back d m s w =
    by_ring (mul (var 0) (sub (mul (var 2) (var 1)) (var 3)))
    (sub (mul (var 1) (mul (var 2) (var 0))) (mul (var 3) (var 0))) (d ∷ m ∷ s ∷ w ∷ []) refl

module _ (d i j l f g h s w : ℤ) (far : pos 0 <ℤ d) (hi : pos 0 ≤ℤ i) (hj : pos 0 ≤ℤ j) (hl : pos 0 ≤ℤ l)
    (mean : (f *ℤ i +ℤ g *ℤ j) +ℤ h *ℤ l ≡ w *ℤ d) (sums : (i +ℤ j) +ℤ l ≡ s *ℤ d) where
  low : (m : ℤ) → m ≤ℤ f → m ≤ℤ g → m ≤ℤ h → (s *ℤ m) ≤ℤ w
  low m hf hg hh =
      let a = times_nonneg (f -ℤ m) i (omega (arith, ints, hf)) hi in
      let b = times_nonneg (g -ℤ m) j (omega (arith, ints, hg)) hj in
      let c = times_nonneg (h -ℤ m) l (omega (arith, ints, hh)) hl in
      let e = above m f g h i j l in let k = ap (λ z. m *ℤ z) sums in
      let n : pos 0 ≤ℤ (d *ℤ (w -ℤ s *ℤ m)) = omega (arith, ints, a, b, c, e, k, mean, apart d m s w) in
      omega (arith, ints, factor_nonneg d (w -ℤ s *ℤ m) far n)

  high : (m : ℤ) → f ≤ℤ m → g ≤ℤ m → h ≤ℤ m → w ≤ℤ (s *ℤ m)
  high m hf hg hh =
      let a = times_nonneg (m -ℤ f) i (omega (arith, ints, hf)) hi in
      let b = times_nonneg (m -ℤ g) j (omega (arith, ints, hg)) hj in
      let c = times_nonneg (m -ℤ h) l (omega (arith, ints, hh)) hl in
      let e = below m f g h i j l in let k = ap (λ z. m *ℤ z) sums in
      let n : pos 0 ≤ℤ (d *ℤ (s *ℤ m -ℤ w)) = omega (arith, ints, a, b, c, e, k, mean, apart_back d m s w) in
      omega (arith, ints, factor_nonneg d (s *ℤ m -ℤ w) far n)

abbrev bc_expr : Expr
bc_expr = side_expr (var 2) (var 3) (var 4) (var 5) (var 6) (var 7) (var 8)

abbrev ca_expr : Expr
ca_expr = side_expr (var 4) (var 5) (var 0) (var 1) (var 6) (var 7) (var 8)

abbrev ab_expr : Expr
ab_expr = side_expr (var 0) (var 1) (var 2) (var 3) (var 6) (var 7) (var 8)

abbrev area_expr : Expr
area_expr = sub (mul (sub (var 2) (var 0)) (sub (var 5) (var 1))) (mul (sub (var 3) (var 1)) (sub (var 4) (var 0)))

mean_u : (t : Tri) (s x y : ℤ)
    → (t.a.u *ℤ side_of t.b t.c s x y +ℤ t.b.u *ℤ side_of t.c t.a s x y) +ℤ t.c.u *ℤ side_of t.a t.b s x y
    ≡ x *ℤ doubled_area t
mean_u t s x y =
    by_ring (add (add (mul (var 0) bc_expr) (mul (var 2) ca_expr)) (mul (var 4) ab_expr)) (mul (var 7) area_expr)
    (t.a.u ∷ t.a.v ∷ t.b.u ∷ t.b.v ∷ t.c.u ∷ t.c.v ∷ s ∷ x ∷ y ∷ []) refl

mean_v : (t : Tri) (s x y : ℤ)
    → (t.a.v *ℤ side_of t.b t.c s x y +ℤ t.b.v *ℤ side_of t.c t.a s x y) +ℤ t.c.v *ℤ side_of t.a t.b s x y
    ≡ y *ℤ doubled_area t
mean_v t s x y =
    by_ring (add (add (mul (var 1) bc_expr) (mul (var 3) ca_expr)) (mul (var 5) ab_expr)) (mul (var 8) area_expr)
    (t.a.u ∷ t.a.v ∷ t.b.u ∷ t.b.v ∷ t.c.u ∷ t.c.v ∷ s ∷ x ∷ y ∷ []) refl

held_in_box : (r : Rect) (t : Tri) (s x y : ℤ) → IsCounterClockwise t → IsTriIn r t → TriangleHolds s x y t
    → InRect (grown s r) (point x y)
held_in_box r t s x y ccw c h =
    let d = doubled_area t in let sums = sides_sum t s x y in
    let i = side_of t.b t.c s x y in let j = side_of t.c t.a s x y in let l = side_of t.a t.b s x y in
    record {
      west = low d i j l t.a.u t.b.u t.c.u s x ccw h.bc h.ca h.ab (mean_u t s x y) sums r.west c.a.west c.b.west c.c.west;
      south = low d i j l t.a.v t.b.v t.c.v s y ccw h.bc h.ca h.ab (mean_v t s x y) sums r.south c.a.south c.b.south c.c.south;
      east = high d i j l t.a.u t.b.u t.c.u s x ccw h.bc h.ca h.ab (mean_u t s x y) sums r.east c.a.east c.b.east c.c.east;
      north = high d i j l t.a.v t.b.v t.c.v s y ccw h.bc h.ca h.ab (mean_v t s x y) sums r.north c.a.north c.b.north c.c.north;
    }

pub surface_law : SurfaceLaw
surface_law = record {
  some = surface_some;
  one = λ ts s x y m n k l c h a b. surface_one s x y m n k l h ts c a b;
  scale = λ ts s k x y m n h. (finer ts s k x y m n h, coarser ts s k x y m n h);
  between = held_between;
  gap = gap_law;
  straight = lift_part;
  convex = held_part;
  box = held_in_box;
}
