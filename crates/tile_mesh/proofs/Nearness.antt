-- Heights of triangles' planes that are near a height.
use Rattle.std.proofs.Common.{◌≡◌, refl, ap, sym, ◌∙◌, arith, List, [], ◌∷◌, ◌++◌, inl, inr}
use Rattle.std.specs.Prelude.{ℤ, pos, ◌+ℤ◌, ◌-ℤ◌, ◌*ℤ◌, ◌≤ℤ◌, ◌<ℤ◌}
use Rattle.std.specs.List.{AllByRecursion}
use Rattle.std.proofs.lemmas.Int.{ints}
use Rattle.common_laws.proofs.Sizes.{near_of_size, size_of_near}
use Rattle.polynomial.proofs.Expressions.{var, num, add, mul}
use Rattle.polynomial.proofs.NormalForm.{by_ring}
use Rattle.mesh_plane.specs.Plane.{Point, point, doubled_area, side_of, TriangleHolds}
use Rattle.mesh_plane.specs.Surface.{lift_of, gap_over, gap_under}
use Rattle.mesh_plane.specs.Triangles.{Triple}
use Rattle.mesh_plane.proofs.Turns.{turn, side_scaled}
use Rattle.mesh_plane.proofs.Tilings.{area, Within, Held, IsCcw}
use Rattle.mesh_plane.proofs.Heights.{lift, OneLevel, Shown, Has, spread}
use Rattle.mesh_plane.proofs.Scales.{corner_of, placed, scaled, area_scaled, holds_in, holds_out}
use Rattle.mesh_plane.proofs.SurfaceLaws.{IsNear, near_moved}

pub near_itself : (t h : ℤ) → pos 0 ≤ℤ t → IsNear t h (pos 1) h
near_itself t h p = record {
  above = omega (arith, ints, p);
  below = omega (arith, ints, p);
}

module _ {A : Type 0} (at : A → Point) (z : A → ℤ) (p : Point) (t h : ℤ) where
  -- some triangle holds the point and has a height there that is near
  pub record IsShownNear (ts : List (Triple A)) : Type 0 where
    pub m : ℤ
    pub l : ℤ
    pub some : pos 0 <ℤ m
    pub shown : Shown at z p m l ts
    pub near : IsNear t h m l

  -- a triangle that holds the point has a height near there
  abbrev pub NearAt : Triple A → Type 0
  NearAt u = Within at u p → IsNear t h (area at u) (lift at z u p)

  pub all_near : (ts : List (Triple A)) → AllByRecursion (IsCcw at) ts → OneLevel at z p ts → IsShownNear ts
      → AllByRecursion NearAt ts
  all_near ts c o s = go ts c (spread at z p s.m s.l ts o s.shown)
    where
      go : (us : List (Triple A)) → AllByRecursion (IsCcw at) us → Has at z p s.m s.l us → AllByRecursion NearAt us
      go [] c k = tt
      go (u ∷ us) c k =
          (λ w. near_moved t h s.m s.l (area at u) (lift at z u p) s.some c.0 (k.0 w) s.near, go us c.1 k.1)

  shown_left : (m l : ℤ) (ts us : List (Triple A)) → Shown at z p m l ts → Shown at z p m l (ts ++ us)
  shown_left m l [] us s = elim s [ ]
  shown_left m l (u ∷ ts) us (inl s) = inl s
  shown_left m l (u ∷ ts) us (inr s) = inr (shown_left m l ts us s)

  shown_right : (m l : ℤ) (ts us : List (Triple A)) → Shown at z p m l us → Shown at z p m l (ts ++ us)
  shown_right m l [] us s = s
  shown_right m l (u ∷ ts) us s = inr (shown_right m l ts us s)

  pub near_left : (ts us : List (Triple A)) → IsShownNear ts → IsShownNear (ts ++ us)
  near_left ts us s = record { m = s.m; l = s.l; some = s.some; shown = shown_left s.m s.l ts us s.shown; near = s.near }

  pub near_right : (ts us : List (Triple A)) → IsShownNear us → IsShownNear (ts ++ us)
  near_right ts us s = record { m = s.m; l = s.l; some = s.some; shown = shown_right s.m s.l ts us s.shown; near = s.near }

  -- one that holds the point, where all that do are near
  pub held_near : (ts : List (Triple A)) → AllByRecursion (IsCcw at) ts → AllByRecursion NearAt ts → Held at p ts → IsShownNear ts
  held_near [] c n i = elim i [ ]
  held_near (u ∷ ts) c n (inl i) = record {
    m = area at u;
    l = lift at z u p;
    some = c.0;
    shown = inl (c.0, i, refl);
    near = n.0 i;
  }
  held_near (u ∷ ts) c n (inr i) =
      let s = held_near ts c.1 n.1 i in
      record { m = s.m; l = s.l; some = s.some; shown = inr s.shown; near = s.near }

-- ---- at the scale 1
one : pos 1 ≤ℤ pos 1
one = omega (arith, ints)

module _ {A : Type 0} (place : A → Point) (z : A → ℤ) (x y t h : ℤ) (u : Triple A) where
  lift_at_one : lift (scaled place z (pos 1)) z u (point x y) ≡ lift_of (placed place z u) (pos 1) x y
  lift_at_one =
      let a = corner_of place z u.a in let b = corner_of place z u.b in let c = corner_of place z u.c in
      let p = point x y in let s = scaled place z (pos 1) in
      ap (λ i. (z u.a *ℤ i +ℤ z u.b *ℤ turn (s u.c) (s u.a) p) +ℤ z u.c *ℤ turn (s u.a) (s u.b) p)
      (sym (side_scaled b c (pos 1) x y))
      ∙ ap (λ i. (z u.a *ℤ (pos 1 *ℤ side_of b c (pos 1) x y) +ℤ z u.b *ℤ i) +ℤ z u.c *ℤ turn (s u.a) (s u.b) p)
      (sym (side_scaled c a (pos 1) x y))
      ∙ ap (λ i. (z u.a *ℤ (pos 1 *ℤ side_of b c (pos 1) x y) +ℤ z u.b *ℤ (pos 1 *ℤ side_of c a (pos 1) x y)) +ℤ z u.c *ℤ i)
      (sym (side_scaled a b (pos 1) x y))
      ∙ by_ring
      (add (add (mul (var 0) (mul (num 1) (var 3))) (mul (var 1) (mul (num 1) (var 4)))) (mul (var 2) (mul (num 1) (var 5))))
      (add (add (mul (var 0) (var 3)) (mul (var 1) (var 4))) (mul (var 2) (var 5)))
      (z u.a ∷ z u.b ∷ z u.c ∷ side_of b c (pos 1) x y ∷ side_of c a (pos 1) x y ∷ side_of a b (pos 1) x y ∷ []) refl

  area_at_one : area (scaled place z (pos 1)) u ≡ pos 1 *ℤ doubled_area (placed place z u)
  area_at_one =
      area_scaled place z (pos 1) u
      ∙ by_ring (mul (mul (num 1) (num 1)) (var 0)) (mul (num 1) (var 0)) (doubled_area (placed place z u) ∷ []) refl

  -- what is near as a placed triangle
  pub gap_of_near : NearAt (scaled place z (pos 1)) z (point x y) t h u → TriangleHolds (pos 1) x y (placed place z u)
      → gap_over (placed place z u) (pos 1) x y h ≤ℤ (t *ℤ gap_under (placed place z u) (pos 1))
  gap_of_near n i =
      let k = n (holds_in place z (pos 1) x y one u i) in
      let d = gap_under (placed place z u) (pos 1) in let l = lift_of (placed place z u) (pos 1) x y in
      size_of_near (l -ℤ h *ℤ d) (t *ℤ d)
      (omega (arith, ints, k.above, lift_at_one, ap (λ i. t *ℤ i) area_at_one, ap (λ i. h *ℤ i) area_at_one))
      (omega (arith, ints, k.below, lift_at_one, ap (λ i. t *ℤ i) area_at_one, ap (λ i. h *ℤ i) area_at_one))

  pub near_of_gap : (TriangleHolds (pos 1) x y (placed place z u)
      → gap_over (placed place z u) (pos 1) x y h ≤ℤ (t *ℤ gap_under (placed place z u) (pos 1)))
      → NearAt (scaled place z (pos 1)) z (point x y) t h u
  near_of_gap f w =
      let d = gap_under (placed place z u) (pos 1) in let l = lift_of (placed place z u) (pos 1) x y in
      let k = near_of_size (l -ℤ h *ℤ d) (t *ℤ d) (f (holds_out place z (pos 1) x y one u w)) in
      record {
        above = omega (arith, ints, k.0, lift_at_one, ap (λ i. t *ℤ i) area_at_one, ap (λ i. h *ℤ i) area_at_one);
        below = omega (arith, ints, k.1, lift_at_one, ap (λ i. t *ℤ i) area_at_one, ap (λ i. h *ℤ i) area_at_one);
      }
