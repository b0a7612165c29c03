-- The law of heights in another unit.
use Rattle.std.proofs.Common.{◌≡◌, ℕ, refl, ap, arith, ◌∙◌, List, [], ◌∷◌, map, inl, inr}
use Rattle.std.specs.Prelude.{ℤ, pos, ◌+ℤ◌, ◌*ℤ◌, ◌≤ℤ◌, ◌⊎◌, Any, AllPairs}
use Rattle.std.specs.List.{AllByRecursion}
use Rattle.std.proofs.lemmas.Int.{ints}
use Rattle.polynomial.proofs.Expressions.{var, add, mul}
use Rattle.polynomial.proofs.NormalForm.{by_ring}
use Rattle.mesh_plane.specs.declared.corner.Tri.{Tri}
use Rattle.mesh_plane.specs.Plane.{Point, side_of, doubled_area, IsCounterClockwise, TriangleHolds, TriangleHoldsInside, IsOnTile, IsTileTri}
use Rattle.mesh_plane.specs.Surface.{lift_of, SameHeight}
use Rattle.mesh_plane.specs.Cover.{HeldOnce, OneHeight}
use Rattle.mesh_plane.specs.Triangles.{Triple}
use Rattle.mesh_plane.specs.Rescale.{vertex_by, tri_by, RescaleLaw}
use Rattle.mesh_plane.proofs.Heights.{cancelled}
use Rattle.mesh_plane.proofs.SurfaceLaws.{sides_sum}
use Rattle.mesh_plane.proofs.ListWords.{all_from, all_to, any_here, any_there, any_none, any_cases, pairs_none, pairs_cons, pairs_head, pairs_tail}

mixed : (n k m a b c d e f i j l : ℤ) → n *ℤ a ≡ k +ℤ m *ℤ d → n *ℤ b ≡ k +ℤ m *ℤ e → n *ℤ c ≡ k +ℤ m *ℤ f
    → n *ℤ ((a *ℤ i +ℤ b *ℤ j) +ℤ c *ℤ l) ≡ k *ℤ ((i +ℤ j) +ℤ l) +ℤ m *ℤ ((d *ℤ i +ℤ e *ℤ j) +ℤ f *ℤ l)
mixed n k m a b c d e f i j l x y z =
    by_ring (mul (var 0) (add (add (mul (var 1) (var 4)) (mul (var 2) (var 5))) (mul (var 3) (var 6))))
    (add (add (mul (mul (var 0) (var 1)) (var 4)) (mul (mul (var 0) (var 2)) (var 5))) (mul (mul (var 0) (var 3)) (var 6)))
    (n ∷ a ∷ b ∷ c ∷ i ∷ j ∷ l ∷ []) refl
    ∙ ap (λ v. (v *ℤ i +ℤ (n *ℤ b) *ℤ j) +ℤ (n *ℤ c) *ℤ l) x
    ∙ ap (λ v. ((k +ℤ m *ℤ d) *ℤ i +ℤ v *ℤ j) +ℤ (n *ℤ c) *ℤ l) y
    ∙ ap (λ v. ((k +ℤ m *ℤ d) *ℤ i +ℤ (k +ℤ m *ℤ e) *ℤ j) +ℤ v *ℤ l) z
    ∙ by_ring
    (add (add (mul (add (var 0) (mul (var 1) (var 2))) (var 5)) (mul (add (var 0) (mul (var 1) (var 3))) (var 6)))
    (mul (add (var 0) (mul (var 1) (var 4))) (var 7)))
    (add (mul (var 0) (add (add (var 5) (var 6)) (var 7)))
    (mul (var 1) (add (add (mul (var 2) (var 5)) (mul (var 3) (var 6))) (mul (var 4) (var 7)))))
    (k ∷ m ∷ d ∷ e ∷ f ∷ i ∷ j ∷ l ∷ []) refl

-- ---- the same places
module _ (at : ℕ → Point) (z w : ℕ → ℤ) where
  corner_new : (i : ℕ) → IsOnTile (vertex_by at z i) → IsOnTile (vertex_by at w i)
  corner_new i h = record { west = h.west; east = h.east; south = h.south; north = h.north }

  on_new : (ts : List (Triple ℕ)) → AllByRecursion IsTileTri (map (tri_by at z) ts)
      → AllByRecursion IsTileTri (map (tri_by at w) ts)
  on_new [] h = tt
  on_new (t ∷ ts) h =
      (record { a = corner_new t.a h.0.a; b = corner_new t.b h.0.b; c = corner_new t.c h.0.c }, on_new ts h.1)

-- ---- heights in the other unit
module _ (at : ℕ → Point) (z w : ℕ → ℤ) (n k m : ℤ) (far : pos 1 ≤ℤ n)
    (unit : (i : ℕ) → n *ℤ w i ≡ k +ℤ m *ℤ z i) where
  abbrev old : Triple ℕ → Tri
  old = tri_by at z

  abbrev new : Triple ℕ → Tri
  new = tri_by at w

  lift_new : (t : Triple ℕ) (s x y : ℤ)
      → n *ℤ lift_of (new t) s x y ≡ k *ℤ (s *ℤ doubled_area (old t)) +ℤ m *ℤ lift_of (old t) s x y
  lift_new t s x y =
      mixed n k m (w t.a) (w t.b) (w t.c) (z t.a) (z t.b) (z t.c) (side_of (old t).b (old t).c s x y)
      (side_of (old t).c (old t).a s x y) (side_of (old t).a (old t).b s x y) (unit t.a) (unit t.b) (unit t.c)
      ∙ ap (λ v. k *ℤ v +ℤ m *ℤ lift_of (old t) s x y) (sides_sum (old t) s x y)

  part : (l s d e i : ℤ) → n *ℤ l ≡ k *ℤ (s *ℤ d) +ℤ m *ℤ i
      → n *ℤ (l *ℤ e) ≡ k *ℤ (s *ℤ (d *ℤ e)) +ℤ m *ℤ (i *ℤ e)
  part l s d e i h =
      by_ring (mul (var 0) (mul (var 1) (var 2))) (mul (mul (var 0) (var 1)) (var 2)) (n ∷ l ∷ e ∷ []) refl
      ∙ ap (λ v. v *ℤ e) h
      ∙ by_ring
      (mul (add (mul (var 0) (mul (var 1) (var 2))) (mul (var 3) (var 4))) (var 5))
      (add (mul (var 0) (mul (var 1) (mul (var 2) (var 5)))) (mul (var 3) (mul (var 4) (var 5))))
      (k ∷ s ∷ d ∷ m ∷ i ∷ e ∷ []) refl

  turned_round : (s d e : ℤ) → k *ℤ (s *ℤ (d *ℤ e)) ≡ k *ℤ (s *ℤ (e *ℤ d))
  turned_round s d e =
      by_ring (mul (var 0) (mul (var 1) (mul (var 2) (var 3)))) (mul (var 0) (mul (var 1) (mul (var 3) (var 2))))
      (k ∷ s ∷ d ∷ e ∷ []) refl

  same_new : (t u : Triple ℕ) (s x y : ℤ) → SameHeight s x y (old t) (old u) → SameHeight s x y (new t) (new u)
  same_new t u s x y h =
      let d = doubled_area (old t) in let e = doubled_area (old u) in
      let a = part (lift_of (new t) s x y) s d e (lift_of (old t) s x y) (lift_new t s x y) in
      let b = part (lift_of (new u) s x y) s e d (lift_of (old u) s x y) (lift_new u s x y) in
      cancelled n (lift_of (new t) s x y *ℤ e) (lift_of (new u) s x y *ℤ d) (omega (arith, ints, far))
      (omega (arith, ints, a, b, turned_round s d e, ap (λ v. m *ℤ v) h))

  ccw_new : (ts : List (Triple ℕ)) → AllByRecursion IsCounterClockwise (map old ts)
      → AllByRecursion IsCounterClockwise (map new ts)
  ccw_new [] h = tt
  ccw_new (t ∷ ts) h = (h.0, ccw_new ts h.1)

  module _ (s x y : ℤ) where
    held_same : (t : Triple ℕ) → TriangleHolds s x y (old t) → TriangleHolds s x y (new t)
    held_same t h = record { ab = h.ab; bc = h.bc; ca = h.ca }

    held_back : (t : Triple ℕ) → TriangleHolds s x y (new t) → TriangleHolds s x y (old t)
    held_back t h = record { ab = h.ab; bc = h.bc; ca = h.ca }

    strictly_back : (t : Triple ℕ) → TriangleHoldsInside s x y (new t) → TriangleHoldsInside s x y (old t)
    strictly_back t h = record { ab = h.ab; bc = h.bc; ca = h.ca }

    held_new : (ts : List (Triple ℕ)) → Any (TriangleHolds s x y) (map old ts) → Any (TriangleHolds s x y) (map new ts)
    held_new [] a = absurd (any_none (TriangleHolds s x y) a)
    held_new (t ∷ ts) a = go (any_cases (TriangleHolds s x y) (old t) (map old ts) a) (held_new ts)
      where
        go : TriangleHolds s x y (old t) ⊎ Any (TriangleHolds s x y) (map old ts)
            → (Any (TriangleHolds s x y) (map old ts) → Any (TriangleHolds s x y) (map new ts))
            → Any (TriangleHolds s x y) (map new (t ∷ ts))
        go (inl i) f = any_here (TriangleHolds s x y) (new t) (map new ts) (held_same t i)
        go (inr i) f = any_there (TriangleHolds s x y) (new t) (map new ts) (f i)

    abbrev Apart : Tri → Tri → Type 0
    Apart t u = ¬ (TriangleHoldsInside s x y t × TriangleHoldsInside s x y u)

    abbrev Same : Tri → Tri → Type 0
    Same t u = TriangleHolds s x y t → TriangleHolds s x y u → SameHeight s x y t u

    -- what holds of each two old triangles and so of the new ones
    module _ (P : Tri → Tri → Type 0) (kept : (t u : Triple ℕ) → P (old t) (old u) → P (new t) (new u)) where
      each_new : (t : Triple ℕ) (ts : List (Triple ℕ)) → AllByRecursion (P (old t)) (map old ts)
          → AllByRecursion (P (new t)) (map new ts)
      each_new t [] h = tt
      each_new t (u ∷ us) h = (kept t u h.0, each_new t us h.1)

      pairs_new : (ts : List (Triple ℕ)) → AllPairs P (map old ts) → AllPairs P (map new ts)
      pairs_new [] h = pairs_none P
      pairs_new (t ∷ ts) h =
          pairs_cons P (new t) (map new ts)
          (all_from (P (new t)) (map new ts)
          (each_new t ts (all_to (P (old t)) (map old ts) (pairs_head P (old t) (map old ts) h))))
          (pairs_new ts (pairs_tail P (old t) (map old ts) h))

    once_new : (ts : List (Triple ℕ)) → HeldOnce s x y (map old ts) → HeldOnce s x y (map new ts)
    once_new = pairs_new Apart (λ t u f p. f (strictly_back t p.0, strictly_back u p.1))

    level_new : (ts : List (Triple ℕ)) → OneHeight s x y (map old ts) → OneHeight s x y (map new ts)
    level_new = pairs_new Same (λ t u f i j. same_new t u s x y (f (held_back t i) (held_back u j)))

pub rescale_law : RescaleLaw
rescale_law at z w n k m ts far unit c = record {
  on_tile = all_from IsTileTri (map (tri_by at w) ts) (on_new at z w ts (all_to IsTileTri (map (tri_by at z) ts) c.on_tile));
  counter_clockwise = all_from IsCounterClockwise (map (tri_by at w) ts)
      (ccw_new at z w n k m far unit ts (all_to IsCounterClockwise (map (tri_by at z) ts) c.counter_clockwise));
  full = λ s x y h p. held_new at z w n k m far unit s x y ts (c.full s x y h p);
  once = λ s x y h. once_new at z w n k m far unit s x y ts (c.once s x y h);
  one_height = λ s x y h. level_new at z w n k m far unit s x y ts (c.one_height s x y h);
}
