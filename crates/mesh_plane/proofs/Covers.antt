-- Cover of the tile at every scale, from tilings and heights of the corners multiplied by the scale.
use Rattle.std.proofs.Common.{◌≡◌, refl, ap, sym, arith, ◌∙◌, List, [], ◌∷◌, map}
use Rattle.std.specs.Prelude.{ℤ, pos, ◌+ℤ◌, ◌*ℤ◌, ◌≤ℤ◌}
use Rattle.std.specs.List.{AllByRecursion}
use Rattle.std.proofs.lemmas.Int.{ints}
use Rattle.polynomial.proofs.Expressions.{var, add, mul}
use Rattle.polynomial.proofs.NormalForm.{by_ring}
use Rattle.polynomial.proofs.Signs.{times_pos}
use Rattle.mesh_plane.specs.declared.corner.Tri.{Tri}
use Rattle.mesh_plane.specs.Plane.{Point, point, side_of, doubled_area, TriangleHolds}
use Rattle.mesh_plane.specs.Surface.{lift_of, SameHeight}
use Rattle.mesh_plane.specs.Triangles.{Triple}
use Rattle.mesh_plane.specs.Fan.{InRect, InsideRect}
use Rattle.mesh_plane.specs.Cover.{OneHeight, Covers}
use Rattle.mesh_plane.proofs.Turns.{turn, side_scaled}
use Rattle.mesh_plane.proofs.Tilings.{Tiling, area, Within}
use Rattle.mesh_plane.proofs.ListWords.{all_from, pairs_none, pairs_cons}
use Rattle.mesh_plane.proofs.Scales.{corner_of, placed, scaled, area_scaled, holds_in, any_held, once_out, all_ccw}
use Rattle.mesh_plane.proofs.Heights.{lift, Agree, Each, OneLevel, cancelled}
use Rattle.mesh_plane.proofs.OnTile.{all_on_tile}
use Rattle.mesh_plane.proofs.TileSquare.{tile_at}

module _ {A : Type 0} (at : A → Point) (z : A → ℤ) where
  lift_scaled : (s x y : ℤ) (t : Triple A)
      → lift (scaled at z s) z t (point x y) ≡ s *ℤ lift_of (placed at z t) s x y
  lift_scaled s x y t =
      let a = corner_of at z t.a in let b = corner_of at z t.b in let c = corner_of at z t.c in
      let p = point x y in let sc = scaled at z s in
      ap (λ i. (z t.a *ℤ i +ℤ z t.b *ℤ turn (sc t.c) (sc t.a) p) +ℤ z t.c *ℤ turn (sc t.a) (sc t.b) p)
      (sym (side_scaled b c s x y))
      ∙ ap (λ i. (z t.a *ℤ (s *ℤ side_of b c s x y) +ℤ z t.b *ℤ i) +ℤ z t.c *ℤ turn (sc t.a) (sc t.b) p)
      (sym (side_scaled c a s x y))
      ∙ ap (λ i. (z t.a *ℤ (s *ℤ side_of b c s x y) +ℤ z t.b *ℤ (s *ℤ side_of c a s x y)) +ℤ z t.c *ℤ i)
      (sym (side_scaled a b s x y))
      ∙ by_ring
      (add (add (mul (var 0) (mul (var 3) (var 4))) (mul (var 1) (mul (var 3) (var 5))))
      (mul (var 2) (mul (var 3) (var 6))))
      (mul (var 3) (add (add (mul (var 0) (var 4)) (mul (var 1) (var 5))) (mul (var 2) (var 6))))
      (z t.a ∷ z t.b ∷ z t.c ∷ s ∷ side_of b c s x y ∷ side_of c a s x y ∷ side_of a b s x y ∷ []) refl

  module _ (s x y : ℤ) (h : pos 1 ≤ℤ s) where
    same_out : (t u : Triple A) → Agree (scaled at z s) z (point x y) t u
        → SameHeight s x y (placed at z t) (placed at z u)
    same_out t u e =
        let l = lift_of (placed at z t) s x y in let m = lift_of (placed at z u) s x y in
        let d = doubled_area (placed at z t) in let f = doubled_area (placed at z u) in
        cancelled (s *ℤ (s *ℤ s)) (l *ℤ f) (m *ℤ d)
        (times_pos s (s *ℤ s) (omega (arith, ints, h))
        (times_pos s s (omega (arith, ints, h)) (omega (arith, ints, h))))
        (by_ring (mul (mul (var 0) (mul (var 0) (var 0))) (mul (var 1) (var 2)))
        (mul (mul (var 0) (var 1)) (mul (mul (var 0) (var 0)) (var 2))) (s ∷ l ∷ f ∷ []) refl
        ∙ ap (λ i. i *ℤ ((s *ℤ s) *ℤ f)) (sym (lift_scaled s x y t))
        ∙ ap (λ i. lift (scaled at z s) z t (point x y) *ℤ i) (sym (area_scaled at z s u))
        ∙ e
        ∙ ap (λ i. i *ℤ area (scaled at z s) t) (lift_scaled s x y u)
        ∙ ap (λ i. (s *ℤ m) *ℤ i) (area_scaled at z s t)
        ∙ by_ring (mul (mul (var 0) (var 1)) (mul (mul (var 0) (var 0)) (var 2)))
        (mul (mul (var 0) (mul (var 0) (var 0))) (mul (var 1) (var 2))) (s ∷ m ∷ d ∷ []) refl)

    abbrev Same : Tri → Tri → Type 0
    Same t u = TriangleHolds s x y t → TriangleHolds s x y u → SameHeight s x y t u

    each_out : (t : Triple A) (ts : List (Triple A))
        → (Within (scaled at z s) t (point x y)
        → Each (scaled at z s) z (point x y) (Agree (scaled at z s) z (point x y) t) ts)
        → AllByRecursion (Same (placed at z t)) (map (placed at z) ts)
    each_out t [] f = tt
    each_out t (u ∷ us) f = (
      λ i j. same_out t u ((f (holds_in at z s x y h t i)).0 (holds_in at z s x y h u j)),
      each_out t us (λ i. (f i).1),
    )

    pub one_out : (ts : List (Triple A)) → OneLevel (scaled at z s) z (point x y) ts
        → OneHeight s x y (map (placed at z) ts)
    one_out [] o = pairs_none Same
    one_out (t ∷ ts) o =
        pairs_cons Same (placed at z t) (map (placed at z) ts)
        (all_from (Same (placed at z t)) (map (placed at z) ts) (each_out t ts o.0))
        (one_out ts o.1)

  pub covers_at_each_scale : (ts : List (Triple A))
      → ((s : ℤ) → pos 1 ≤ℤ s → Tiling (scaled at z s) (InRect (tile_at s)) (InsideRect (tile_at s)) ts)
      → ((s : ℤ) → pos 1 ≤ℤ s → (p : Point) → OneLevel (scaled at z s) z p ts)
      → Covers (map (placed at z) ts)
  covers_at_each_scale ts tiles levels = record {
    on_tile = all_on_tile at z ts (tiles (pos 1) (omega (arith, ints)));
    counter_clockwise = all_ccw at z ts (tiles (pos 1) (omega (arith, ints))).ccw;
    full = λ s x y h i. any_held at z s x y h ts
        ((tiles s h).full (point x y)
        (record { west = i.west; south = i.south; east = i.east; north = i.north }));
    once = λ s x y h. once_out at z s x y h ts ((tiles s h).once (point x y));
    one_height = λ s x y h. one_out s x y h ts (levels s h (point x y));
  }
