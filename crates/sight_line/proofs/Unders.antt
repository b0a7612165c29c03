-- A height of the surface at a fraction of the way shows whether the line is below the surface there.
use Rattle.std.proofs.Common.{refl, ap, arith, ◌∙◌, List, [], ◌∷◌}
use Rattle.std.specs.Prelude.{ℤ, pos, ◌+ℤ◌, ◌-ℤ◌, ◌*ℤ◌, ◌<ℤ◌}
use Rattle.std.proofs.lemmas.Int.{ints}
use Rattle.polynomial.proofs.Expressions.{var, add, sub, mul}
use Rattle.polynomial.proofs.NormalForm.{by_ring}
use Rattle.mesh_plane.specs.declared.corner.Tri.{Tri}
use Rattle.mesh_plane.specs.Plane.{Point}
use Rattle.mesh_plane.specs.Cover.{Covers}
use Rattle.mesh_plane.proofs.Surfaces.{surface_one}
use Rattle.mesh_query.specs.declared.ratio.Ratio.{Ratio}
use Rattle.mesh_query.specs.Ratios.{IsFraction, IsSame, IsBelow}
use Rattle.mesh_query.specs.Way.{way, SurfaceAt}
use Rattle.mesh_query.proofs.Listings.{below_same}
use Rattle.mesh_query.proofs.SideHeights.{same_law}
use Rattle.sight_line.specs.Sight.{line_at, IsClear, IsUnder}

-- the line has one height at one place
pub line_same : (a b : ℤ) (k m : Ratio) → IsSame k m → IsSame (line_at a b k) (line_at a b m)
line_same a b k m e =
    by_ring (mul (add (mul (sub (var 1) (var 0)) (var 3)) (mul (var 0) (var 4))) (var 2))
    (add (mul (mul (var 1) (var 2)) (var 3)) (mul (mul (var 0) (var 2)) (sub (var 4) (var 3))))
    (k.over ∷ k.under ∷ m.under ∷ a ∷ b ∷ []) refl
    ∙ ap (λ z. (k.under *ℤ m.under) *ℤ a +ℤ z *ℤ (b -ℤ a)) e
    ∙ by_ring (add (mul (mul (var 1) (var 2)) (var 3)) (mul (mul (var 0) (var 1)) (sub (var 4) (var 3))))
    (mul (add (mul (sub (var 2) (var 0)) (var 3)) (mul (var 0) (var 4))) (var 1))
    (m.over ∷ k.under ∷ m.under ∷ a ∷ b ∷ []) refl

above : (k : Ratio) → IsFraction k → pos 0 <ℤ k.under
above k f = omega (arith, ints, f.above_zero)

module _ (ts : List Tri) (p q : Point) (a b : ℤ) where
  -- where the line is below the surface, it is below each height that the surface has at the place
  pub under_at : (k m h : Ratio) → Covers ts → IsFraction k → IsFraction m → IsSame k m → SurfaceAt ts p q m h
      → IsUnder ts p a q b k → IsBelow (line_at a b m) h
  under_at k m h cover f g e s u =
      let moved : SurfaceAt ts p q m u.height =
      same_law ts p q k m u.height u.height (above k f) (above m g) u.surface.above_zero e refl u.surface in
      let one : IsSame u.height h =
      surface_one m.under (way p q m).u (way p q m).v u.height.over u.height.under h.over h.under g.above_zero ts cover
      moved s in
      below_same (line_at a b k) (line_at a b m) u.height h (above k f) (above m g) u.surface.above_zero s.above_zero
      (line_same a b k m e) one u.below

  -- where sight is clear, it is below none
  pub not_below : (k h : Ratio) → IsClear ts p a q b → IsFraction k → SurfaceAt ts p q k h
      → IsBelow (line_at a b k) h → ⊥
  not_below k h c f s l = omega (arith, ints, c k h f s, l)
