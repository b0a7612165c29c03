-- One triangle after another.
use Rattle.std.proofs.Common.{◌≡◌, ℕ, ◌+◌, ◌≤◌, ◌<◌, arith, sym, subst, ap, ◌∙◌, List, length, get_or, inl, inr}
use Rattle.std.specs.Prelude.{ℤ, pos, ◌≤ℤ◌, All}
use Rattle.std.proofs.lemmas.Int.{ints}
use Rattle.std.proofs.lemmas.List.{get_or_default}
use Rattle.common_laws.proofs.Orders.{by_last}
use Rattle.polynomial.proofs.Signs.{times_pos, weaken}
use Rattle.terrain_base.specs.declared.cell_key.CellKey.{CellKey}
use Rattle.cell_mosaic.specs.Cells.{Cells}
use Rattle.mesh_plane.specs.declared.corner.Tri.{Tri}
use Rattle.mesh_plane.specs.Plane.{doubled_area}
use Rattle.mesh_plane.specs.Surface.{gap_under}
use Rattle.lattice_sweep.specs.declared.axis.Axis.{Axis}
use Rattle.lattice_sweep.specs.Plane.{IsTerrainTri}
use Rattle.lattice_sweep.specs.Bound.{GapIn, IsRaisedBound}
use Rattle.lattice_sweep.proofs.Bounds.{bounds_both, bounds_same}
use Rattle.post_bound.specs.Window.{OfTriangles}

module _ (cells : Cells) (key : CellKey) (ts : List Tri) (east north : Axis) where
  pub one_triangle : (n : ℕ) (d : Tri) {a b c : ℕ} → n < length ts → All IsTerrainTri ts
      → IsRaisedBound (OfTriangles cells key ts east north n) a b
      → IsRaisedBound (GapIn cells key (get_or ts n d) east north) b c
      → IsRaisedBound (OfTriangles cells key ts east north (n + 1)) a c
  one_triangle n d has all r s =
      bounds_both
      (λ g u i. record { tri = i.tri; index = i.index; before = let b = i.before in omega arith; has = i.has; is = i.is; here = i.here })
      (λ g u i. record { tri = get_or ts n d; index = n; before = omega arith; has = has; is = get_or_default ts n (get_or ts n d) d has; here = i })
      (λ g u i. by_last i.index n i.before
      (λ l. inl (record { tri = i.tri; index = i.index; before = l; has = i.has; is = i.is; here = i.here }))
      (λ l. inr (subst (λ (t : Tri). GapIn cells key t east north g u)
      (sym i.is ∙ get_or_default ts i.index i.tri d i.has ∙ same_at i.index n d l) i.here)))
      (λ g u i. subst (λ (z : ℤ). pos 0 ≤ℤ z) (sym i.here.area) (area_least i.index i.tri i.has i.is all))
      r s
    where
      same_at : (i k : ℕ) (e : Tri) → i ≡ k → get_or ts i e ≡ get_or ts k e
      same_at i k e h = ap (λ (x : ℕ). get_or ts x e) h

      area_least : (i : ℕ) (t : Tri) → i < length ts → get_or ts i t ≡ t → All IsTerrainTri ts
          → pos 0 ≤ℤ gap_under t (pos 10125)
      area_least i t h e every =
          let k : IsTerrainTri t = subst IsTerrainTri e (every i t h) in
          weaken (times_pos (pos 10125) (doubled_area t) (omega (arith, ints)) k.counter_clockwise)

  pub every_triangle : (n : ℕ) {a b : ℕ} → length ts ≤ n → IsRaisedBound (OfTriangles cells key ts east north n) a b
      → IsRaisedBound (OfTriangles cells key ts east north (length ts)) a b
  every_triangle n h r =
      bounds_same (λ g u i. record { tri = i.tri; index = i.index; before = i.has; has = i.has; is = i.is; here = i.here })
      (λ g u i. record { tri = i.tri; index = i.index; before = let b = i.before in omega arith; has = i.has; is = i.is; here = i.here }) r
