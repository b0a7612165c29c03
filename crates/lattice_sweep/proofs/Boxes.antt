-- A triangle holds nothing outside the box of its corners.
use Rattle.std.proofs.Common.{◌≡◌, ℕ, arith, subst, sym}
use Rattle.std.specs.Prelude.{ℤ, pos, ◌*ℤ◌, ◌≤ℤ◌}
use Rattle.std.specs.Int.{int_min, int_max}
use Rattle.std.proofs.lemmas.Int.{ints, clamps}
use Rattle.terrain_base.specs.declared.cell_key.CellKey.{CellKey}
use Rattle.cell_mosaic.specs.Cells.{Cells, Shapes}
use Rattle.mesh_plane.specs.declared.corner.Tri.{Tri}
use Rattle.mesh_plane.specs.Plane.{TriangleHolds, point}
use Rattle.mesh_plane.specs.SurfaceLaw.{IsTriIn}
use Rattle.mesh_plane.specs.Fan.{Rect, grown, InRect}
use Rattle.mesh_plane.proofs.SurfaceLaws.{surface_law}
use Rattle.lattice_sweep.specs.declared.axis.Axis.{Axis}
use Rattle.lattice_sweep.specs.Axis.{point_of, IsAxis, IsOnSide, IsCut}
use Rattle.lattice_sweep.specs.Plane.{IsTerrainTri}
use Rattle.lattice_sweep.specs.Sweep.{HasPosts, HeldGap, InWindow}

abbrev min3 : ℤ → ℤ → ℤ → ℤ
min3 a b c = int_min (int_min a b) c

abbrev max3 : ℤ → ℤ → ℤ → ℤ
max3 a b c = int_max (int_max a b) c

min3_is : (a b c : ℤ) → (min3 a b c ≤ℤ a) × (min3 a b c ≤ℤ b) × (min3 a b c ≤ℤ c)
min3_is a b c = (omega (arith, ints, clamps), omega (arith, ints, clamps), omega (arith, ints, clamps))

max3_is : (a b c : ℤ) → (a ≤ℤ max3 a b c) × (b ≤ℤ max3 a b c) × (c ≤ℤ max3 a b c)
max3_is a b c = (omega (arith, ints, clamps), omega (arith, ints, clamps), omega (arith, ints, clamps))

abbrev box_of : Tri → Rect
box_of t = record {
  west = min3 t.a.u t.b.u t.c.u;
  south = min3 t.a.v t.b.v t.c.v;
  east = max3 t.a.u t.b.u t.c.u;
  north = max3 t.a.v t.b.v t.c.v;
}

in_box : (t : Tri) → IsTriIn (box_of t) t
in_box t =
    let w = min3_is t.a.u t.b.u t.c.u in let s = min3_is t.a.v t.b.v t.c.v in
    let e = max3_is t.a.u t.b.u t.c.u in let n = max3_is t.a.v t.b.v t.c.v in record {
      a = record { west = w.0; south = s.0; east = e.0; north = n.0 };
      b = record { west = w.1; south = s.1; east = e.1; north = n.1 };
      c = record { west = w.2; south = s.2; east = e.2; north = n.2 };
    }

held_in : (t : Tri) (u v : ℤ) → IsTerrainTri t → TriangleHolds (pos 10125) u v t → InRect (grown (pos 10125) (box_of t)) (point u v)
held_in t u v is h = surface_law.box (box_of t) t (pos 10125) u v is.counter_clockwise (in_box t) h

pub side_cut : (a b : Axis) (low high : ℤ) → IsOnSide a → IsCut a low high b → IsAxis b → IsOnSide b
side_cut a b low high s c axis = record {
  axis = axis;
  least = λ i h. subst (λ (z : ℤ). pos 0 ≤ℤ z) (sym (c.points i)) (s.least i ((c.numbers i).0 h).0);
  greatest = λ i h. subst (λ (z : ℤ). z ≤ℤ pos 331765875) (sym (c.points i)) (s.greatest i ((c.numbers i).0 h).0);
}

pub posts_cut : (shapes : Shapes) (key : CellKey) (east north e n : Axis) (lu hu lv hv : ℤ) → IsCut east lu hu e → IsCut north lv hv n
    → HasPosts shapes key east north → HasPosts shapes key e n
posts_cut shapes key east north e n lu hu lv hv c d h = λ col row i j. h col row ((c.numbers col).0 i).0 ((d.numbers row).0 j).0

module _ (cells : Cells) (key : CellKey) (t : Tri) (east north e n : Axis) (is : IsTerrainTri t) (lu hu lv hv : ℤ)
    (wlu : lu ≡ pos 10125 *ℤ int_min (int_min t.a.u t.b.u) t.c.u) (whu : hu ≡ pos 10125 *ℤ int_max (int_max t.a.u t.b.u) t.c.u)
    (wlv : lv ≡ pos 10125 *ℤ int_min (int_min t.a.v t.b.v) t.c.v) (whv : hv ≡ pos 10125 *ℤ int_max (int_max t.a.v t.b.v) t.c.v)
    (c : IsCut east lu hu e) (d : IsCut north lv hv n) where
  at_same : (col row gap : ℕ) → HeldGap cells key col row t (point_of e col) (point_of n row) gap
      → HeldGap cells key col row t (point_of east col) (point_of north row) gap
  at_same col row gap h =
      subst (λ (x : ℤ). HeldGap cells key col row t x (point_of north row) gap) (c.points col)
      (subst (λ (y : ℤ). HeldGap cells key col row t (point_of e col) y gap) (d.points row) h)

  at_cut : (col row gap : ℕ) → HeldGap cells key col row t (point_of east col) (point_of north row) gap
      → HeldGap cells key col row t (point_of e col) (point_of n row) gap
  at_cut col row gap h =
      subst (λ (x : ℤ). HeldGap cells key col row t x (point_of n row) gap) (sym (c.points col))
      (subst (λ (y : ℤ). HeldGap cells key col row t (point_of east col) y gap) (sym (d.points row)) h)

  pub from_cut : (gap : ℕ) → InWindow cells key t e n e.to gap → InWindow cells key t east north east.to gap
  from_cut gap i =
      let has = ((c.numbers i.col).0 i.has_col).0 in record {
        col = i.col;
        row = i.row;
        has_col = has;
        has_row = ((d.numbers i.row).0 i.has_row).0;
        before = has.to;
        here = at_same i.col i.row gap i.here;
      }

  pub to_cut : (gap : ℕ) → InWindow cells key t east north east.to gap → InWindow cells key t e n e.to gap
  to_cut gap i =
      let b = held_in t (point_of east i.col) (point_of north i.row) is i.here.held in
      let x = point_of east i.col in let y = point_of north i.row in
      let has = (c.numbers i.col).1 (i.has_col, (subst (λ (z : ℤ). z ≤ℤ x) (sym wlu) b.west, subst (λ (z : ℤ). x ≤ℤ z) (sym whu) b.east)) in record {
        col = i.col;
        row = i.row;
        has_col = has;
        has_row = (d.numbers i.row).1 (i.has_row, (subst (λ (z : ℤ). z ≤ℤ y) (sym wlv) b.south, subst (λ (z : ℤ). y ≤ℤ z) (sym whv) b.north));
        before = has.to;
        here = at_cut i.col i.row gap i.here;
      }
