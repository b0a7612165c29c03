-- What a triangle over grid points holds lies in the window of its corners.
use Rattle.std.proofs.Common.{ℕ, ◌+◌, ◌-◌, ◌≤◌, ◌≡◌, arith, List}
use Rattle.std.specs.Prelude.{ℤ, pos, ◌≤ℤ◌}
use Rattle.std.proofs.lemmas.Int.{ints}
use Rattle.terrain_base.specs.Grid.{height_in}
use Rattle.terrain_base.specs.Height.{IsHeight}
use Rattle.mesh_plane.specs.declared.corner.Tri.{Tri}
use Rattle.mesh_plane.specs.Fan.{Rect, grown, InRect}
use Rattle.mesh_plane.specs.Plane.{point, IsOnTile, IsCounterClockwise}
use Rattle.mesh_plane.specs.SurfaceLaw.{IsTriIn}
use Rattle.mesh_plane.proofs.SurfaceLaws.{surface_law}
use Rattle.quad_split.specs.Fits.{HoldsPoint, follows_rows, follows}
use Rattle.quad_split.specs.Window.{IsInWindow, IsOnGrid, IsTriOf, IsWindow, corner_at, grid_point, tri_at}
use Rattle.quad_split.specs.declared.triangle.GridPoint.{GridPoint}
use Rattle.quad_split.specs.declared.triangle.Window.{Window}
use Rattle.quad_split.proofs.FanTriangles.{place, back}
use Rattle.quad_split.proofs.Meanings.{same_value, square_test, all_test}

forth : (i j : ℕ) → i ≤ j → place i ≤ℤ place j
forth i j h = omega (arith, ints)

pub on_tile : (heights : List ℤ) (p : GridPoint) → IsOnGrid p → IsOnTile (corner_at heights p)
on_tile heights p h = record {
  west = omega (arith, ints);
  east = omega (arith, ints, h.column);
  south = omega (arith, ints);
  north = omega (arith, ints, h.row);
}

abbrev box : Window → Rect
box window = record {
  west = place window.west;
  south = place window.south;
  east = place window.east;
  north = place window.north;
}

in_box : (window : Window) (p : GridPoint) → IsInWindow window p → InRect (box window) (point (place p.i) (place p.j))
in_box window p h = record {
  west = forth window.west p.i h.west;
  south = forth window.south p.j h.south;
  east = forth p.i window.east h.east;
  north = forth p.j window.north h.north;
}

module _ (heights : List ℤ) (window : Window) (a b c : GridPoint) (in_a : IsInWindow window a) (in_b : IsInWindow window b)
    (in_c : IsInWindow window c) (ccw : IsCounterClockwise (tri_at heights a b c)) where
  held : (i j : ℕ) → HoldsPoint (tri_at heights a b c) i j → InRect (grown (pos 1) (box window)) (point (place i) (place j))
  held i j h =
      let corners : IsTriIn (box window) (tri_at heights a b c) =
      record { a = in_box window a in_a; b = in_box window b in_b; c = in_box window c in_c } in
      surface_law.box (box window) (tri_at heights a b c) (pos 1) (place i) (place j) ccw corners h

  pub is_within : (i j : ℕ) → HoldsPoint (tri_at heights a b c) i j → IsInWindow window (grid_point i j)
  is_within i j h =
      let r = held i j h in record {
        west = back window.west i (omega (arith, ints, r.west));
        east = back i window.east (omega (arith, ints, r.east));
        south = back window.south j (omega (arith, ints, r.south));
        north = back j window.north (omega (arith, ints, r.north));
      }

  pub is_in_window : IsOnGrid a → IsOnGrid b → IsOnGrid c → IsHeight (height_in heights a.i a.j)
      → IsHeight (height_in heights b.i b.j) → IsHeight (height_in heights c.i c.j)
      → IsTriOf window (tri_at heights a b c)
  is_in_window on_a on_b on_c high_a high_b high_c = record {
    tile = record { a = on_tile heights a on_a; b = on_tile heights b on_b; c = on_tile heights c on_c };
    heights = record { a = high_a; b = high_b; c = high_c };
    counter_clockwise = ccw;
    west = λ i j f g h. (is_within i j h).west;
    east = λ i j f g h. (is_within i j h).east;
    south = λ i j f g h. (is_within i j h).south;
    north = λ i j f g h. (is_within i j h).north;
  }

-- a triangle that holds no grid point outside the window follows all where it follows those in the window
pub in_window : (grid : List ℤ) (tol : ℕ) (window : Window) (t : Tri) → IsWindow window → IsTriOf window t
    → follows_rows grid tol t window.west window.south (window.east + 1 - window.west) (window.north + 1 - window.south)
    ≡ follows grid tol t
in_window grid tol window t w h =
    let m = window.east + 1 - window.west in let n = window.north + 1 - window.south in
    let f = square_test grid tol t window.west window.south m n in
    same_value (follows_rows grid tol t window.west window.south m n) (follows grid tol t) (
      λ r i j a b c. f.0 r i j (h.west i j a b c) (omega (arith, h.east i j a b c, w.columns)) (h.south i j a b c)
          (omega (arith, h.north i j a b c, w.rows)) c,
      λ g. f.1 (λ i j a b c d e. g i j (omega (arith, w.east, w.columns)) (omega (arith, w.north, w.rows)) e),
    )
    (all_test grid tol t)
