-- The triangles of a grid tile the square of the tile, and have one height at each point, at each scale.
use Rattle.std.proofs.Common.{◌≡◌, ℕ, refl, ap, sym, ◌∙◌, arith, Bool, List, ◌++◌, map, subst}
use Rattle.std.specs.Prelude.{ℤ, pos, ◌*ℤ◌, ◌≤ℤ◌, ◌<ℤ◌}
use Rattle.std.proofs.lemmas.Int.{ints}
use Rattle.mesh_plane.specs.Plane.{Point}
use Rattle.mesh_plane.specs.Triangles.{Triple}
use Rattle.mesh_plane.specs.Fan.{Rect, InRect, InsideRect}
use Rattle.mesh_plane.specs.Cover.{Covers}
use Rattle.mesh_plane.proofs.Tilings.{Tiling}
use Rattle.mesh_plane.proofs.Frames.{SectorOf, OpenSectorOf, IsInner}
use Rattle.mesh_plane.proofs.StripFrames.{Corners, AreAt, inner_corner, run_from, side_list, SideRuns, side_strip, framed}
use Rattle.mesh_plane.proofs.FrameHeights.{frame_one}
use Rattle.mesh_plane.proofs.Heights.{OneLevel}
use Rattle.mesh_plane.proofs.Edges.{Edge, Shows, chain}
use Rattle.mesh_plane.proofs.Quads.{box, leaves_tile}
use Rattle.mesh_plane.proofs.QuadHeights.{Even, leaves_even}
use Rattle.mesh_plane.proofs.Scales.{placed}
use Rattle.mesh_plane.proofs.Covers.{covers_at_each_scale}
use Rattle.mesh_plane.proofs.TileSquare.{tile_at}
use Rattle.quad_split.specs.Split.{is_split}
use Rattle.quad_split.specs.Midpoints.{is_south_broken, is_west_broken, midpoints_of}
use Rattle.quad_split.proofs.Fairness.{Inside, split_is_fair}
use Rattle.quad_split.proofs.Nodes.{is_node_yes}
use Rattle.terrain_base.specs.declared.side.Side.{Side}
use Rattle.terrain_base.specs.declared.side.Side.TheVariants.{West, South, East, North}
use Rattle.tile_mesh.specs.declared.point.GridPoint.{GridPoint}
use Rattle.tile_mesh.specs.Kept.{RisesTo66}
use Rattle.tile_mesh.specs.Rule.{border_split, leaf_ends, inner_points, leaf_triangles, border_triangles, triangles_of}
use Rattle.tile_mesh.specs.Sides.{grid_point, inner_at}
use Rattle.tile_mesh.proofs.BorderLines.{ends_rise}
use Rattle.tile_mesh.proofs.Borders.{south_line, west_line, north_line, east_line}
use Rattle.tile_mesh.proofs.Placing.{place, height, at, line, line_up}
use Rattle.tile_mesh.proofs.StripRuns.{IsStrip, strip_is}

-- the corners of the tile and of the quadtree's square
abbrev pub frame_corners : Corners GridPoint
frame_corners = record {
  south_west = grid_point 0 0;
  south_east = grid_point 66 0;
  north_east = grid_point 66 66;
  north_west = grid_point 0 66;
  inner_south_west = grid_point 1 1;
  inner_south_east = grid_point 65 1;
  inner_north_east = grid_point 65 65;
  inner_north_west = grid_point 1 65;
}

module _ (grid : List ℤ) (s : ℤ) (h : pos 1 ≤ℤ s) where
  abbrev pub outer_box : Rect
  outer_box = box (line grid s 0) (line grid s 0) (line grid s 66) (line grid s 66)

  abbrev pub inner_box : Rect
  inner_box = box (line grid s 1) (line grid s 1) (line grid s 65) (line grid s 65)

  at_corners : AreAt (at grid s) outer_box inner_box frame_corners
  at_corners = record {
    south_west = refl;
    south_east = refl;
    north_east = refl;
    north_west = refl;
    inner_south_west = refl;
    inner_south_east = refl;
    inner_north_east = refl;
    inner_north_west = refl;
  }

  inner_wide : line grid s 1 <ℤ line grid s 65
  inner_wide = line_up grid s h 1 65 (omega arith)

  is_inner : IsInner outer_box inner_box
  is_inner =
      let a = line_up grid s h 0 1 (omega arith) in let b = line_up grid s h 65 66 (omega arith) in
      record {
        west = a;
        south = a;
        east = b;
        north = b;
        wide = omega (arith, ints, inner_wide);
        high = omega (arith, ints, inner_wide);
      }

  -- strips along the four sides, with the inner points of each, and what tiles the square between them
  module _ (ends : Side → List ℕ) (strips : Side → List (Triple GridPoint)) (qs : List (Triple GridPoint))
      (i : (side : Side) → IsStrip grid s h side (ends side) (strips side))
      (hq : Tiling (at grid s) (InRect inner_box) (InsideRect inner_box) qs) where
    runs : (side : Side)
        → SideRuns (at grid s) outer_box inner_box is_inner frame_corners at_corners side (i side).first (i side).rest
    runs South = (i South).runs
    runs East = (i East).runs
    runs North = (i North).runs
    runs West = (i West).runs

    abbrev side_at : Side → List (Triple GridPoint)
    side_at side =
        side_list (at grid s) outer_box inner_box is_inner frame_corners at_corners side (i side).first (i side).rest

    tiled : (side : Side)
        → Tiling (at grid s) (SectorOf outer_box inner_box side) (OpenSectorOf outer_box inner_box side) (side_at side)
    tiled side =
        side_strip (at grid s) outer_box inner_box is_inner frame_corners at_corners side (i side).first (i side).rest
        (runs side)

    pub frame_tiles : Tiling (at grid s) (InRect outer_box) (InsideRect outer_box)
        (strips South ++ (strips East ++ (strips North ++ (strips West ++ qs))))
    frame_tiles =
        rw ((i South).list, (i East).list, (i North).list, (i West).list)
        (framed (at grid s) outer_box inner_box is_inner frame_corners at_corners (side_at South) (side_at East)
        (side_at North) (side_at West) qs (tiled South) (tiled East) (tiled North) (tiled West) hq)

    -- the inner line of a strip, where its points are known
    abbrev line_at : Side → List GridPoint → List (Edge GridPoint)
    line_at side ps = chain (inner_corner frame_corners (run_from side)) ps

    pub frame_levels : (p : Point) → OneLevel (at grid s) (height grid) p qs
        → ((side : Side) → Shows (at grid s) (height grid) (line_at side (map (inner_at side) (ends side))) qs)
        → OneLevel (at grid s) (height grid) p (strips South ++ (strips East ++ (strips North ++ (strips West ++ qs))))
    frame_levels p oq shown =
        rw ((i South).list, (i East).list, (i North).list, (i West).list)
        (frame_one (at grid s) (height grid) outer_box inner_box is_inner inner_wide inner_wide frame_corners at_corners
        (λ side. (i side).first) (λ side. (i side).rest) runs p qs hq oq
        (λ side. subst (λ (ps : List GridPoint). Shows (at grid s) (height grid) (line_at side ps) qs)
        (sym (i side).line) (shown side)))

  -- the square at the scale
  box_is : outer_box ≡ tile_at s
  box_is =
      let a : line grid s 0 ≡ pos 0 = omega (arith, ints) in
      let b : line grid s 66 ≡ pos 32767 *ℤ s = omega (arith, ints) in
      ap (λ (x : ℤ). box x x (line grid s 66) (line grid s 66)) a ∙ ap (λ (x : ℤ). box (pos 0) (pos 0) x x) b

  module _ (tol : ℕ) (kept : Side → List ℕ) (rises : (side : Side) → RisesTo66 (kept side)) where
    abbrev split : ℕ → ℕ → ℕ → Bool
    split = is_split grid tol

    -- the strips
    pub border_is : (side : Side) → IsStrip grid s h side (leaf_ends (border_split (is_split grid tol) side) 6 0)
        (border_triangles (is_split grid tol) kept side)
    unfolding border_triangles inner_points
    border_is side =
        strip_is grid s h side (kept side) (leaf_ends (border_split (is_split grid tol) side) 6 0) (rises side)
        (ends_rise (border_split (is_split grid tol) side) 6 0)

    -- the leaves
    pub leaves_tiled : Tiling (at grid s) (InRect inner_box) (InsideRect inner_box) (leaf_triangles (is_split grid tol))
    unfolding leaf_triangles
    leaves_tiled =
        leaves_tile (at grid s) grid_point (line grid s) (line_up grid s h) (λ i j. refl) (is_split grid tol)
        (midpoints_of (is_split grid tol)) 6 0 0

    abbrev EvenLeaves : Type 0
    EvenLeaves =
        Even (at grid s) grid_point (line grid s) (line_up grid s h) (λ i j. refl) (is_south_broken (is_split grid tol))
        (is_west_broken (is_split grid tol)) (height grid) 6 0 0 (leaf_triangles (is_split grid tol))

    leaves_even_at : EvenLeaves
    unfolding leaf_triangles
    leaves_even_at =
        leaves_even (at grid s) grid_point (line grid s) (line_up grid s h) (λ i j. refl)
        (is_south_broken (is_split grid tol)) (is_west_broken (is_split grid tol)) (height grid) (is_split grid tol)
        (midpoints_of (is_split grid tol)) Inside (split_is_fair grid tol) 5 0 0
        (is_node_yes 6 0 0 (omega arith) (omega arith))

    pub triangles_tile : Tiling (at grid s) (InRect (tile_at s)) (InsideRect (tile_at s)) (triangles_of (is_split grid tol) kept)
    unfolding triangles_of
    triangles_tile =
        subst (λ (r : Rect). Tiling (at grid s) (InRect r) (InsideRect r) (triangles_of (is_split grid tol) kept)) box_is
        (frame_tiles _ _ _ border_is leaves_tiled)

    leaves_show : (side : Side) → Shows (at grid s) (height grid)
        (chain (inner_corner frame_corners (run_from side))
        (map (inner_at side) (leaf_ends (border_split (is_split grid tol) side) 6 0)))
        (leaf_triangles (is_split grid tol))
    leaves_show South = rw (south_line grid tol) leaves_even_at.south
    leaves_show East = rw (east_line grid tol) leaves_even_at.east
    leaves_show North = rw (north_line grid tol) leaves_even_at.north
    leaves_show West = rw (west_line grid tol) leaves_even_at.west

    pub triangles_level : (p : Point) → OneLevel (at grid s) (height grid) p (triangles_of (is_split grid tol) kept)
    unfolding triangles_of
    triangles_level p = frame_levels _ _ _ border_is leaves_tiled p (leaves_even_at.one p) leaves_show

-- the triangles of a grid cover the tile
pub triangles_cover : (grid : List ℤ) (tol : ℕ) (kept : Side → List ℕ) → ((side : Side) → RisesTo66 (kept side))
    → Covers (map (placed place (height grid)) (triangles_of (is_split grid tol) kept))
triangles_cover grid tol kept rises =
    covers_at_each_scale place (height grid) (triangles_of (is_split grid tol) kept)
    (λ s h. triangles_tile grid s h tol kept rises) (λ s h p. triangles_level grid s h tol kept rises p)
