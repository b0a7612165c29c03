-- The mesh follows the heights of its grid.
use Rattle.std.proofs.Common.{◌≡◌, ℕ, ◌<◌, ◌≤◌, refl, ap, sym, ◌∙◌, arith, Bool, true, false, nat_le, List, [], ◌∷◌, map, subst}
use Rattle.std.specs.Prelude.{ℤ, pos, ◌-ℤ◌, ◌*ℤ◌, ◌≤ℤ◌, ◌<ℤ◌, unsigned_abs, All, Any}
use Rattle.std.specs.List.{AllByRecursion}
use Rattle.std.proofs.lemmas.Int.{ints}
use Rattle.std.proofs.lemmas.Bool.{leb-true, leb-false}
use Rattle.common_laws.proofs.Sizes.{near_of_size, size_of_near}
use Rattle.mesh_plane.specs.declared.corner.Tri.{Tri}
use Rattle.mesh_plane.specs.Plane.{doubled_area, TriangleHolds, IsCounterClockwise}
use Rattle.mesh_plane.specs.Surface.{lift_of, HasHeight, Surface}
use Rattle.mesh_plane.specs.Triangles.{Triple}
use Rattle.mesh_plane.proofs.ListWords.{all_from, all_map_from}
use Rattle.mesh_plane.proofs.Scales.{placed}
use Rattle.mesh_plane.proofs.SurfaceLaws.{near_moved}
use Rattle.quad_split.specs.Fits.{Follows}
use Rattle.quad_split.specs.Split.{is_split}
use Rattle.quad_split.proofs.Nodes.{is_node_yes}
use Rattle.terrain_base.specs.Grid as tile
use Rattle.terrain_base.specs.declared.side.Side.{Side}
use Rattle.terrain_base.specs.declared.side.Side.TheVariants.{West, South, East, North}
use Rattle.tile_mesh.specs.declared.point.GridPoint.{GridPoint}
use Rattle.tile_mesh.specs.Mesh.{edge_heights, kept_on, mesh_from, mesh_of_grid}
use Rattle.tile_mesh.specs.Plane.{triangles_in}
use Rattle.tile_mesh.specs.Rule.{leaf_triangles, border_triangles, triangles_of}
use Rattle.tile_mesh.specs.Sides.{grid_point, outer_at}
use Rattle.tile_mesh.specs.Tolerance.{KeepsTolerance}
use Rattle.tile_mesh.proofs.BorderHeights.{border_near}
use Rattle.tile_mesh.proofs.Corners.{triangles_placed}
use Rattle.tile_mesh.proofs.Framing.{triangles_tile, triangles_level}
use Rattle.tile_mesh.proofs.KeptLists.{kept_to_66}
use Rattle.tile_mesh.proofs.LeafHeights.{ShownNear, spot, spot_is, node_near}
use Rattle.tile_mesh.proofs.Made.{mesh_covers}
use Rattle.tile_mesh.proofs.Nearness.{IsShownNear, NearAt, near_left, near_right, all_near, gap_of_near}
use Rattle.tile_mesh.proofs.Placing.{place, height, at}

one : pos 1 ≤ℤ pos 1
one = omega (arith, ints)

by_le : {P : Type 0} (a b : ℕ) → (a ≤ b → P) → (b < a → P) → P
by_le {P} a b f g = go (nat_le a b) refl
  where
    go : (t : Bool) → nat_le a b ≡ t → P
    go true e = f (leb-true a b e)
    go false e = g (leb-false a b e)

module _ (grid : List ℤ) (tol i j : ℕ) (bound : i ≤ 66) (bound' : j ≤ 66) where
  abbrev kept : Side → List ℕ
  kept = kept_on grid tol

  abbrev border : Side → List (Triple GridPoint)
  border side = border_triangles (is_split grid tol) (kept_on grid tol) side

  abbrev all : List (Triple GridPoint)
  all = triangles_of (is_split grid tol) (kept_on grid tol)

  inside : 1 ≤ i → i ≤ 65 → 1 ≤ j → j ≤ 65 → ShownNear grid tol i j (leaf_triangles (is_split grid tol))
  unfolding leaf_triangles
  inside a b c d =
      node_near grid tol i j bound bound' 6 0 0 (is_node_yes 6 0 0 (omega arith) (omega arith))
      (record { west = a; east = b; south = c; north = d })

  -- a point of an edge
  on_edge : (side : Side) (q : ℕ) → q ≤ 66 → outer_at side q ≡ grid_point i j → ShownNear grid tol i j (border side)
  on_edge side q l e =
      subst (λ p. IsShownNear (at grid (pos 1)) (height grid) p (pos tol) (tile.height_in grid i j) (border side)) (spot_is grid tol i j)
      (subst (λ (g : GridPoint). IsShownNear (at grid (pos 1)) (height grid) (at grid (pos 1) g) (pos tol) (height grid g) (border side)) e
      (border_near grid tol side q l))

  in_south : ShownNear grid tol i j (border South) → ShownNear grid tol i j (triangles_of (is_split grid tol) (kept_on grid tol))
  unfolding triangles_of
  in_south s = near_left (at grid (pos 1)) (height grid) (spot grid tol i j) (pos tol) (tile.height_in grid i j) (border South) _ s

  in_east : ShownNear grid tol i j (border East) → ShownNear grid tol i j (triangles_of (is_split grid tol) (kept_on grid tol))
  unfolding triangles_of
  in_east s =
      let a = at grid (pos 1) in let z = height grid in let p = spot grid tol i j in let h = tile.height_in grid i j in
      near_right a z p (pos tol) h (border South) _ (near_left a z p (pos tol) h (border East) _ s)

  in_north : ShownNear grid tol i j (border North) → ShownNear grid tol i j (triangles_of (is_split grid tol) (kept_on grid tol))
  unfolding triangles_of
  in_north s =
      let a = at grid (pos 1) in let z = height grid in let p = spot grid tol i j in let h = tile.height_in grid i j in
      near_right a z p (pos tol) h (border South) _
      (near_right a z p (pos tol) h (border East) _ (near_left a z p (pos tol) h (border North) _ s))

  in_west : ShownNear grid tol i j (border West) → ShownNear grid tol i j (triangles_of (is_split grid tol) (kept_on grid tol))
  unfolding triangles_of
  in_west s =
      let a = at grid (pos 1) in let z = height grid in let p = spot grid tol i j in let h = tile.height_in grid i j in
      near_right a z p (pos tol) h (border South) _ (near_right a z p (pos tol) h (border East) _
      (near_right a z p (pos tol) h (border North) _ (near_left a z p (pos tol) h (border West) _ s)))

  in_leaves : ShownNear grid tol i j (leaf_triangles (is_split grid tol))
      → ShownNear grid tol i j (triangles_of (is_split grid tol) (kept_on grid tol))
  unfolding triangles_of
  in_leaves s =
      let a = at grid (pos 1) in let z = height grid in let p = spot grid tol i j in let h = tile.height_in grid i j in
      near_right a z p (pos tol) h (border South) _ (near_right a z p (pos tol) h (border East) _
      (near_right a z p (pos tol) h (border North) _
      (near_right a z p (pos tol) h (border West) (leaf_triangles (is_split grid tol)) s)))

  point_by : (a b : ℕ) → a ≡ i → b ≡ j → grid_point a b ≡ grid_point i j
  point_by a b e f = ap (λ n. grid_point n b) e ∙ ap (grid_point i) f

  shown : ShownNear grid tol i j (triangles_of (is_split grid tol) (kept_on grid tol))
  shown =
      by_le i 0 (λ a. in_west (on_edge West j bound' (point_by 0 j (omega (arith, a)) refl)))
      (λ a. by_le j 0 (λ b. in_south (on_edge South i bound (point_by i 0 refl (omega (arith, b)))))
      (λ b. by_le i 65
      (λ c. by_le j 65 (λ d. in_leaves (inside (omega (arith, a)) c (omega (arith, b)) d))
      (λ d. in_north (on_edge North i bound (point_by i 66 refl (omega (arith, d, bound'))))))
      (λ c. in_east (on_edge East j bound' (point_by 66 j (omega (arith, c, bound)) refl)))))

  near_all : AllByRecursion (NearAt (at grid (pos 1)) (height grid) (spot grid tol i j) (pos tol) (tile.height_in grid i j))
      (triangles_of (is_split grid tol) (kept_on grid tol))
  near_all =
      let rises = λ (s : Side). kept_to_66 (edge_heights grid s) tol in
      all_near (at grid (pos 1)) (height grid) (spot grid tol i j) (pos tol) (tile.height_in grid i j)
      (triangles_of (is_split grid tol) (kept_on grid tol))
      (triangles_tile grid (pos 1) one tol (kept_on grid tol) rises).ccw
      (triangles_level grid (pos 1) one tol (kept_on grid tol) rises (spot grid tol i j)) shown

module _ (grid : List ℤ) (tol : ℕ) where
  abbrev IsNearAt : ℕ → ℕ → Triple GridPoint → Type 0
  IsNearAt i j t = NearAt (at grid (pos 1)) (height grid) (spot grid tol i j) (pos tol) (tile.height_in grid i j) t

  follow_each : (ts : List (Triple GridPoint)) → ((i j : ℕ) → i ≤ 66 → j ≤ 66 → AllByRecursion (IsNearAt i j) ts)
      → AllByRecursion (λ t. Follows grid tol (placed place (height grid) t)) ts
  follow_each [] f = tt
  follow_each (t ∷ ts) f = (
    (λ i j l m holds.
        gap_of_near place (height grid) (pos (tile.line_position i)) (pos (tile.line_position j)) (pos tol) (tile.height_in grid i j) t
        (f i j l m).0 holds),
    follow_each ts (λ i j l m. (f i j l m).1),
  )

  all_follow : All (Follows grid tol) (triangles_in (mesh_from grid (triangles_of (is_split grid tol) (kept_on grid tol))))
  all_follow =
      let ts = triangles_of (is_split grid tol) (kept_on grid tol) in
      subst (λ (us : List Tri). All (Follows grid tol) us) (sym (triangles_placed grid ts))
      (all_from (Follows grid tol) (map (placed place (height grid)) ts)
      (all_map_from (Follows grid tol) (placed place (height grid)) ts
      (follow_each ts (λ i j l m. near_all grid tol i j l m))))

  -- a surface over triangles that follow the grid
  surface_near : (ts : List Tri) → All IsCounterClockwise ts → All (Follows grid tol) ts → (i j : ℕ) → i ≤ 66 → j ≤ 66
      → (over under : ℤ) → Surface ts (pos 1) (pos (tile.line_position i)) (pos (tile.line_position j)) over under
      → pos (unsigned_abs (over -ℤ tile.height_in grid i j *ℤ under)) ≤ℤ (pos tol *ℤ under)
  surface_near ts c f i j l m over under s = go s.shown
    where
      go : Any (λ t. TriangleHolds (pos 1) (pos (tile.line_position i)) (pos (tile.line_position j)) t
          × HasHeight (pos 1) (pos (tile.line_position i)) (pos (tile.line_position j)) over under t) ts
          → pos (unsigned_abs (over -ℤ tile.height_in grid i j *ℤ under)) ≤ℤ (pos tol *ℤ under)
      go (k, t, lt, e, (holds, level)) =
          let h = tile.height_in grid i j in let d = pos 1 *ℤ doubled_area t in
          let lift = lift_of t (pos 1) (pos (tile.line_position i)) (pos (tile.line_position j)) in
          let follows : Follows grid tol t = subst (λ (u : Tri). Follows grid tol u) e (f k t lt) in
          let area : pos 0 <ℤ doubled_area t = subst (λ (u : Tri). IsCounterClockwise u) e (c k t lt) in
          let near = near_of_size (lift -ℤ h *ℤ d) (pos tol *ℤ d) (follows i j l m holds) in
          let n = near_moved (pos tol) h d lift under over (omega (arith, ints, area)) s.above_zero (sym level)
          (record { above = near.0; below = omega (arith, ints, near.1) }) in
          size_of_near (over -ℤ h *ℤ under) (pos tol *ℤ under) n.above (omega (arith, ints, n.below))

pub mesh_keeps_tolerance : (grid : List ℤ) (z : ℕ) → KeepsTolerance grid (tile.tolerance_of z) (mesh_of_grid grid z)
unfolding mesh_of_grid
mesh_keeps_tolerance grid z =
    let tol = tile.tolerance_of z in let follow = all_follow grid tol in
    record {
      planes = follow;
      surface = λ i j l m over under s.
          surface_near grid tol (triangles_in (mesh_of_grid grid z)) (mesh_covers grid z).counter_clockwise follow i j l m over
          under s;
    }
