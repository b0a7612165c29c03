-- The two files of a tile are good.
use Rattle.std.proofs.Common.{◌≡◌, ℕ, ◌^◌, ◌<◌, ◌≤◌, arith, refl, sym, ap, ◌∙◌, subst, List, [], ◌∷◌, map, length, All}
use Rattle.std.specs.Prelude.{ℤ, pos, ◌-ℤ◌, ◌*ℤ◌, ◌≤ℤ◌, unsigned_abs, Option, Some, None, IfSome}
use Rattle.std.specs.List.{AllByRecursion}
use Rattle.std.proofs.lemmas.List.{length-map}
use Rattle.terrain_base.specs.declared.tile.TileId.{TileId}
use Rattle.terrain_base.specs.Grid.{IsGrid, tolerance_of}
use Rattle.cell_mosaic.specs.Cells.{Cells}
use Rattle.resample.specs.Height.{grid_of}
use Rattle.resample.proofs.Grids.{grid_has_heights}
use Rattle.mesh_plane.specs.declared.corner.Tri.{Tri}
use Rattle.mesh_plane.specs.Cover.{Covers}
use Rattle.ecef_boxes.specs.declared.ecef_box.EcefBox.{EcefBox}
use Rattle.bound_spheres.specs.Sphere.{IsReached, IsSmall, sphere_of}
use Rattle.height_lattice.specs.declared.height_frame.HeightFrame.{HeightFrame}
use Rattle.tile_mesh.specs.declared.point.MeshPoint.{MeshPoint}
use Rattle.tile_mesh.specs.Mesh.{Mesh, mesh_of_grid}
use Rattle.tile_mesh.specs.Plane as plane
use Rattle.tile_mesh.specs.Tolerance.{KeepsTolerance}
use Rattle.tile_mesh.proofs.Made.{mesh_covers}
use Rattle.tile_mesh.proofs.Following.{mesh_keeps_tolerance}
use Rattle.bound_spheres.specs.Horizon.{IsHidden, IsLeastHidden}
use Rattle.tile_rule.specs.Tile.{frame_in, codes_of, coded_mesh, boxes_in, vertex_box, sphere_in, horizon_in, horizon_point, centre_of, patterns, header_in, terrain_in, note_in, note_text}
use Rattle.tile_rule.specs.Seen.{triangles_of}
use Rattle.post_bound.specs.Bound.{KeepsBound}
use Rattle.tile_rule.specs.GoodTile.{ArePatterns, HasHorizon, HasSphere, IsGoodTile, IsWellMade, KeepsHeights, boxes_of}
use Rattle.bound_spheres.proofs.SphereOf.{sphere_of_is}
use Rattle.tile_rule.proofs.Headers.{centre_small, horizon_small, least_hidden}
use Rattle.float_bits.proofs.Patterns.{bits64_is}
use Rattle.tile_rule.proofs.Seeing.{is_seen, one_sight, same_triangles, small_sphere, some_boxes, vertex_of, vertices_in}

-- ---- the tolerance, for heights of a state
keeps_heights : (fill : ℤ) (cells : Cells) (tile : TileId) (ts : List Tri) → let grid = grid_of fill cells tile in
    ts ≡ plane.triangles_in (mesh_of_grid grid tile.z) → KeepsTolerance grid (tolerance_of tile.z) (mesh_of_grid grid tile.z)
    → KeepsHeights fill cells tile ts
keeps_heights fill cells tile ts e k = record {
  near = λ i j a b over under s.
      subst (λ (h : ℤ). pos (unsigned_abs (over -ℤ h *ℤ under)) ≤ℤ (pos (tolerance_of tile.z) *ℤ under)) (grid_has_heights fill cells tile i j a b)
      (k.surface i j a b over under (rw (sym e) s));
}

-- ---- the sphere
are_patterns : (shift : ℕ) (ns : List ℤ) → shift ≤ 63 → AllByRecursion (λ n. unsigned_abs n < 2 ^ 53) ns → ArePatterns shift ns (patterns shift ns)
are_patterns shift [] h all = tt
are_patterns shift (n ∷ ns) h all = (bits64_is n shift all.0 h, are_patterns shift ns h all.1)

same_boxes : (tile : TileId) (frame : HeightFrame) (ps : List MeshPoint) → boxes_of tile (map (vertex_of frame) ps) ≡ map (vertex_box tile) ps
same_boxes tile frame [] = refl
same_boxes tile frame (p ∷ ps) = ap (λ bs. vertex_box tile p ∷ bs) (same_boxes tile frame ps)

reached : (tile : TileId) (m : Mesh) → 0 < length (boxes_in tile m) → All (IsReached (sphere_in tile m) (sphere_in tile m).radius) (boxes_of tile (vertices_in m))
unfolding sphere_in
reached tile m h =
    subst (λ (bs : List EcefBox). All (IsReached (sphere_of (boxes_in tile m)) (sphere_of (boxes_in tile m)).radius) bs) (sym (same_boxes tile (frame_in m) m.points))
    (sphere_of_is (boxes_in tile m) h).reaches

has_sphere : (tile : TileId) (m : Mesh) → IsSmall (sphere_in tile m) → 0 < length (boxes_in tile m) → HasSphere (header_in tile m) (sphere_in tile m) (boxes_of tile (vertices_in m))
unfolding header_in
has_sphere tile m s h =
    let sphere = sphere_in tile m in
    record {
      centre = are_patterns 8 (centre_of sphere) (omega arith) (centre_small sphere s.centre);
      radius = bits64_is sphere.radius 8 (let r = s.radius in omega (arith, r)) (omega arith);
      reaches = reached tile m h;
    }

-- ---- the horizon
pub if_some : {X : Type 0} (o : Option X) (P : X → Type 0) → ((x : X) → o ≡ Some x → P x) → IfSome o P
if_some None P f = tt
if_some (Some x) P f = f x refl

horizon_field : (tile : TileId) (m : Mesh) → (header_in tile m).horizon ≡ patterns 28 (horizon_point (horizon_in tile m) (sphere_in tile m))
unfolding header_in
horizon_field tile m = refl

pub horizon_at : (tile : TileId) (m : Mesh) (k : ℕ) → horizon_in tile m ≡ Some k → IsLeastHidden (sphere_in tile m) (boxes_in tile m) k
unfolding horizon_in
horizon_at tile m k e = least_hidden (sphere_in tile m) (boxes_in tile m) k e

has_horizon : (tile : TileId) (m : Mesh) → IsSmall (sphere_in tile m) → IfSome (horizon_in tile m) (HasHorizon (header_in tile m) (sphere_in tile m) (boxes_of tile (vertices_in m)))
has_horizon tile m s =
    if_some (horizon_in tile m) (HasHorizon (header_in tile m) (sphere_in tile m) (boxes_of tile (vertices_in m))) (λ k e.
    let sphere = sphere_in tile m in
    let at = horizon_at tile m k e in
    let field : (header_in tile m).horizon ≡ patterns 28 (horizon_point (Some k) sphere) = horizon_field tile m ∙ ap (λ o. patterns 28 (horizon_point o sphere)) e in
    record {
      point = rw field (are_patterns 28 (horizon_point (Some k) sphere) (omega arith)
          (horizon_small (Some k) sphere s.centre (λ j f. let same : k ≡ j = cc in let few = at.to in omega (arith, few, same))));
      hidden = subst (λ (bs : List EcefBox). IsHidden k sphere bs) (sym (same_boxes tile (frame_in m) m.points)) at.hidden;
    })

-- ---- the note
counted : (m : Mesh) → (length (coded_mesh m).vertices ≡ length m.points) × (length (coded_mesh m).triangles ≡ length m.triangles)
unfolding coded_mesh
counted m = (length-map m.points (codes_of (frame_in m)), refl)

says : (bound : ℕ) (tile : TileId) (m : Mesh) → note_in bound tile m ≡ note_text bound tile.z (length (coded_mesh m).vertices) (length (coded_mesh m).triangles) (horizon_in tile m)
unfolding note_in
says bound tile m =
    let c = counted m in
    ap (λ n. note_text bound tile.z n (length m.triangles) (horizon_in tile m)) (sym c.0)
    ∙ ap (λ n. note_text bound tile.z (length (coded_mesh m).vertices) n (horizon_in tile m)) (sym c.1)

-- ---- all
pub well_made : (tile : TileId) (grid : List ℤ) (bound : ℕ) → IsGrid grid → let m = mesh_of_grid grid tile.z in IsWellMade tile (terrain_in tile m) (note_in bound tile m)
well_made tile grid bound h =
    let m = mesh_of_grid grid tile.z in
    let seen = is_seen tile grid h in
    let small = small_sphere tile grid h in
    record {
      header = header_in tile m;
      mesh = coded_mesh m;
      vertices = vertices_in m;
      sphere = sphere_in tile m;
      bound = bound;
      horizon = horizon_in tile m;
      sight = record { seen = seen; only = λ k n vs s. one_sight (terrain_in tile m) k (header_in tile m) n (coded_mesh m) vs (vertices_in m) s seen };
      says = says bound tile m;
      covers = subst Covers (sym (same_triangles m)) (mesh_covers grid tile.z);
      round = has_sphere tile m small (some_boxes tile grid);
      horizon_is = has_horizon tile m small;
    }

pub good : (fill : ℤ) (cells : Cells) (tile : TileId) (bound : ℕ) → let grid = grid_of fill cells tile in let m = mesh_of_grid grid tile.z in
    IsGrid grid → KeepsBound cells tile (plane.triangles_in m) bound → IsGoodTile fill cells tile (terrain_in tile m) (note_in bound tile m)
unfolding well_made
good fill cells tile bound h posts =
    let grid = grid_of fill cells tile in
    let m = mesh_of_grid grid tile.z in
    record {
      made = well_made tile grid bound h;
      tolerance = keeps_heights fill cells tile (triangles_of (coded_mesh m) (vertices_in m)) (same_triangles m) (mesh_keeps_tolerance grid tile.z);
      posts = subst (λ (ts : List Tri). KeepsBound cells tile ts bound) (sym (same_triangles m)) posts;
    }
