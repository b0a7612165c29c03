-- The terrain of each tile is read as a mesh in metres.
use Rattle.std.proofs.Common.{◌≡◌, ℕ, ◌≤◌, arith, refl, sym, ap, subst, List, [], map, length, None}
use Rattle.std.specs.Prelude.{ℤ}
use Rattle.std.specs.List.{AllZip}
use Rattle.std.proofs.lemmas.List.{length-map}
use Rattle.terrain_base.specs.Grid.{IsGrid}
use Rattle.terrain_base.specs.Height.{IsHeight}
use Rattle.terrain_base.specs.declared.tile.TileId.{TileId}
use Rattle.resample.specs.Height.{grid_of}
use Rattle.resample.proofs.Ranges.{grid_is}
use Rattle.height_lattice.specs.HeightFrame.{IsWithin}
use Rattle.mesh_plane.specs.Cover.{Covers}
use Rattle.mesh_plane.proofs.ListWords.{all_to}
use Rattle.mesh_codec.specs.declared.codes.Codes.{Codes}
use Rattle.mesh_codec.specs.declared.header.Header.{Header}
use Rattle.mesh_codec.specs.Mesh as coded
use Rattle.mesh_codec.specs.Mesh.{IsMesh}
use Rattle.mesh_codec.specs.Refusal.{tile_refusal_of}
use Rattle.mesh_codec.specs.Tile as read
use Rattle.mesh_codec.specs.Tile.{Decodes, mesh_in}
use Rattle.mesh_codec.proofs.FirstLaws.{unrefused_by}
use Rattle.mesh_codec.proofs.Uniqueness.{same_mesh}
use Rattle.mesh_check.specs.declared.verdict.Verdict.TheVariants.{Good}
use Rattle.mesh_check.specs.CodeMesh.{IsVerdict, triangles_of as code_triangles}
use Rattle.mesh_check.proofs.LawProofs.{none_where_covered_law}
use Rattle.tile_mesh.specs.Mesh.{Mesh, mesh_of_grid}
use Rattle.tile_mesh.specs.Numbering.{ArePoints}
use Rattle.tile_mesh.proofs.Made.{mesh_covers}
use Rattle.tile_mesh.proofs.MeshNumbers.{numbered_law}
use Rattle.tile_mesh.proofs.VertexHeights.{grid_heights_in_range}
use Rattle.mesh_query.specs.Metres.{IsCorner}
use Rattle.mesh_query.specs.Field.{AreCorners}
use Rattle.mesh_query.specs.Answer.{IsFieldOf}
use Rattle.tile_rule.specs.Tile.{frame_in, codes_of, coded_mesh, header_in, mesh_of_tile, terrain_in}
use Rattle.tile_rule.proofs.Seeing.{frame_of_grid, is_seen}
use Rattle.tile_field.specs.Laws.{EachTileIsRead}
use Rattle.tile_field.proofs.Rescaled.{codes_cover}
use Rattle.tile_field.proofs.InMetres.{field_in, are_corners, are_heights, metres_cover}

-- an audit finds nothing in a mesh of few vertices that covers the tile
is_good : (mesh : coded.Mesh) → IsMesh mesh → length mesh.vertices ≤ 16384 → Covers (code_triangles mesh)
    → IsVerdict mesh Good
is_good mesh is few covers = record {
  good = ((λ same. (few, covers)), (λ both. refl));
  found = λ finding. ((λ same. cc), (λ comes. absurd (none_where_covered_law mesh finding is few covers comes)));
}

-- ---- the mesh of a grid by its codes
covers_by_codes : (grid : List ℤ) (z : ℕ) → IsGrid grid → Covers (code_triangles (coded_mesh (mesh_of_grid grid z)))
unfolding coded_mesh
covers_by_codes grid z is =
    let m = mesh_of_grid grid z in
    let has = frame_of_grid grid z is in
    codes_cover (frame_in m) m has.frame.divides (all_to (λ p. IsWithin (frame_in m) p.metres) m.points has.within)
    (all_to (ArePoints (length m.points)) m.triangles (numbered_law grid z).triangles) (mesh_covers grid z)

few_vertices : (grid : List ℤ) (z : ℕ) → length (coded_mesh (mesh_of_grid grid z)).vertices ≤ 16384
unfolding coded_mesh
few_vertices grid z =
    let m = mesh_of_grid grid z in
    omega (arith, (numbered_law grid z).few, length-map m.points (codes_of (frame_in m)))

-- ---- what is read of its terrain
module _ (tile : TileId) (grid : List ℤ) (is : IsGrid grid) where
  abbrev mesh : Mesh
  mesh = mesh_of_grid grid tile.z

  abbrev bytes : List ℕ
  bytes = terrain_in tile mesh

  decodes : Decodes bytes (header_in tile mesh) (coded_mesh mesh) []
  decodes = (is_seen tile grid is).decodes

  mesh_is : coded_mesh mesh ≡ mesh_in bytes
  mesh_is = same_mesh bytes (header_in tile mesh) (coded_mesh mesh) [] decodes

  vertices_are : map (codes_of (frame_in mesh)) mesh.points ≡ read.vertex_list bytes
  unfolding coded_mesh mesh_in
  vertices_are = ap (λ (m : coded.Mesh). m.vertices) mesh_is

  indexes_are : mesh.triangles ≡ read.triangle_list bytes
  unfolding coded_mesh mesh_in
  indexes_are = ap (λ (m : coded.Mesh). m.triangles) mesh_is

  corners_are : AreCorners bytes (field_in mesh).corners
  corners_are =
      let has = frame_of_grid grid tile.z is in
      let frame = frame_in mesh in
      subst (λ (h : Header). AllZip (IsCorner h) (read.vertex_list bytes) (field_in mesh).corners)
      (sym decodes.header_is)
      (subst (λ (xs : List Codes). AllZip (IsCorner (header_in tile mesh)) xs (field_in mesh).corners) vertices_are
      (are_corners (header_in tile mesh) frame (are_heights tile mesh has) has.frame.divides mesh.points
      (all_to (λ p. IsWithin frame p.metres) mesh.points has.within)
      (all_to (λ p. IsHeight p.metres) mesh.points (grid_heights_in_range grid tile.z is))))

  pub field_is : IsFieldOf bytes (field_in mesh)
  field_is = record {
    corners = corners_are;
    indexes = indexes_are;
    covers = metres_cover mesh (mesh_covers grid tile.z);
    good = subst (λ (m : coded.Mesh). IsVerdict m Good) mesh_is
        (is_good (coded_mesh mesh) decodes.is_mesh (few_vertices grid tile.z) (covers_by_codes grid tile.z is));
  }

  pub unrefused : tile_refusal_of bytes ≡ None
  unrefused = unrefused_by bytes (header_in tile mesh) (coded_mesh mesh) [] decodes

pub each_tile_is_read : EachTileIsRead
unfolding mesh_of_tile
each_tile_is_read params cells tile sound =
    let grid = grid_of params.fill cells tile in
    let is = grid_is params.fill cells tile (record { above = params.fill_above; below = params.fill_below }) sound in
    (unrefused tile grid is, (field_in (mesh_of_grid grid tile.z), field_is tile grid is))
