-- What holds of the mesh of a grid in range, and what its file's parts are.
use Rattle.std.proofs.Common.{◌≡◌, ℕ, ℤ, ◌<◌, ◌≤◌, arith, sym, ap, ◌∙◌, subst, List, map, length, Option, All}
use Rattle.std.proofs.lemmas.List.Elements.{All-weaker}
use Rattle.terrain_base.specs.declared.tile.TileId.{TileId}
use Rattle.terrain_base.specs.Grid.{IsGrid}
use Rattle.terrain_base.specs.Height.{IsHeight}
use Rattle.ecef_boxes.specs.declared.ecef_box.EcefBox.{EcefBox}
use Rattle.ecef_boxes.specs.Bounds.{IsBoxWithin}
use Rattle.mesh_codec.specs.Mesh.{IsEncodable}
use Rattle.mesh_codec.specs.Mesh as coded
use Rattle.mesh_codec.specs.Text.{tile_text}
use Rattle.mesh_codec.specs.declared.header.Header.{Header}
use Rattle.height_lattice.specs.declared.height_frame.HeightFrame.{HeightFrame}
use Rattle.height_lattice.specs.HeightFrame.{frame_of}
use Rattle.bound_spheres.specs.declared.sphere.Sphere.{Sphere}
use Rattle.bound_spheres.specs.Horizon.{horizon_of}
use Rattle.bound_spheres.specs.Sphere.{sphere_of}
use Rattle.bound_spheres.proofs.SphereOf.{wide_box}
use Rattle.tile_mesh.specs.declared.point.MeshPoint.{MeshPoint}
use Rattle.tile_mesh.specs.Mesh.{IsMeshAt, Mesh, mesh_of_grid}
use Rattle.tile_mesh.specs.MeshNumbers.{IsNumbered}
use Rattle.tile_mesh.proofs.Lengths.{few_triangles}
use Rattle.tile_mesh.proofs.MeshNumbers.{numbered_law}
use Rattle.tile_mesh.proofs.VertexHeights.{grid_heights_in_range}
use Rattle.post_bound.specs.Span.{least_metres, most_metres}
use Rattle.tile_rule.specs.Tile.{boxes_in, coded_by, coded_mesh, frame_in, header_in, header_of, horizon_in, horizon_point, sphere_in, terrain_in, vertex_box}
use Rattle.tile_rule.proofs.Coding.{has_spelling}
use Rattle.tile_rule.proofs.Seeing.{boxes_small, frame_of_grid, some_boxes}
use Rattle.tile_rule.proofs.Vertices.{HasFrame}

pub record Facts (tile : TileId) (m : Mesh) : Type 0 where
  pub numbered : IsNumbered m
  pub few : length m.triangles ≤ 8712
  pub heights : All (λ p. IsHeight p.metres) m.points
  pub frame : HasFrame m
  pub boxes : All (IsBoxWithin 33) (boxes_in tile m)
  pub some_boxes : 0 < length (boxes_in tile m)
  pub encodable : IsEncodable (coded_mesh m)

of_grid : (tile : TileId) (grid : List ℤ) → IsGrid grid → Facts tile (mesh_of_grid grid tile.z)
of_grid tile grid h =
    let m = mesh_of_grid grid tile.z in
    let numbered = numbered_law grid tile.z in
    let few = few_triangles grid tile.z in
    let frame = frame_of_grid grid tile.z h in
    record {
      numbered = numbered;
      few = few;
      heights = grid_heights_in_range grid tile.z h;
      frame = frame;
      boxes = All-weaker (IsBoxWithin 31) (IsBoxWithin 33) wide_box (boxes_in tile m) (boxes_small tile grid h);
      some_boxes = some_boxes tile grid;
      encodable = (has_spelling m numbered few frame).1;
    }

pub facts : (tile : TileId) (m : Mesh) → IsMeshAt tile.z m → Facts tile m
facts tile m h = subst (Facts tile) (sym h.mesh) (of_grid tile h.grid h.in_range)

-- ---- what is computed, by the words of the file's definition
pub frame_is : (m : Mesh) (frame : HeightFrame) (ps : List MeshPoint) → frame ≡ frame_of (least_metres ps) (most_metres ps) → ps ≡ m.points
    → frame ≡ frame_in m
unfolding frame_in
frame_is m frame ps is same = is ∙ ap (λ qs. frame_of (least_metres qs) (most_metres qs)) same

pub boxes_are : (tile : TileId) (m : Mesh) (boxes : List EcefBox) (ps : List MeshPoint) → boxes ≡ map (vertex_box tile) ps → ps ≡ m.points
    → boxes ≡ boxes_in tile m
boxes_are tile m boxes ps are same = are ∙ ap (map (vertex_box tile)) same

pub sphere_is : (tile : TileId) (m : Mesh) (sphere : Sphere) (boxes : List EcefBox) → sphere ≡ sphere_of boxes → boxes ≡ boxes_in tile m
    → sphere ≡ sphere_in tile m
unfolding sphere_in
sphere_is tile m sphere boxes is are = is ∙ ap sphere_of are

pub multiple_is : (tile : TileId) (m : Mesh) (multiple : Option ℕ) (sphere : Sphere) (boxes : List EcefBox) → multiple ≡ horizon_of sphere boxes
    → sphere ≡ sphere_in tile m → boxes ≡ boxes_in tile m → multiple ≡ horizon_in tile m
unfolding horizon_in
multiple_is tile m multiple sphere boxes is s are = is ∙ ap (λ t. horizon_of t boxes) s ∙ ap (horizon_of (sphere_in tile m)) are

pub coded_is : (m : Mesh) (frame : HeightFrame) (k : coded.Mesh) → k ≡ coded_by frame m → frame ≡ frame_in m → k ≡ coded_mesh m
unfolding coded_mesh
coded_is m frame k is f = is ∙ ap (λ g. coded_by g m) f

pub header_is : (tile : TileId) (m : Mesh) (header : Header) (frame : HeightFrame) (sphere : Sphere) (multiple : Option ℕ) (point : List ℤ)
    → header ≡ header_of frame sphere point → point ≡ horizon_point multiple sphere → frame ≡ frame_in m → sphere ≡ sphere_in tile m
    → multiple ≡ horizon_in tile m → header ≡ header_in tile m
unfolding header_in
header_is tile m header frame sphere multiple point is p f s h =
    is ∙ ap (header_of frame sphere) p ∙ ap (λ g. header_of g sphere (horizon_point multiple sphere)) f
    ∙ ap (λ t. header_of (frame_in m) t (horizon_point multiple t)) s
    ∙ ap (λ o. header_of (frame_in m) (sphere_in tile m) (horizon_point o (sphere_in tile m))) h

pub text_is : (tile : TileId) (m : Mesh) (header : Header) (k : coded.Mesh) → header ≡ header_in tile m → k ≡ coded_mesh m
    → tile_text header k ≡ terrain_in tile m
unfolding terrain_in
text_is tile m header k h c = ap (λ i. tile_text i k) h ∙ ap (tile_text (header_in tile m)) c
