-- The mesh by its codes is one that has a spelling.
use Rattle.std.proofs.Common.{◌≡◌, ℕ, ◌<◌, ◌≤◌, arith, sym, subst, List, map, length, All}
use Rattle.std.specs.Prelude.{slice_index_or}
use Rattle.std.proofs.lemmas.List.{length-map}
use Rattle.std.proofs.lemmas.List.Elements.{All-map, All-weaker}
use Rattle.tms_tree.proofs.Places.{line_within}
use Rattle.terrain_base.specs.FirstUse.{IsByFirstUse, corners}
use Rattle.mesh_codec.specs.Mesh.{IsMesh, IsVertex, IsTriangle, IsEdge, IsEncodable}
use Rattle.terrain_base.specs.declared.side.Side.TheVariants.{West, South, East, North}
use Rattle.tile_mesh.specs.Mesh.{Mesh}
use Rattle.tile_mesh.specs.MeshNumbers.{IsNumbered}
use Rattle.tile_mesh.specs.Numbering.{ArePoints}
use Rattle.tile_rule.specs.Tile.{frame_in, codes_of, coded_mesh}
use Rattle.height_lattice.proofs.Frames.{code_of_small}
use Rattle.tile_rule.proofs.Vertices.{HasFrame}

edge_is : (n : ℕ) (xs : List ℕ) → All (λ k. k < n) xs → length xs ≤ 67 → IsEdge n xs
edge_is n xs h l = record { each = h; few = omega (arith, l) }

pub has_spelling : (m : Mesh) → IsNumbered m → length m.triangles ≤ 8712 → HasFrame m → IsMesh (coded_mesh m) × IsEncodable (coded_mesh m)
unfolding coded_mesh
has_spelling m n few f =
    let frame = frame_in m in
    let count : length (map (codes_of frame) m.points) ≡ length m.points = length-map m.points (codes_of frame) in
    let vertices : All IsVertex (map (codes_of frame) m.points) =
    All-map IsVertex (codes_of frame) m.points (λ k d l.
    let p = slice_index_or m.points k d in
    let g = n.on_grid k d l in
    record { u = line_within p.i g.column; v = line_within p.j g.row; height = code_of_small frame p.metres f.frame.divides (f.within k d l) }) in
    let triangles : All (IsTriangle (length m.points)) m.triangles =
    All-weaker (ArePoints (length m.points)) (IsTriangle (length m.points)) (λ t h. record { a = h.a; b = h.b; c = h.c }) m.triangles n.triangles in
    let numbered = n.by_first_use in (
      record {
        vertices = vertices;
        few_vertices = omega (arith, count, n.few);
        triangles = subst (λ (k : ℕ). All (IsTriangle k) m.triangles) (sym count) triangles;
        few_triangles = omega (arith, few);
        west = subst (λ (k : ℕ). IsEdge k m.west) (sym count) (edge_is _ m.west (n.edges West) (n.short West));
        south = subst (λ (k : ℕ). IsEdge k m.south) (sym count) (edge_is _ m.south (n.edges South) (n.short South));
        east = subst (λ (k : ℕ). IsEdge k m.east) (sym count) (edge_is _ m.east (n.edges East) (n.short East));
        north = subst (λ (k : ℕ). IsEdge k m.north) (sym count) (edge_is _ m.north (n.edges North) (n.short North));
      },
      record {
        numbered = subst (λ (k : ℕ). IsByFirstUse k (corners m.triangles)) (sym count) numbered;
        reaches_back = λ e. (let few = n.few in omega (arith, e, count, few));
      },
    )
