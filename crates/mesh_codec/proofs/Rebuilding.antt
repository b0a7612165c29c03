-- A mesh that is built of a tile's lists is the tile's.
use Rattle.std.proofs.Common.{◌≡◌, ℕ, List, ◌++◌, length, refl, ap, ◌∙◌}
use Rattle.terrain_base.specs.declared.indexes.Indexes.{Indexes}
use Rattle.mesh_codec.specs.declared.codes.Codes.{Codes}
use Rattle.terrain_base.specs.declared.side.Side.TheVariants.{West, South, East, North}
use Rattle.mesh_codec.specs.Layout.{vertices_in}
use Rattle.mesh_codec.specs.Mesh.{Mesh, empty_mesh}
use Rattle.mesh_codec.specs.Tile.{vertex_list, triangle_list, edge_list, mesh_in}
use Rattle.mesh_codec.proofs.Decoding.{vertex_total}

pub first_count : (bytes : List ℕ) (empty first : Mesh) (vertices : List Codes) → empty ≡ empty_mesh → first ≡ record empty { vertices = empty.vertices ++ vertices } → vertices ≡ vertex_list bytes → length first.vertices ≡ vertices_in bytes
first_count bytes empty first vertices e f v = ap (λ (m : Mesh). length m.vertices) f ∙ ap (λ (m : Mesh). length (m.vertices ++ vertices)) e ∙ ap length v ∙ vertex_total bytes

pub rebuilt : (bytes : List ℕ) (empty first second third fourth fifth sixth : Mesh) (vertices : List Codes) (triangles : List Indexes) (west south east north : List ℕ)
    → empty ≡ empty_mesh → first ≡ record empty { vertices = empty.vertices ++ vertices } → second ≡ record first { triangles = first.triangles ++ triangles }
    → third ≡ record second { west = second.west ++ west } → fourth ≡ record third { south = third.south ++ south } → fifth ≡ record fourth { east = fourth.east ++ east } → sixth ≡ record fifth { north = fifth.north ++ north }
    → vertices ≡ vertex_list bytes → triangles ≡ triangle_list bytes → west ≡ edge_list bytes West → south ≡ edge_list bytes South → east ≡ edge_list bytes East → north ≡ edge_list bytes North
    → sixth ≡ mesh_in bytes
unfolding mesh_in
rebuilt bytes empty first second third fourth fifth sixth vertices triangles west south east north e p q r s t u v w x y z k = rw (u, t, s, r, q, p, e, v, w, x, y, z, k) refl
