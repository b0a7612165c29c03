-- The edges of the meshes of two tiles side by side.
use Rattle.std.specs.Prelude.{◌≡◌, ℕ, ℤ, List, map}
use Rattle.terrain_base.specs.declared.side.Side.{Side}
use Rattle.terrain_base.specs.declared.side.Side.TheVariants.{West, South, East, North}
use Rattle.tile_mesh.specs.declared.point.MeshPoint.{MeshPoint}
use Rattle.tile_mesh.specs.Mesh.{Mesh, edge_heights, mesh_of_grid}
use Rattle.tile_mesh.specs.Plane.{edge_vertices}

-- the index of a vertex along a side: its row on the west and the east side, its column on the south and the
-- north side
abbrev pub index_along : Side → MeshPoint → ℕ
index_along West p = p.j
index_along South p = p.i
index_along East p = p.j
index_along North p = p.i

-- the vertices of an edge's list, each by its index along the side and its height
abbrev pub edge_profile : Mesh → Side → List (ℕ × ℤ)
edge_profile mesh side = map (λ p. (index_along side p, p.metres)) (edge_vertices mesh side)

-- where two grids have the same heights along a side of each, their meshes at a level have the same vertices there
abbrev pub SeamLaw : Type 0
SeamLaw = (grid other : List ℤ) (z : ℕ) (side beside : Side) → edge_heights grid side ≡ edge_heights other beside
    → edge_profile (mesh_of_grid grid z) side ≡ edge_profile (mesh_of_grid other z) beside
