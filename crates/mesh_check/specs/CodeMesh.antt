-- The triangles and levels of a mesh of codes, and its verdict. Heights are the codes of vertices (quantized-mesh-1.0,
-- vertex data).
use Rattle.std.specs.Prelude.{ℕ, ◌≤◌, ℤ, pos, ◌↔◌, List, ◌∷◌, length, map, slice_index_or, Contains}
use Rattle.terrain_base.specs.declared.indexes.Indexes.{Indexes}
use Rattle.mesh_codec.specs.declared.codes.Codes.{Codes}
use Rattle.mesh_codec.specs.Mesh.{Mesh}
use Rattle.mesh_plane.specs.declared.corner.Corner.{Corner}
use Rattle.mesh_plane.specs.declared.corner.Tri.{Tri}
use Rattle.mesh_plane.specs.Cover.{Covers}
use Rattle.mesh_check.specs.declared.verdict.Verdict.{Verdict}
use Rattle.mesh_check.specs.Findings.{IsExact}

-- the corner of a vertex
abbrev pub code_corner : Codes → Corner
code_corner codes = record { u = pos codes.u; v = pos codes.v; h = pos codes.height }

-- the corner of the vertex of a number
abbrev pub corner_at : Mesh → ℕ → Corner
corner_at mesh vertex = code_corner (slice_index_or mesh.vertices vertex (record { u = 0; v = 0; height = 0 }))

-- a triangle by its corners
abbrev pub tri_of : Mesh → Indexes → Tri
tri_of mesh t = record { a = corner_at mesh t.a; b = corner_at mesh t.b; c = corner_at mesh t.c }

abbrev pub triangles_of : Mesh → List Tri
triangles_of mesh = map (tri_of mesh) mesh.triangles

-- the south and the north edge of the tile, and the v of each vertex
abbrev pub levels_of : Mesh → List ℤ
levels_of mesh = pos 0 ∷ (pos 32767 ∷ map (λ codes. pos codes.v) mesh.vertices)

-- the numbers are the levels of the mesh
abbrev pub AreLevels : Mesh → List ℕ → Type 0
AreLevels mesh levels = (v : ℤ) → Contains (map pos levels) v ↔ Contains (levels_of mesh) v

-- what an audit answers of the mesh
abbrev pub IsVerdict : Mesh → Verdict → Type 0
IsVerdict mesh verdict = IsExact (levels_of mesh) (triangles_of mesh) (length mesh.vertices) verdict

-- few enough vertices, and triangles that cover the tile exactly once
abbrev pub IsCovered : Mesh → Type 0
IsCovered mesh = (length mesh.vertices ≤ 16384) × Covers (triangles_of mesh)
