-- What the definitions of an audit say of one another.
use Rattle.std.specs.Prelude.{◌≡◌, ◌↔◌, ◌≤◌, length}
use Rattle.mesh_codec.specs.Mesh.{Mesh, IsMesh}
use Rattle.mesh_plane.specs.Cover.{Covers}
use Rattle.mesh_check.specs.declared.verdict.Finding.{Finding}
use Rattle.mesh_check.specs.declared.verdict.Verdict.{Verdict}
use Rattle.mesh_check.specs.declared.verdict.Verdict.TheVariants.{Good}
use Rattle.mesh_check.specs.Findings.{Comes}
use Rattle.mesh_check.specs.CodeMesh.{triangles_of, levels_of, IsVerdict}

-- the finding is the first that holds of the mesh
abbrev pub ComesOf : Mesh → Finding → Type 0
ComesOf mesh finding = Comes (levels_of mesh) (triangles_of mesh) (length mesh.vertices) finding

-- two verdicts on a mesh are one
abbrev pub OneVerdictLaw : Type 0
OneVerdictLaw = (mesh : Mesh) (v w : Verdict) → IsVerdict mesh v → IsVerdict mesh w → v ≡ w

-- at most one finding comes
abbrev pub OneFindingLaw : Type 0
OneFindingLaw = (mesh : Mesh) (f g : Finding) → ComesOf mesh f → ComesOf mesh g → f ≡ g

-- none comes where there are few vertices and the triangles cover the tile
abbrev pub NoneWhereCoveredLaw : Type 0
NoneWhereCoveredLaw = (mesh : Mesh) (f : Finding) → IsMesh mesh → length mesh.vertices ≤ 16384 → Covers
    (triangles_of mesh)
    → ¬ ComesOf mesh f

-- a verdict is Good exactly where there are few vertices and the triangles cover the tile
abbrev pub GoodLaw : Type 0
GoodLaw = (mesh : Mesh) (v : Verdict) → IsVerdict mesh v
    → (v ≡ Good) ↔ ((length mesh.vertices ≤ 16384) × Covers (triangles_of mesh))
