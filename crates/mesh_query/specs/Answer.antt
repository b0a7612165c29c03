-- What a reading of a stored tile as a mesh in metres answers.
use Rattle.std.specs.Prelude.{◌≡◌, ◌⊎◌, ℕ, List, All}
use Rattle.mesh_codec.specs.Tile.{header_in, vertex_list, triangle_list, mesh_in}
use Rattle.mesh_plane.specs.Cover.{Covers}
use Rattle.mesh_check.specs.declared.verdict.Verdict.TheVariants.{Good, Found}
use Rattle.mesh_check.specs.CodeMesh.{IsVerdict}
use Rattle.mesh_query.specs.declared.refusal.QueryRefusal.{QueryRefusal}
use Rattle.mesh_query.specs.declared.refusal.QueryRefusal.TheVariants.{NotWhole, Unsound, NoMemory}
use Rattle.mesh_query.specs.Field.{MetreMesh, triangles_of, AreCorners}
use Rattle.mesh_query.specs.Metres.{IsWhole, IsFirstNotWhole}

-- The field is the mesh of the bytes in metres: each vertex at its place, the same triangles. It covers its tile once,
-- and the audit of the bytes' mesh finds nothing.
pub record IsFieldOf (bytes : List ℕ) (field : MetreMesh) : Type 0 where
  pub corners : AreCorners bytes field.corners
  pub indexes : field.indexes ≡ triangle_list bytes
  pub covers : Covers (triangles_of field)
  pub good : IsVerdict (mesh_in bytes) Good

-- why there is no field: the first vertex without a whole number of metres; or, where each has one, what the audit
-- finds
abbrev pub IsCause : List ℕ → QueryRefusal → Type 0
IsCause bytes (NotWhole vertex) = IsFirstNotWhole bytes vertex
IsCause bytes (Unsound finding) = All (IsWhole (header_in bytes)) (vertex_list bytes)
    × IsVerdict (mesh_in bytes) (Found finding)
IsCause bytes NoMemory = Unit {0}

-- Bytes have one cause at most, and none where they have a field: so each refusal but want of memory comes exactly
-- where its cause holds.
pub record OneAnswerLaw : Type 0 where
  pub one : (bytes : List ℕ) (refusal other : QueryRefusal) → IsCause bytes refusal → IsCause bytes other
      → (refusal ≡ NoMemory) ⊎ ((other ≡ NoMemory) ⊎ (refusal ≡ other))
  pub none : (bytes : List ℕ) (field : MetreMesh) (refusal : QueryRefusal) → IsFieldOf bytes field
      → IsCause bytes refusal
      → refusal ≡ NoMemory
