-- What holds of answers over all bytes.
use Rattle.std.specs.Prelude.{◌≡◌, ℕ, List, None}
use Rattle.terrain_base.specs.declared.tile.TileId.{TileId}
use Rattle.mesh_codec.specs.Refusal.{tile_refusal_of}
use Rattle.mesh_query.specs.Answer.{IsFieldOf}
use Rattle.mesh_query.specs.Field.{MetreMesh}
use Rattle.tile_query.specs.declared.question.Question.{Question}
use Rattle.tile_query.specs.Answer.{AnswerText, Told, Refused, IsAnswerTo}

-- two answers to one question over the same bytes are equal
abbrev pub OneAnswerLaw : Type 0
OneAnswerLaw = (tile : TileId) (bytes : List ℕ) (question : Question) (answer other : AnswerText)
    → IsAnswerTo tile bytes question answer → IsAnswerTo tile bytes question other → answer ≡ other

-- the answer tells something
abbrev pub IsTelling : AnswerText → Type 0
IsTelling (Told text) = Unit {0}
IsTelling (Refused cause) = ⊥

-- where the bytes are a tile with a mesh in metres, every answer tells something
abbrev pub ToldLaw : Type 0
ToldLaw = (tile : TileId) (bytes : List ℕ) (question : Question) (answer : AnswerText) (field : MetreMesh)
    → tile_refusal_of bytes ≡ None → IsFieldOf bytes field → IsAnswerTo tile bytes question answer → IsTelling answer
