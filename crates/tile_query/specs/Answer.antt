-- What is answered to a question about the surface of a stored tile.
use Rattle.std.specs.Prelude.{◌≡◌, ◌≢◌, ℕ, pos, List, length, string_bytes, Option, Some, None}
use Rattle.terrain_base.specs.declared.tile.TileId.{TileId}
use Rattle.mesh_codec.specs.declared.refusal.TileRefusal.{TileRefusal}
use Rattle.mesh_codec.specs.Refusal.{tile_refusal_of}
use Rattle.mesh_plane.specs.Surface.{Surface}
use Rattle.mesh_query.specs.declared.ratio.Ratio.{Ratio}
use Rattle.mesh_query.specs.declared.refusal.QueryRefusal.{QueryRefusal}
use Rattle.mesh_query.specs.declared.refusal.QueryRefusal.TheVariants.{NoMemory}
use Rattle.mesh_query.specs.declared.spot.Break.{Break}
use Rattle.mesh_query.specs.declared.spot.Spot.{Spot}
use Rattle.mesh_query.specs.Answer.{IsFieldOf, IsCause}
use Rattle.mesh_query.specs.Field.{MetreMesh, triangles_of}
use Rattle.mesh_query.specs.Profile.{IsProfile}
use Rattle.mesh_query.specs.Ratios.{IsLowest}
use Rattle.mesh_query.specs.Way.{place}
use Rattle.sight_line.specs.declared.eye.Eye.{Eye}
use Rattle.sight_line.specs.declared.eye.SightAnswer.{SightAnswer}
use Rattle.sight_line.specs.Answer.{IsAnswer}
use Rattle.sight_line.specs.Seen.{AreSeen}
use Rattle.report_text.specs.TileRefusal.{tile_refusal_text_of}
use Rattle.tile_query.specs.declared.question.Question.{Question}
use Rattle.tile_query.specs.declared.question.Question.TheVariants.{Height, Profile, Sight, View}
use Rattle.tile_query.specs.declared.reply.Answer as coded
use Rattle.tile_query.specs.declared.reply.Answer.TheVariants as code
use Rattle.tile_query.specs.Question.{point_in}
use Rattle.tile_query.specs.Text.{height_text_of, profile_text_of, sight_text_of, view_text_of, cause_text_of}

-- an answer in bytes: the text that is told, with its line feeds; or the cause why nothing is told, without one
pub data AnswerText : Type 0 where
  Told : (text : List ℕ) → AnswerText
  Refused : (cause : List ℕ) → AnswerText

abbrev pub in_bytes : coded.Answer → AnswerText
in_bytes (code.Told text) = Told (string_bytes text)
in_bytes (code.Refused cause) = Refused (string_bytes cause)

-- ---- over a mesh in metres

-- the text tells the height of the surface at the place, in lowest terms
pub record IsHeightTold (tile : TileId) (field : MetreMesh) (east north : ℕ) (text : List ℕ) : Type 0 where
  pub height : Ratio
  pub surface : Surface (triangles_of field) (pos 648000) (point_in tile east north).u (point_in tile east north).v
      height.over height.under
  pub lowest : IsLowest height
  pub text_is : text ≡ height_text_of tile height

-- the text tells the breaks of the way, with the surface at each
pub record IsProfileTold (tile : TileId) (field : MetreMesh) (from to : Spot) (text : List ℕ) : Type 0 where
  pub breaks : List Break
  pub are : IsProfile (triangles_of field) (place from) (place to) breaks
  pub text_is : text ≡ profile_text_of tile breaks

-- the text tells whether the one eye sees the other
pub record IsSightTold (field : MetreMesh) (from to : Eye) (text : List ℕ) : Type 0 where
  pub answer : SightAnswer
  pub is : IsAnswer (triangles_of field) (place from.spot) from.metres (place to.spot) to.metres answer
  pub text_is : text ≡ sight_text_of answer

-- the text tells which vertices the eye sees
pub record IsViewTold (tile : TileId) (field : MetreMesh) (eye : Eye) (text : List ℕ) : Type 0 where
  pub seen : List ℕ
  pub are : AreSeen field (place eye.spot) eye.metres (length field.corners) seen
  pub text_is : text ≡ view_text_of tile (length field.corners) seen

abbrev pub IsTold : TileId → MetreMesh → Question → List ℕ → Type 0
IsTold tile field (Height east north) text = IsHeightTold tile field east north text
IsTold tile field (Profile from to) text = IsProfileTold tile field from to text
IsTold tile field (Sight from to) text = IsSightTold field from to text
IsTold tile field (View eye) text = IsViewTold tile field eye text

-- ---- over bytes

-- the bytes have a mesh in metres, and the text is told over it
pub record IsToldOf (tile : TileId) (bytes : List ℕ) (question : Question) (text : List ℕ) : Type 0 where
  pub field : MetreMesh
  pub field_is : IsFieldOf bytes field
  pub told : IsTold tile field question text

-- the bytes have none, for this cause
pub record IsRefusedFor (bytes : List ℕ) (text : List ℕ) : Type 0 where
  pub refusal : QueryRefusal
  pub no_want : refusal ≢ NoMemory
  pub cause : IsCause bytes refusal
  pub text_is : text ≡ cause_text_of refusal

-- over the bytes of a tile
abbrev pub IsReadAnswer : TileId → List ℕ → Question → AnswerText → Type 0
IsReadAnswer tile bytes question (Told text) = IsToldOf tile bytes question text
IsReadAnswer tile bytes question (Refused cause) = IsRefusedFor bytes cause

-- by the refusal of the bytes as a tile, if there is one
abbrev pub IsAnswerBy : Option TileRefusal → TileId → List ℕ → Question → AnswerText → Type 0
IsAnswerBy None tile bytes question answer = IsReadAnswer tile bytes question answer
IsAnswerBy (Some refusal) tile bytes question answer = answer ≡ Refused (tile_refusal_text_of refusal)

-- what is answered to the question over any bytes under the name of the tile
abbrev pub IsAnswerTo : TileId → List ℕ → Question → AnswerText → Type 0
IsAnswerTo tile bytes question answer = IsAnswerBy (tile_refusal_of bytes) tile bytes question answer
