-- The replies to what is asked of a database.
use Rattle.std.specs.Prelude.{◌≡◌, ℕ, ℤ, Bool, true, false, List, [], ◌∷◌, length, codes, Option, Some, None, if◌then◌else◌}
use Rattle.std.specs.FinMap.{get}
use Rattle.terrain_base.specs.declared.name.Key.TheVariants.{Terrain, Note}
use Rattle.terrain_base.specs.declared.summary.Summary.{Summary}
use Rattle.terrain_base.specs.declared.tile.TileId.{TileId}
use Rattle.terrain_base.specs.Step.{Files}
use Rattle.mesh_codec.specs.declared.refusal.TileRefusal.{TileRefusal}
use Rattle.mesh_codec.specs.Refusal.{tile_refusal_of}
use Rattle.mesh_codec.specs.Tile.{header_in}
use Rattle.cell_mosaic.specs.Summaries.{summaries_of}
use Rattle.availability.specs.Existence.{exists_of}
use Rattle.tile_deps.specs.Squares.{squares_of, touching}
use Rattle.heightmap_out.specs.Tile.{heightmap_of}
use Rattle.report_text.specs.Words.{joined}
use Rattle.report_text.specs.TileRefusal.{tile_refusal_text_of}
use Rattle.top_words.specs.declared.command.Query.{Query}
use Rattle.tile_query.specs.declared.question.Question.{Question}
use Rattle.tile_query.specs.Answer.{AnswerText, Told, Refused, IsAnswerTo}
use Rattle.top_words.specs.declared.command.Query.TheVariants.{List as ListCells, Inspect, Deps, Heightmap, Surface}
use Rattle.database.specs.declared.answer.EngineAnswer.TheVariants.{NoTile, TileLost}
use Rattle.database.specs.State.{State, tile_exists}
use Rattle.db_report.specs.Listing.{deps_text_of, list_text_of}
use Rattle.db_report.specs.Tile.{IsHeightWord, tile_line_of}
use Rattle.top_reply.specs.Reply.{Reply, cause_of, refused_reply, text_reply}

-- the squares with cells that an existing tile touches
abbrev pub deps_reply : TileId → ℕ → List Summary → Reply
deps_reply tile cap rows =
    if exists_of cap rows tile then text_reply (deps_text_of tile (touching tile (squares_of rows)))
    else refused_reply (cause_of (NoTile tile))

-- an existing tile in the form heightmap-1.0
abbrev pub heightmap_reply : TileId → State → Reply
heightmap_reply tile s =
    if tile_exists s tile then text_reply (heightmap_of s.params s.cells tile)
    else refused_reply (cause_of (NoTile tile))

-- ---- a stored tile

-- its files, by the least and greatest height of its header
abbrev pub shown_by : TileId → List ℕ → List ℕ → Option ℤ → Option ℤ → Option TileRefusal → Reply
shown_by tile terrain note least greatest None =
    text_reply (joined (tile_line_of tile (length terrain) terrain least greatest ∷ codes "\n" ∷ note ∷ []))
shown_by tile terrain note least greatest (Some refusal) = refused_reply (tile_refusal_text_of refusal)

abbrev pub shown_reply : TileId → List ℕ → List ℕ → Option ℤ → Option ℤ → Reply
shown_reply tile terrain note least greatest = shown_by tile terrain note least greatest (tile_refusal_of terrain)

pub record IsShown (tile : TileId) (terrain note : List ℕ) (reply : Reply) : Type 0 where
  pub least : Option ℤ
  pub greatest : Option ℤ
  pub least_is : IsHeightWord (header_in terrain).least least
  pub greatest_is : IsHeightWord (header_in terrain).greatest greatest
  pub reply_is : reply ≡ shown_reply tile terrain note least greatest

-- by what is held under the names of its terrain and its note
abbrev pub IsShownBy : TileId → Option (List ℕ) → Option (List ℕ) → Reply → Type 0
IsShownBy tile None _ reply = reply ≡ refused_reply (cause_of (TileLost (Terrain tile)))
IsShownBy tile (Some terrain) None reply = reply ≡ refused_reply (cause_of (TileLost (Note tile)))
IsShownBy tile (Some terrain) (Some note) reply = IsShown tile terrain note reply

-- by whether it exists
abbrev pub IsInspected : Bool → TileId → Files → Reply → Type 0
IsInspected false tile files reply = reply ≡ refused_reply (cause_of (NoTile tile))
IsInspected true tile files reply = IsShownBy tile (get files (Terrain tile)) (get files (Note tile)) reply

-- ---- the surface of a stored tile

-- what is told of it, or why it is refused
abbrev pub answer_reply : AnswerText → Reply
answer_reply (Told text) = text_reply text
answer_reply (Refused cause) = refused_reply cause

pub record IsSurfaceReply (tile : TileId) (question : Question) (terrain : List ℕ) (reply : Reply) : Type 0 where
  pub answer : AnswerText
  pub is : IsAnswerTo tile terrain question answer
  pub reply_is : reply ≡ answer_reply answer

-- by what is held under the names of its terrain and its note
abbrev pub IsSurfaceBy : TileId → Question → Option (List ℕ) → Option (List ℕ) → Reply → Type 0
IsSurfaceBy tile question None _ reply = reply ≡ refused_reply (cause_of (TileLost (Terrain tile)))
IsSurfaceBy tile question (Some terrain) None reply = reply ≡ refused_reply (cause_of (TileLost (Note tile)))
IsSurfaceBy tile question (Some terrain) (Some note) reply = IsSurfaceReply tile question terrain reply

-- by whether it exists
abbrev pub IsSurfaceAsked : Bool → TileId → Question → Files → Reply → Type 0
IsSurfaceAsked false tile question files reply = reply ≡ refused_reply (cause_of (NoTile tile))
IsSurfaceAsked true tile question files reply =
    IsSurfaceBy tile question (get files (Terrain tile)) (get files (Note tile)) reply

-- ---- all of them

-- over a database of this state, whose files are these
abbrev pub IsReplyTo : Query → State → Files → Reply → Type 0
IsReplyTo ListCells s files reply = reply ≡ text_reply (list_text_of s.params (summaries_of s.cells))
IsReplyTo (Inspect tile) s files reply = IsInspected (tile_exists s tile) tile files reply
IsReplyTo (Deps tile) s files reply = reply ≡ deps_reply tile s.params.cap (summaries_of s.cells)
IsReplyTo (Heightmap tile) s files reply = reply ≡ heightmap_reply tile s
IsReplyTo (Surface tile question) s files reply = IsSurfaceAsked (tile_exists s tile) tile question files reply
