-- Commands, and how they are spelled.
use Rattle.std.specs.Prelude.{◌≡◌, ◌≤◌, ◌<◌, ◌^◌, ℕ, List, [], ◌∷◌, ◌++◌, length, codes, decimal}
use Rattle.std.specs.Fmt.{signed_decimal}
use Rattle.terrain_base.specs.declared.cell_key.CellKey.{CellKey}
use Rattle.terrain_base.specs.declared.params.Params.{Params}
use Rattle.terrain_base.specs.declared.tile.TileId.{TileId}
use Rattle.terrain_base.specs.Level.{level_number}
use Rattle.terrain_base.specs.SquareText.{square_text}
use Rattle.top_words.specs.declared.command.Query.{Query}
use Rattle.tile_query.specs.declared.question.Question.{Question}
use Rattle.tile_query.specs.declared.question.Question.TheVariants as question
use Rattle.tile_query.specs.Question.{IsGoodQuestion}
use Rattle.mesh_query.specs.declared.spot.Spot.{Spot}
use Rattle.sight_line.specs.declared.eye.Eye.{Eye}
use Rattle.top_words.specs.declared.command.Query.TheVariants as query

-- an edit of the cells, with the name of its file in bytes
pub data Edit : Type 0 where
  Add : (file : List ℕ) → Edit
  Replace : (file : List ℕ) → Edit
  Remove : (key : CellKey) → Edit

pub data DatabaseCommand : Type 0 where
  Ask : (query : Query) → DatabaseCommand
  Change : (edit : Edit) → DatabaseCommand
  Apply : (script : List ℕ) → DatabaseCommand
  Rebuild : DatabaseCommand
  Check : DatabaseCommand

pub data Command : Type 0 where
  Init : (params : Params) → Command
  Database : (command : DatabaseCommand) → Command
  ReadCell : (file : List ℕ) → Command
  Audit : (file : List ℕ) → Command
  Migrate : Command
  Convert : (file : List ℕ) → Command
  Trial : (count number : ℕ) → Command

-- ---- the words after the folder

abbrev pub tile_words : TileId → List (List ℕ)
tile_words tile = decimal tile.z ∷ decimal tile.x ∷ decimal tile.y ∷ []

abbrev pub spot_words : Spot → List (List ℕ)
spot_words spot = decimal spot.u ∷ decimal spot.v ∷ []

abbrev pub eye_words : Eye → List (List ℕ)
eye_words eye = decimal eye.spot.u ∷ decimal eye.spot.v ∷ signed_decimal eye.metres ∷ []

abbrev pub question_words : TileId → Question → List (List ℕ)
question_words tile (question.Height east north) = codes "height" ∷ decimal tile.z ∷ decimal east ∷ decimal north ∷ []
question_words tile (question.Profile start end) =
    codes "profile" ∷ tile_words tile ++ spot_words start ++ spot_words end
question_words tile (question.Sight start end) = codes "sight" ∷ tile_words tile ++ eye_words start ++ eye_words end
question_words tile (question.View eye) = codes "view" ∷ tile_words tile ++ eye_words eye

abbrev pub query_words : Query → List (List ℕ)
query_words query.List = codes "list" ∷ []
query_words (query.Inspect tile) = codes "inspect" ∷ tile_words tile
query_words (query.Deps tile) = codes "deps" ∷ tile_words tile
query_words (query.Heightmap tile) = codes "heightmap" ∷ tile_words tile
query_words (query.Surface tile question) = question_words tile question

abbrev pub edit_words : Edit → List (List ℕ)
edit_words (Add file) = codes "add" ∷ file ∷ []
edit_words (Replace file) = codes "replace" ∷ file ∷ []
edit_words (Remove key) = codes "remove" ∷ square_text key.square ∷ decimal (level_number key.level) ∷ []

abbrev pub database_words : DatabaseCommand → List (List ℕ)
database_words (Ask query) = query_words query
database_words (Change edit) = edit_words edit
database_words (Apply script) = codes "apply" ∷ script ∷ []
database_words Rebuild = codes "rebuild" ∷ []
database_words Check = codes "check" ∷ []

-- numbers in decimal, without leading zeros; a negative one with `-`
abbrev pub words_of : Command → List (List ℕ)
words_of (Init params) = codes "init" ∷ decimal params.cap ∷ signed_decimal params.fill ∷ []
words_of (Database command) = database_words command
words_of (ReadCell file) = codes "cell" ∷ file ∷ []
words_of (Audit file) = codes "audit" ∷ file ∷ []
words_of Migrate = codes "migrate" ∷ []
words_of (Convert file) = codes "convert" ∷ file ∷ []
words_of (Trial count number) = codes "trial" ∷ decimal count ∷ decimal number ∷ []

-- ---- names of files are not empty, numbers are within their ranges, and the ends of a segment are apart

abbrev pub IsGoodQuery : Query → Type 0
IsGoodQuery query.List = Unit {0}
IsGoodQuery (query.Inspect tile) = Unit {0}
IsGoodQuery (query.Deps tile) = Unit {0}
IsGoodQuery (query.Heightmap tile) = Unit {0}
IsGoodQuery (query.Surface tile question) = IsGoodQuestion tile question

abbrev pub IsFileName : List ℕ → Type 0
IsFileName file = 0 < length file

abbrev pub IsGoodEdit : Edit → Type 0
IsGoodEdit (Add file) = IsFileName file
IsGoodEdit (Replace file) = IsFileName file
IsGoodEdit (Remove key) = Unit {0}

abbrev pub IsGoodOfDatabase : DatabaseCommand → Type 0
IsGoodOfDatabase (Ask query) = IsGoodQuery query
IsGoodOfDatabase (Change edit) = IsGoodEdit edit
IsGoodOfDatabase (Apply script) = IsFileName script
IsGoodOfDatabase Rebuild = Unit {0}
IsGoodOfDatabase Check = Unit {0}

abbrev pub IsGood : Command → Type 0
IsGood (Init params) = Unit {0}
IsGood (Database command) = IsGoodOfDatabase command
IsGood (ReadCell file) = IsFileName file
IsGood (Audit file) = IsFileName file
IsGood Migrate = Unit {0}
IsGood (Convert file) = IsFileName file
IsGood (Trial count number) = (count ≤ 64) × (number < 2 ^ 64)

-- the words behind the folder are those of the command
pub record IsSpelled (words : List (List ℕ)) (command : Command) : Type 0 where
  pub are : words ≡ words_of command
  pub good : IsGood command

-- the words are a folder and a command
pub record Spells (words : List (List ℕ)) (command : Command) : Type 0 where
  pub folder : List ℕ
  pub are : words ≡ folder ∷ words_of command
  pub good : IsGood command
