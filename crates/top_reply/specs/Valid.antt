-- Calls that are done: nothing is wrong with them.
use Rattle.std.specs.Prelude.{◌≡◌, ◌⊎◌, true, false, ℕ, List, [], None, IsSomeAnd}
use Rattle.std.specs.FinMap.{get, keys}
use Rattle.terrain_base.specs.Library.{LibraryFiles}
use Rattle.terrain_base.specs.Step.{Files}
use Rattle.dted_cell.specs.Refusal.{refusal_of}
use Rattle.hgt_cells.specs.Name.{square_named}
use Rattle.hgt_cells.specs.Refusal.{hgt_refusal_of}
use Rattle.mesh_codec.specs.Refusal.{tile_refusal_of}
use Rattle.top_words.specs.declared.command.Query.{Query}
use Rattle.top_words.specs.declared.command.Query.TheVariants.{List as ListCells, Inspect, Deps, Heightmap, Surface}
use Rattle.top_words.specs.Script.{Line, AreLines}
use Rattle.top_words.specs.Words.{Edit, DatabaseCommand, Ask, Change, Apply, Rebuild, Check, Command, Init, Database, ReadCell, Audit, Migrate, Convert, Trial}
use Rattle.database.specs.State.{State, StandsFor, tile_exists}
use Rattle.top_reply.specs.declared.status.Status.{Status}
use Rattle.top_reply.specs.declared.status.Status.TheVariants.{Done, Found}
use Rattle.top_reply.specs.Edits.{edit_reply}
use Rattle.top_reply.specs.File.{Bytes, cell_limit, found_in, script_limit, tile_limit}
use Rattle.top_reply.specs.Lines.{commands_of, refused_in}
use Rattle.top_reply.specs.Migrate.{IsOldDatabase}

-- ---- how they end

abbrev pub IsAudit : Command → Type 0
IsAudit (Init params) = ⊥
IsAudit (Database command) = ⊥
IsAudit (ReadCell file) = ⊥
IsAudit (Audit file) = Unit {0}
IsAudit Migrate = ⊥
IsAudit (Convert file) = ⊥
IsAudit (Trial count number) = ⊥

-- they are done; of a tile whose mesh does not cover it once an audit says so
abbrev pub EndsWell : Command → Status → Type 0
EndsWell command status = (status ≡ Done) ⊎ ((status ≡ Found) × IsAudit command)

-- ---- which they are

-- the tile that is asked for exists
abbrev pub IsValidQuery : Query → State → Type 0
IsValidQuery ListCells s = Unit {0}
IsValidQuery (Inspect tile) s = tile_exists s tile ≡ true
IsValidQuery (Deps tile) s = tile_exists s tile ≡ true
IsValidQuery (Heightmap tile) s = tile_exists s tile ≡ true
IsValidQuery (Surface tile question) s = tile_exists s tile ≡ true

-- the edit's file is held within its limit and is a cell, and the state accepts the command
abbrev pub IsAccepted : Edit → LibraryFiles → State → Type 0
IsAccepted edit library s = (edit_reply edit library s).refused ≡ false

-- the script is held within its limit, and each of its lines that is not passed over is accepted
pub record IsValidScript (script : List ℕ) (library : LibraryFiles) (s : State) : Type 0 where
  pub bytes : List ℕ
  pub lines : List Line
  pub found : found_in script script_limit (get library script) ≡ Bytes bytes
  pub are : AreLines bytes lines
  pub accepted : refused_in library (commands_of 1 lines) s ≡ 0

abbrev pub IsValidOver : DatabaseCommand → LibraryFiles → State → Type 0
IsValidOver (Ask query) library s = IsValidQuery query s
IsValidOver (Change edit) library s = IsAccepted edit library s
IsValidOver (Apply script) library s = IsValidScript script library s
IsValidOver Rebuild library s = Unit {0}
IsValidOver Check library s = Unit {0}

-- the store stands for a state over which the command is valid
pub record IsValidOfDatabase (command : DatabaseCommand) (files : Files) (library : LibraryFiles) : Type 0 where
  pub state : State
  pub stands : StandsFor files state
  pub valid : IsValidOver command library state

-- a file is held within its limit, and nothing refuses it
pub record IsValidFile (file : List ℕ) (limit : ℕ) (library : LibraryFiles) (IsFine : List ℕ → Type 0) : Type 0 where
  pub bytes : List ℕ
  pub found : found_in file limit (get library file) ≡ Bytes bytes
  pub fine : IsFine bytes

abbrev pub IsValid : Command → Files → LibraryFiles → Type 0
IsValid (Init params) files library = keys files ≡ []
IsValid (Database command) files library = IsValidOfDatabase command files library
IsValid (ReadCell file) files library = IsValidFile file cell_limit library (λ bytes. refusal_of bytes ≡ None)
IsValid (Audit file) files library = IsValidFile file tile_limit library (λ bytes. tile_refusal_of bytes ≡ None)
IsValid Migrate files library = IsOldDatabase files
IsValid (Convert file) files library =
    IsSomeAnd (square_named file) (λ square. IsValidFile file cell_limit library (λ bytes. hgt_refusal_of bytes ≡ None))
IsValid (Trial count number) files library = Unit {0}
