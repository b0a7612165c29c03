-- What states, files and changes are held to.
use Rattle.std.specs.Prelude.{◌≡◌, ◌≢◌, ◌⊎◌, ℕ, ◌≤◌, false, length, take, if◌then◌else◌}
use Rattle.std.specs.FinMap.{get}
use Rattle.terrain_base.specs.declared.cell_key.CellKey.{CellKey}
use Rattle.terrain_base.specs.declared.name.Key.{Key}
use Rattle.terrain_base.specs.declared.params.Params.{Params}
use Rattle.terrain_base.specs.declared.square.Square.{Square}
use Rattle.terrain_base.specs.declared.tile.TileId.{TileId}
use Rattle.terrain_base.specs.Step.{Files}
use Rattle.terrain_base.specs.Overwrite.{all_changed}
use Rattle.tms_tree.specs.Touch.{touches_of}
use Rattle.manifest_lines.specs.declared.state.State.TheVariants.{Closed}
use Rattle.db_manifest.specs.Manifest.{ManifestState}
use Rattle.cell_mosaic.specs.Cells.{Cells}
use Rattle.tile_rule.specs.Tile.{terrain_of, note_of}
use Rattle.database.specs.Commands.{Edit, after, calls, key_of, settling, rebuild_calls, OldOrNew}
use Rattle.database.specs.Opening.{Opening, OpensAs}
use Rattle.database.specs.State.{State, IsState, AreFiles, ReadsAs, ReadsFor, StandsMarked, StandsFor, file_of, is_changed, settled, tile_exists}

abbrev pub state_of : Params → Cells → State
state_of params cells = record { params = params; cells = cells }

-- ---- locality

-- where two states agree on all keys but those of a square, a tile that does not touch it exists in both or in neither,
-- with equal files
abbrev pub TilesAreLocal : Type 0
TilesAreLocal = (params : Params) (cells others : Cells) (square : Square)
    → ((key : CellKey) → key.square ≢ square → get cells key ≡ get others key)
    → (tile : TileId) → touches_of tile square ≡ false
    → (tile_exists (state_of params cells) tile ≡ tile_exists (state_of params others) tile)
    × (terrain_of params cells tile ≡ terrain_of params others tile)
    × (note_of params cells tile ≡ note_of params others tile)

-- ---- commands

-- begun on files that stand for a state, closed, each front of a command's changes leaves files that stand for it or
-- for the new one, and all of them leave the new one's
abbrev pub CommandsStand : Type 0
CommandsStand = (c : Edit) (s : State) (files : Files) → IsState (after c s) → StandsMarked files s Closed
    → ((n : ℕ) → n ≤ length (calls c s) → OldOrNew c s (all_changed (take n (calls c s)) files))
    × AreFiles (all_changed (calls c s) files) (after c s)

-- after them the names that change have the files of the new state, and every other what it had, whatever was held
abbrev pub CommandsOverwrite : Type 0
CommandsOverwrite = (c : Edit) (s : State) (files : Files) (name : Key)
    → get (all_changed (calls c s) files) name
    ≡ (if is_changed s.params.cap (key_of c) name then file_of (after c s) name else get files name)

-- ---- settling

-- over files that stand for a state each front of settling leaves files that do, and all of it leaves the state's
abbrev pub SettlingStands : Type 0
SettlingStands = (mark : ManifestState) (s : State) (files : Files) → StandsMarked files s mark
    → ((n : ℕ) → n ≤ length (settling mark files s) → StandsFor (all_changed (take n (settling mark files s)) files) s)
    × AreFiles (all_changed (settling mark files s) files) s

-- over files that only read as it each front leaves files that do, and all of it the settled ones
abbrev pub SettlingReads : Type 0
SettlingReads = (mark : ManifestState) (s : State) (files : Files) → ReadsAs files s mark
    → ((n : ℕ) → n ≤ length (settling mark files s) → ReadsFor (all_changed (take n (settling mark files s)) files) s)
    × ((name : Key) → get (all_changed (settling mark files s) files) name ≡ settled mark s files name)

-- ---- rebuilding

-- over files that read as a state, closed, each front of a rebuilding is nothing or leaves files that stand for it, and
-- all of it leaves the state's
abbrev pub RebuildingsStand : Type 0
RebuildingsStand = (s : State) (files : Files) → ReadsAs files s Closed
    → ((n : ℕ) → n ≤ length (rebuild_calls files s)
    → (all_changed (take n (rebuild_calls files s)) files ≡ files)
    ⊎ StandsFor (all_changed (take n (rebuild_calls files s)) files) s)
    × AreFiles (all_changed (rebuild_calls files s) files) s

-- ---- openings

-- files open in at most one way
abbrev pub FilesOpenOnce : Type 0
FilesOpenOnce = (files : Files) (a b : Opening) → OpensAs files a → OpensAs files b → a ≡ b
