-- A state of a database, its files, and the files that stand for it.
use Rattle.std.specs.Prelude.{◌≡◌, ℕ, ◌≤◌, Bool, true, false, ◌&&◌, nat_le, List, length, Option, Some, None, if◌then◌else◌}
use Rattle.std.specs.FinMap.{get, keys}
use Rattle.std.specs.Ordering.{eq_by_cmp}
use Rattle.terrain_base.specs.declared.params.Params.{Params}
use Rattle.terrain_base.specs.declared.tile.TileId.{TileId}
use Rattle.terrain_base.specs.declared.cell_key.CellKey.{CellKey}
use Rattle.terrain_base.specs.CellKey.{key_cmp}
use Rattle.terrain_base.specs.declared.name.Key.{Key}
use Rattle.terrain_base.specs.declared.name.Key.TheVariants.{Manifest, Layer, Stage, Cell, OldCell, Terrain, Note}
use Rattle.terrain_base.specs.Step.{Files}
use Rattle.tms_tree.specs.Touch.{touches_of}
use Rattle.cell_mosaic.specs.Cells.{Cells, AreSound}
use Rattle.availability.specs.Existence.{exists_of}
use Rattle.availability.specs.Layer.{layer_text_of}
use Rattle.tile_rule.specs.Tile.{terrain_of, note_of}
use Rattle.cell_mosaic.specs.Summaries.{summaries_of}
use Rattle.manifest_lines.specs.declared.state.State.TheVariants.{Closed, Put, Drop, Rebuild}
use Rattle.db_manifest.specs.Manifest.{ManifestState, manifest_text, fits_rows}

-- what a database is: params, and cells by their keys
pub record State : Type 0 where
  pub params : Params
  pub cells : Cells

-- at most 4096 cells, each of its key
pub record IsState (s : State) : Type 0 where
  pub few : length (keys s.cells) ≤ 4096
  pub sound : AreSound s.cells

abbrev pub tile_exists : State → TileId → Bool
tile_exists s tile = exists_of s.params.cap (summaries_of s.cells) tile

abbrev pub where_it_is : Bool → List ℕ → Option (List ℕ)
where_it_is there bytes = if there then Some bytes else None

-- ---- the files of a state

-- what they have under each name
abbrev pub file_of : State → Key → Option (List ℕ)
file_of s Manifest = Some (manifest_text s.params Closed (keys s.cells))
file_of s Layer = Some (layer_text_of s.params.cap (summaries_of s.cells))
file_of s Stage = None
file_of s (Cell key) = get s.cells key
file_of s (OldCell square) = None
file_of s (Terrain tile) = where_it_is (tile_exists s tile) (terrain_of s.params s.cells tile)
file_of s (Note tile) = where_it_is (tile_exists s tile) (note_of s.params s.cells tile)

-- these are the files of the state: byte for byte, and no name more
pub record AreFiles (files : Files) (s : State) : Type 0 where
  pub each : (name : Key) → get files name ≡ file_of s name

-- ---- files that read as a state

-- where the bytes of a cell are while the mark stands
abbrev pub kept_under : ManifestState → CellKey → Key
kept_under Closed key = Cell key
kept_under (Put other) key = if eq_by_cmp key_cmp key other then Stage else Cell key
kept_under (Drop other) key = Cell key
kept_under Rebuild key = Cell key

-- the manifest is that of the state with this mark, a cell that is put has its row and one that is dropped has none,
-- and each cell's bytes are where they are kept
pub record ReadsAs (files : Files) (s : State) (mark : ManifestState) : Type 0 where
  pub manifest : get files Manifest ≡ Some (manifest_text s.params mark (keys s.cells))
  pub fit : fits_rows mark (keys s.cells) ≡ true
  pub state : IsState s
  pub cells : (key : CellKey) (bytes : List ℕ) → get s.cells key ≡ Some bytes
      → get files (kept_under mark key) ≡ Some bytes

-- it reads as the state, whatever is under way
pub record ReadsFor (files : Files) (s : State) : Type 0 where
  pub mark : ManifestState
  pub reads : ReadsAs files s mark

-- ---- files that stand for a state

-- the names that a command on this cell may change
abbrev pub is_changed : ℕ → CellKey → Key → Bool
is_changed cap key Manifest = true
is_changed cap key Layer = true
is_changed cap key Stage = true
is_changed cap key (Cell other) = eq_by_cmp key_cmp other key
is_changed cap key (OldCell square) = false
is_changed cap key (Terrain tile) = nat_le tile.z cap && touches_of tile key.square
is_changed cap key (Note tile) = nat_le tile.z cap && touches_of tile key.square

abbrev pub is_stage : Key → Bool
is_stage Stage = true
is_stage Manifest = false
is_stage Layer = false
is_stage (Cell key) = false
is_stage (OldCell square) = false
is_stage (Terrain tile) = false
is_stage (Note tile) = false

-- the names under which anything may be while the mark stands
abbrev pub is_free : ℕ → ManifestState → Key → Bool
is_free cap Closed name = is_stage name
is_free cap (Put key) name = is_changed cap key name
is_free cap (Drop key) name = is_changed cap key name
is_free cap Rebuild name = true

-- it reads as the state, and under all other names it has the files of the state
pub record StandsMarked (files : Files) (s : State) (mark : ManifestState) : Type 0 where
  pub reads : ReadsAs files s mark
  pub agrees : (name : Key) → is_free s.params.cap mark name ≡ false → get files name ≡ file_of s name

pub record StandsFor (files : Files) (s : State) : Type 0 where
  pub mark : ManifestState
  pub stands : StandsMarked files s mark

-- ---- the map that settling leaves

-- what it has under each name
abbrev pub settled : ManifestState → State → Files → Key → Option (List ℕ)
settled mark s files name = if is_free s.params.cap mark name then file_of s name else get files name
