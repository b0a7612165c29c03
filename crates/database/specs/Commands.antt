-- Commands, the states after them, and the changes of the store that they make, in order.
use Rattle.std.specs.Prelude.{ℕ, Bool, ◌&&◌, not, is_some, nat_le, List, [], ◌∷◌, ◌++◌, length, ◌⊎◌, Option, Some, None, if◌then◌else◌}
use Rattle.std.specs.List.{filter}
use Rattle.std.specs.FinMap.{get, keys, insert, remove}
use Rattle.terrain_base.specs.declared.tile.TileId.{TileId}
use Rattle.terrain_base.specs.declared.cell_key.CellKey.{CellKey}
use Rattle.terrain_base.specs.declared.name.Key.{Key}
use Rattle.terrain_base.specs.declared.name.Key.TheVariants.{Manifest, Layer, Stage, Cell, Terrain, Note}
use Rattle.terrain_base.specs.Step.{Files, Step, Write, Erase}
use Rattle.terrain_base.specs.Overwrite.{steps_to}
use Rattle.db_manifest.specs.Manifest.{ManifestState}
use Rattle.manifest_lines.specs.declared.state.State.TheVariants.{Closed, Put, Drop, Rebuild}
use Rattle.db_manifest.specs.Manifest.{manifest_text}
use Rattle.tile_deps.specs.Tiles.{touched}
use Rattle.tile_deps.specs.Tiles as tiles
use Rattle.cell_mosaic.specs.Summaries.{summaries_of}
use Rattle.database.specs.declared.answer.EngineAnswer.{EngineAnswer}
use Rattle.database.specs.declared.answer.EngineAnswer.TheVariants.{CellPresent, CellAbsent, DatabaseFull}
use Rattle.database.specs.State.{State, StandsFor, file_of, is_stage}

-- ---- what may be asked, and what comes of it

pub data Command : Type 0 where
  Add : (key : CellKey) → (bytes : List ℕ) → Command
  Replace : (key : CellKey) → (bytes : List ℕ) → Command
  Remove : (key : CellKey) → Command

abbrev pub has_key : State → CellKey → Bool
has_key s key = is_some (get s.cells key)

-- which refusal the command meets, if any
abbrev pub refusal_of : Command → State → Option EngineAnswer
refusal_of (Add key bytes) s =
    if has_key s key then Some (CellPresent key.square key.level)
    else (if nat_le 4096 (length (keys s.cells)) then Some DatabaseFull else None)
refusal_of (Replace key bytes) s = if has_key s key then None else Some (CellAbsent key.square key.level)
refusal_of (Remove key) s = if has_key s key then None else Some (CellAbsent key.square key.level)

-- what a command that is not refused does to the cells
pub data Edit : Type 0 where
  PutCell : (key : CellKey) → (bytes : List ℕ) → Edit
  DropCell : (key : CellKey) → Edit

abbrev pub edit_of : Command → Edit
edit_of (Add key bytes) = PutCell key bytes
edit_of (Replace key bytes) = PutCell key bytes
edit_of (Remove key) = DropCell key

-- the state after it
abbrev pub after : Edit → State → State
after (PutCell key bytes) s = record { params = s.params; cells = insert s.cells key bytes }
after (DropCell key) s = record { params = s.params; cells = remove s.cells key }

-- a refused command leaves the state
abbrev pub next : Command → State → State
next c s = if is_some (refusal_of c s) then s else after (edit_of c) s

abbrev pub key_of : Edit → CellKey
key_of (PutCell key bytes) = key
key_of (DropCell key) = key

-- ---- the changes of the store, in order

-- the two names of each tile
abbrev pub tile_names : List TileId → List Key
tile_names [] = []
tile_names (tile ∷ tiles) = Terrain tile ∷ Note tile ∷ tile_names tiles

-- the layer, the closed manifest, and no stage
abbrev pub last_names : List Key
last_names = Layer ∷ Manifest ∷ Stage ∷ []

-- the tiles that exist
abbrev pub existing : State → List TileId
existing s = tiles.existing s.params.cap (summaries_of s.cells)

-- once the mark stands: the cell, and the tiles that touch it
abbrev pub inner_names : ℕ → CellKey → List Key
inner_names cap key = Cell key ∷ tile_names (touched cap key.square)

abbrev pub changed_names : ℕ → CellKey → List Key
changed_names cap key = inner_names cap key ++ last_names

abbrev pub closing : CellKey → State → List Step
closing key s = steps_to (file_of s) (changed_names s.params.cap key)

abbrev pub marked_text : ManifestState → State → List ℕ
marked_text mark s = manifest_text s.params mark (keys s.cells)

-- the stage and the mark, with the state after the edit
abbrev pub opening : Edit → State → List Step
opening (PutCell key bytes) s = Write Stage bytes ∷ Write Manifest (marked_text (Put key) s) ∷ []
opening (DropCell key) s = Write Manifest (marked_text (Drop key) s) ∷ []

-- all changes of an edit of a state
abbrev pub calls : Edit → State → List Step
calls c s = opening c (after c s) ++ closing (key_of c) (after c s)

-- held, and neither a file of the state nor the stage
abbrev pub is_extra : State → Key → Bool
is_extra s name = not (is_some (file_of s name)) && not (is_stage name)

-- a rebuilding deletes what is no file, makes every tile anew, and ends as a command does
abbrev pub rebuild_names : Files → State → List Key
rebuild_names files s = filter (is_extra s) (keys files) ++ (tile_names (existing s) ++ last_names)

abbrev pub rebuilding : Files → State → List Step
rebuilding files s = steps_to (file_of s) (rebuild_names files s)

-- `init` and `rebuild`
abbrev pub rebuild_calls : Files → State → List Step
rebuild_calls files s = Write Manifest (marked_text Rebuild s)
    ∷ rebuilding (insert files Manifest (marked_text Rebuild s)) s

-- settling finishes what is under way
abbrev pub settling : ManifestState → Files → State → List Step
settling Closed files s = Erase Stage ∷ []
settling (Put key) files s = closing key s
settling (Drop key) files s = closing key s
settling Rebuild files s = rebuilding files s

-- ---- what is promised of them

abbrev pub OldOrNew : Edit → State → Files → Type 0
OldOrNew c s files = StandsFor files s ⊎ StandsFor files (after c s)
