-- Where the changes behind a mark stop.
use Rattle.std.proofs.Common.{◌≡◌, ℕ, List, [], ◌∷◌, Option, Result, sym}
use Rattle.std.specs.FinMap.{get}
use Rattle.terrain_base.specs.declared.cell_key.CellKey.{CellKey}
use Rattle.terrain_base.specs.declared.name.Key.TheVariants.{Cell}
use Rattle.terrain_base.specs.declared.store.Change.{Change}
use Rattle.terrain_base.specs.declared.tile.TileId.{TileId}
use Rattle.terrain_base.specs.Step.{Files}
use Rattle.terrain_base.specs.Run.{AllDone, SomeDone, Ran}
use Rattle.terrain_base.specs.Overwrite.{step_to, steps_to}
use Rattle.terrain_base.proofs.Runs.{goes_on, stops, some_as, all_as}
use Rattle.tile_deps.specs.Tiles.{touched}
use Rattle.database.specs.State.{State, file_of}
use Rattle.database.specs.Commands.{last_names, closing}
use Rattle.db_files.proofs.Parts.{ran_as, ran_behind}
use Rattle.db_files.proofs.TileSteps.{tile_steps, closing_split}

cell_as : (s : State) (k : CellKey) (bytes : Option (List ℕ)) → get s.cells k ≡ bytes → step_to bytes (Cell k) ∷ [] ≡ step_to (get s.cells k) (Cell k) ∷ []
cell_as s k bytes e = λ i. step_to (sym e i) (Cell k) ∷ []

tiles_as : (s : State) (k : CellKey) (tiles : List TileId) → tiles ≡ touched s.params.cap k.square → tile_steps s tiles ≡ tile_steps s (touched s.params.cap k.square)
tiles_as s k tiles e = λ i. tile_steps s (e i)

pub stop_at_cell : (s : State) (k : CellKey) (bytes : Option (List ℕ)) {f : Option Files} {l : Option (List Change)} {f' : Option Files} {l' : Option (List Change)} → get s.cells k ≡ bytes
    → SomeDone (step_to bytes (Cell k) ∷ []) f l f' l' → SomeDone (closing k s) f l f' l'
stop_at_cell s k bytes e d = some_as (closing_split s k) (stops _ (some_as (cell_as s k bytes e) d))

pub stop_at_tiles : (s : State) (k : CellKey) (bytes : Option (List ℕ)) (tiles : List TileId) {f : Option Files} {l : Option (List Change)} {m : Option Files} {n : Option (List Change)} {f' : Option Files} {l' : Option (List Change)}
    → get s.cells k ≡ bytes → tiles ≡ touched s.params.cap k.square → AllDone (step_to bytes (Cell k) ∷ []) f l m n → SomeDone (tile_steps s tiles) m n f' l' → SomeDone (closing k s) f l f' l'
stop_at_tiles s k bytes tiles e t a d = some_as (closing_split s k) (goes_on (all_as (cell_as s k bytes e) a) (stops _ (some_as (tiles_as s k tiles t) d)))

pub to_the_end : {T E : Type 0} (s : State) (k : CellKey) (bytes : Option (List ℕ)) (tiles : List TileId) (result : Result T E) {f : Option Files} {l : Option (List Change)} {m : Option Files} {n : Option (List Change)} {o : Option Files} {p : Option (List Change)} {f' : Option Files} {l' : Option (List Change)}
    → get s.cells k ≡ bytes → tiles ≡ touched s.params.cap k.square → AllDone (step_to bytes (Cell k) ∷ []) f l m n → AllDone (tile_steps s tiles) m n o p → Ran (steps_to (file_of s) last_names) o p f' l' result → Ran (closing k s) f l f' l' result
to_the_end s k bytes tiles result e t a b r = ran_as result (closing_split s k) (ran_behind result (all_as (cell_as s k bytes e) a) (ran_behind result (all_as (tiles_as s k tiles t) b) r))
