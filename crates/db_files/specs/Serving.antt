-- What is known of the state behind a call, and how many of its tiles exist.
use Rattle.std.specs.Prelude.{◌≡◌, ℕ, ◌+◌, false, cond, List, [], ◌∷◌, Option, Some, None}
use Rattle.std.specs.Borrow.{Bor}
use Rattle.std.specs.FinMap.{get}
use Rattle.std.specs.Iterator.{AlwaysYields}
use Rattle.std.specs.Ordering.{eq_by_cmp}
use Rattle.terrain_base.specs.declared.cell_key.CellKey.{CellKey}
use Rattle.terrain_base.specs.declared.name.Key.TheVariants.{Cell}
use Rattle.terrain_base.specs.declared.params.Params.{Params}
use Rattle.terrain_base.specs.declared.summary.Summary.{Summary}
use Rattle.terrain_base.specs.declared.tile.TileId.{TileId}
use Rattle.terrain_base.specs.CellKey.{key_cmp}
use Rattle.terrain_base.specs.Step.{Files}
use Rattle.cell_mosaic.specs.Cells.{Cells, AreSound}
use Rattle.cell_mosaic.specs.Summaries.{summaries_of}
use Rattle.cell_cache.specs.Cached.{HoldsCells}
use Rattle.database.specs.State.{State, tile_exists}

-- the bytes behind an optional reference
abbrev pub bytes_of : Option (Bor (List ℕ)) → Option (List ℕ)
bytes_of None = None
bytes_of (Some b) = Some b.now

-- the iterator gives these tiles, in this order, and then none
abbrev pub GivesTiles : {I : Type 0} → (I → Option TileId → I → Type 0) → I → List TileId → Type 0
GivesTiles steps tiles list = AlwaysYields steps (λ tile. tile) tiles list

-- how many of the tiles exist
abbrev pub count_existing : State → List TileId → ℕ
count_existing s [] = 0
count_existing s (tile ∷ tiles) = cond (tile_exists s tile) 1 0 + count_existing s tiles

-- the source tells the cells of the state, and params and rows are the state's
pub record Serves (told : Option Cells) (params : Params) (rows : List Summary) (s : State) : Type 0 where
  pub told_is : told ≡ Some s.cells
  pub params_is : params ≡ s.params
  pub rows_is : rows ≡ summaries_of s.cells

-- the store holds all cells of the state but that of this key, whose bytes are to be these
pub record Closing (held : Option Files) (params : Params) (rows : List Summary) (key : CellKey)
    (bytes : Option (List ℕ)) (s : State) : Type 0 where
  pub files : Files
  pub held_is : held ≡ Some files
  pub params_is : params ≡ s.params
  pub rows_is : rows ≡ summaries_of s.cells
  pub sound : AreSound s.cells
  pub cell_is : get s.cells key ≡ bytes
  pub others : (other : CellKey) (found : List ℕ) → eq_by_cmp key_cmp other key ≡ false
      → get s.cells other ≡ Some found → get files (Cell other) ≡ Some found

-- the store holds all cells of the state
pub record Filling (held : Option Files) (params : Params) (rows : List Summary) (files : Files)
    (s : State) : Type 0 where
  pub held_is : held ≡ Some files
  pub params_is : params ≡ s.params
  pub rows_is : rows ≡ summaries_of s.cells
  pub cells : HoldsCells files s.cells
