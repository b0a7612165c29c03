-- What the definitions of existence, runs, counts and layer texts say of one another.
use Rattle.std.specs.Prelude.{◌≡◌, ℕ, ◌<◌, ◌≤◌, List, ◌∷◌, ◌++◌, length, true, false, IsTrue, ◌↔◌}
use Rattle.terrain_base.specs.declared.summary.Summary.{Summary}
use Rattle.terrain_base.specs.declared.tile.TileId.{TileId}
use Rattle.tms_tree.specs.Touch.{touches_of}
use Rattle.availability.specs.declared.row_run.RowRun.{RowRun}
use Rattle.availability.specs.Count.{ListsTiles, tile_count_of}
use Rattle.availability.specs.Existence.{Exists, exists_of, exists_at, is_tile, HasNear}
use Rattle.availability.specs.Layer.{deepest_of, layer_text_of}
use Rattle.availability.specs.Runs.{AreRuns, runs_of}

-- the test of existence holds exactly where the tile exists
abbrev pub TestLaw : Type 0
TestLaw = (cap : ℕ) (cells : List Summary) (tile : TileId) → IsTrue (exists_of cap cells tile) ↔ Exists cap cells tile

-- a tile above the cap does not exist
abbrev pub CapLaw : Type 0
CapLaw = (cap : ℕ) (cells : List Summary) (tile : TileId) → cap < tile.z → exists_of cap cells tile ≡ false

-- ---- existence depends on the cells alone that touch the tile

-- lists with the same cells that touch it agree
abbrev pub NearLaw : Type 0
NearLaw =
    (cap : ℕ) (cells others : List Summary) (tile : TileId) → HasNear tile cells others → HasNear tile others cells
    → exists_of cap cells tile ≡ exists_of cap others tile

-- a cell that does not touch it may be put in or taken out
abbrev pub AddedLaw : Type 0
AddedLaw =
    (cap : ℕ) (front back : List Summary) (cell : Summary) (tile : TileId) → touches_of tile cell.square ≡ false
    → exists_of cap (front ++ cell ∷ back) tile ≡ exists_of cap (front ++ back) tile

-- and be replaced by another that does not
abbrev pub ReplacedLaw : Type 0
ReplacedLaw =
    (cap : ℕ) (front back : List Summary) (cell other : Summary) (tile : TileId)
    → touches_of tile cell.square ≡ false → touches_of tile other.square ≡ false
    → exists_of cap (front ++ cell ∷ back) tile ≡ exists_of cap (front ++ other ∷ back) tile

-- ---- existence by numbers

-- it is that of the tile with the numbers
abbrev pub NumbersLaw : Type 0
NumbersLaw = (cap : ℕ) (cells : List Summary) (tile : TileId)
    → exists_at cap cells tile.z tile.y tile.x ≡ exists_of cap cells tile

-- where there is no such tile, none exists
abbrev pub NoTileLaw : Type 0
NoTileLaw = (cap z row column : ℕ) (cells : List Summary) → is_tile z row column ≡ false
    → exists_at cap cells z row column ≡ false

-- ---- runs

-- the function gives the maximal runs
abbrev pub RunsLaw : Type 0
RunsLaw = (cap z : ℕ) (cells : List Summary) → AreRuns cap cells z (runs_of cap cells z)

-- and there is no other list of them
abbrev pub OneListLaw : Type 0
OneListLaw = (cap z : ℕ) (cells : List Summary) (list : List RowRun) → AreRuns cap cells z list
    → list ≡ runs_of cap cells z

-- ---- the layer text

-- a tile of the deepest level exists
abbrev pub ReachedLaw : Type 0
ReachedLaw =
    (cap : ℕ) (cells : List Summary)
    → (tile : TileId) × (tile.z ≡ deepest_of cap cells) × (exists_of cap cells tile ≡ true)

-- and none of a deeper one
abbrev pub DeepestLaw : Type 0
DeepestLaw = (cap : ℕ) (cells : List Summary) (tile : TileId) → exists_of cap cells tile ≡ true
    → tile.z ≤ deepest_of cap cells

-- the text is a function of the existing tiles
abbrev pub TellsLaw : Type 0
TellsLaw =
    (cap top : ℕ) (cells others : List Summary)
    → ((tile : TileId) → exists_of cap cells tile ≡ exists_of top others tile)
    → layer_text_of cap cells ≡ layer_text_of top others

-- ---- the count

-- there is a list that has each existing tile once
abbrev pub ListedLaw : Type 0
ListedLaw = (cap : ℕ) (cells : List Summary) → (tiles : List TileId) × ListsTiles cap cells tiles

-- and each such list is as long as the count
abbrev pub CountLaw : Type 0
CountLaw = (cap : ℕ) (cells : List Summary) (tiles : List TileId) → ListsTiles cap cells tiles
    → length tiles ≡ tile_count_of cap cells
