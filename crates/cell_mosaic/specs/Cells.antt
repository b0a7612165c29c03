-- Cells by their keys, and their posts.
use Rattle.std.specs.Prelude.{◌≡◌, ℕ, ◌<◌, Bool, true, List, [], ◌∷◌, Option, Some, None, is_some, slice_index}
use Rattle.std.specs.List.{find, list_any}
use Rattle.std.specs.FinMap.{FinMap, get}
use Rattle.std.specs.FinSet.{FinSet, contains}
use Rattle.terrain_base.specs.declared.square.Square.{Square}
use Rattle.terrain_base.specs.declared.level.CellLevel.{CellLevel}
use Rattle.terrain_base.specs.declared.level.CellLevel.TheVariants.{Zero, One, Two}
use Rattle.terrain_base.specs.declared.cell_key.CellKey.{CellKey}
use Rattle.terrain_base.specs.declared.post.Post.{Post}
use Rattle.terrain_base.specs.declared.post.Post.TheVariants.{Void}
use Rattle.terrain_base.specs.CellKey.{key_at, key_cmp, all_levels}
use Rattle.terrain_base.specs.Level.{rows_of, columns_of}
use Rattle.dted_cell.specs.Cell.{post_in}
use Rattle.dted_cell.specs.Trouble.{IsCellAt}

-- the cell of each key, as the bytes of its file
abbrev pub Cells : Type 0
Cells = FinMap key_cmp (List ℕ)

-- the keys that have a cell
abbrev pub Shapes : Type 0
Shapes = FinSet key_cmp

-- each key's bytes are a cell of that square and level, and the keys are those of the shapes
pub record AreCells (cells : Cells) (shapes : Shapes) : Type 0 where
  pub keys : (key : CellKey) → is_some (get cells key) ≡ contains shapes key
  pub each : (key : CellKey) (bytes : List ℕ) → get cells key ≡ Some bytes → IsCellAt key bytes

-- the square has a cell, of whatever level
abbrev pub has_cell : Cells → Square → Bool
has_cell cells square = list_any (λ level. is_some (get cells (key_at square level))) all_levels

-- the first of the levels that the square has a cell of
abbrev pub first_level : Shapes → Square → List CellLevel → Option CellLevel
first_level shapes square levels = find (λ level. contains shapes (key_at square level)) levels

-- the finest level of the square's cells
abbrev pub finest_of : Shapes → Square → Option CellLevel
finest_of shapes square = first_level shapes square all_levels

-- the levels coarser than this one, in their order
abbrev pub coarser_levels : CellLevel → List CellLevel
coarser_levels Two = One ∷ Zero ∷ []
coarser_levels One = Zero ∷ []
coarser_levels Zero = []

-- the next coarser level of the key's square
abbrev pub coarser_of : Shapes → CellKey → Option CellLevel
coarser_of shapes key = first_level shapes key.square (coarser_levels key.level)

-- the key has a cell, and the cell has a post in this column and row
pub record HasPost (shapes : Shapes) (key : CellKey) (col row : ℕ) : Type 0 where
  pub held : contains shapes key ≡ true
  pub in_col : col < columns_of key.square key.level
  pub in_row : row < rows_of key.level

abbrev pub post_or_void : Option (List ℕ) → ℕ → ℕ → Post
post_or_void None col row = Void
post_or_void (Some bytes) col row = post_in bytes col row

-- the post of the key's cell in a column from the west and a row from the south
abbrev pub post_at : Cells → CellKey → ℕ → ℕ → Post
post_at cells key col row = post_or_void (get cells key) col row

-- the bytes are bytes, and a cell of this key
pub record IsSoundCell (key : CellKey) (bytes : List ℕ) : Type 0 where
  pub each : (k : ℕ) → slice_index bytes k < 256
  pub cell : IsCellAt key bytes

-- those of each key are
abbrev pub AreSound : Cells → Type 0
AreSound cells = (key : CellKey) (bytes : List ℕ) → get cells key ≡ Some bytes → IsSoundCell key bytes
