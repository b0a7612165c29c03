-- The cells that are held, by the slots of their keys.
use Rattle.std.specs.Prelude.{◌≡◌, ℕ, ◌<◌, Bool, List, Contains}
use Rattle.terrain_base.specs.declared.cell_key.CellKey.{CellKey}
use Rattle.terrain_base.specs.declared.post.Post.{Post}
use Rattle.dted_cell.specs.Cell.{columns_in, rows_in, post_in}
use Rattle.cell_mosaic.specs.declared.quad.Quad.{Quad}
use Rattle.dted_cell.specs.Elevation.{IsPost}
use Rattle.cell_mosaic.specs.Value.{quad_round, HasRound, ArePosts}
use Rattle.cell_cache.specs.declared.slot.Slot.{Slot}
use Rattle.cell_cache.specs.Slot.{slot_at}

-- a cell in the slot of the key has a post in this column and row
abbrev pub Reaches : List (Slot × List ℕ) → CellKey → ℕ → ℕ → Type 0
Reaches held key col row = (bytes : List ℕ) → Contains held (slot_at key, bytes)
    → (col < columns_in bytes) × (row < rows_in bytes)

-- it is the post of a cell in the slot of the key
pub record IsHeldPost (held : List (Slot × List ℕ)) (key : CellKey) (col row : ℕ) (post : Post) : Type 0 where
  pub bytes : List ℕ
  pub there : Contains held (slot_at key, bytes)
  pub value : post ≡ post_in bytes col row
  pub height : IsPost post

-- a cell in the slot of the key has the posts round a point of this column and row
abbrev pub ReachesRound : List (Slot × List ℕ) → CellKey → ℕ → ℕ → Bool → Bool → Type 0
ReachesRound held key col row on_column on_row =
    (bytes : List ℕ) → Contains held (slot_at key, bytes) → HasRound bytes col row on_column on_row

-- they are the posts round that point of a cell in the slot of the key
pub record IsHeldQuad (held : List (Slot × List ℕ)) (key : CellKey) (col row : ℕ) (on_column on_row : Bool)
    (quad : Quad) : Type 0 where
  pub bytes : List ℕ
  pub there : Contains held (slot_at key, bytes)
  pub value : quad ≡ quad_round (post_in bytes) col row on_column on_row
  pub height : ArePosts quad

-- nothing else is held than was before
abbrev pub NoneElse : List (Slot × List ℕ) → List (Slot × List ℕ) → Type 0
NoneElse before now = (slot : Slot) (bytes : List ℕ) → Contains now (slot, bytes) → Contains before (slot, bytes)
