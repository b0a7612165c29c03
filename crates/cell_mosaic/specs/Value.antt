-- The value at a place in a cell, and in the cells of a square.
use Rattle.std.specs.Prelude.{
  ℕ,
  ◌+◌,
  ◌-◌,
  ◌*◌,
  ◌/◌,
  ◌%◌,
  ◌<◌,
  ◌==◌,
  ◌||◌,
  Bool,
  not,
  IsFalse,
  List,
  map,
  Option,
  Some,
  None,
  if◌then◌else◌,
}
use Rattle.std.specs.List.{find}
use Rattle.std.specs.FinMap.{get}
use Rattle.terrain_base.specs.declared.square.Square.{Square}
use Rattle.terrain_base.specs.declared.level.CellLevel.{CellLevel}
use Rattle.terrain_base.specs.declared.cell_key.CellKey.{CellKey}
use Rattle.terrain_base.specs.CellKey.{key_at, all_levels}
use Rattle.terrain_base.specs.declared.post.Post.{Post}
use Rattle.terrain_base.specs.declared.post.Post.TheVariants.{Void}
use Rattle.terrain_base.specs.Level.{rows_of, columns_of}
use Rattle.tms_tree.specs.declared.place.Place.{Place}
use Rattle.tms_tree.specs.Degrees.{RectangleHolds, square_rectangle}
use Rattle.tms_tree.specs.Place.{IsPlace, point_of}
use Rattle.dted_cell.specs.Cell.{level_in, columns_in, rows_in, post_in, is_void_post}
use Rattle.dted_cell.specs.Elevation.{IsPost}
use Rattle.cell_mosaic.specs.Cells.{Cells, AreSound}
use Rattle.cell_mosaic.specs.Blend.{blend_of}
use Rattle.cell_mosaic.specs.declared.quad.Quad.{Quad}

-- how far the place lies east of the square's western meridian, and north of its southern parallel, in units of a
-- degree over `d`; longitudes modulo 360
abbrev pub east_of : Square → Place → ℕ
east_of square place = (180 * place.p + (360 - square.lon) * place.d) % (360 * place.d)

abbrev pub north_of : Square → Place → ℕ
north_of square place = 180 * place.q - square.lat * place.d

-- the same in steps from post to post, over `d`: a degree has one step less than posts
abbrev pub steps_east : Square → CellLevel → Place → ℕ
steps_east square level place = east_of square place * (columns_of square level - 1)

abbrev pub steps_north : Square → CellLevel → Place → ℕ
steps_north square level place = north_of square place * (rows_of level - 1)

-- a post, or a void in its place where its weight is 0, as it is behind the last column or row
abbrev pub unless_ignored : Bool → Post → Post
unless_ignored is_ignored post = if is_ignored then Void else post

-- the posts round a point: the south-west one is that of the column and the row, and where the point lies on the column
-- or on the row, those beyond have the weight 0
abbrev pub quad_round : (ℕ → ℕ → Post) → ℕ → ℕ → Bool → Bool → Quad
quad_round posts col row on_column on_row = record {
  sw = posts col row;
  se = unless_ignored on_column (posts (col + 1) row);
  nw = unless_ignored on_row (posts col (row + 1));
  ne = unless_ignored (on_column || on_row) (posts (col + 1) (row + 1));
}

-- those round the point that lies east/d and north/d steps from the cell's south-west post
abbrev pub quad_at : (ℕ → ℕ → Post) → ℕ → ℕ → ℕ → Quad
quad_at posts east north d = quad_round posts (east / d) (north / d) (east % d == 0) (north % d == 0)

-- the value between the posts round the place
unfoldable pub value_in_cell : (ℕ → ℕ → Post) → Square → CellLevel → Place → Post
value_in_cell posts square level place =
    let east = steps_east square level place in
    let north = steps_north square level place in
    blend_of (quad_at posts east north place.d) (east % place.d) place.d (north % place.d) place.d

abbrev pub value_or_void : Option (List ℕ) → Square → Place → Post
value_or_void None square place = Void
value_or_void (Some bytes) square place = value_in_cell (post_in bytes) square (level_in bytes) place

-- the value at the place in the cell of the key
abbrev pub value_in_key : Cells → CellKey → Place → Post
value_in_key cells key place = value_or_void (get cells key) key.square place

abbrev pub is_known : Post → Bool
is_known post = not (is_void_post post)

abbrev pub known_or_void : Option Post → Post
known_or_void None = Void
known_or_void (Some post) = post

-- the first value that is not void in the square's cells of these levels
abbrev pub value_in_levels : Cells → Square → Place → List CellLevel → Post
value_in_levels cells square place levels =
    known_or_void (find is_known (map (λ level. value_in_key cells (key_at square level) place) levels))

-- the value at the place in the square: the first that is not void in its cells, the finest first
unfoldable pub value_at : Cells → Square → Place → Post
value_at cells square place = value_in_levels cells square place all_levels

-- the cell has the posts round a point of a column and a row: those beyond are needed only where the point does not lie
-- on the column, or on the row
pub record HasRound (bytes : List ℕ) (col row : ℕ) (on_column on_row : Bool) : Type 0 where
  pub in_col : col < columns_in bytes
  pub in_row : row < rows_in bytes
  pub next_col : IsFalse on_column → col + 1 < columns_in bytes
  pub next_row : IsFalse on_row → row + 1 < rows_in bytes

-- each of the four is void or a height
pub record ArePosts (quad : Quad) : Type 0 where
  pub sw : IsPost quad.sw
  pub se : IsPost quad.se
  pub nw : IsPost quad.nw
  pub ne : IsPost quad.ne

-- a value in a square is void or a height
abbrev pub ValuesArePosts : Type 0
ValuesArePosts = (cells : Cells) (square : Square) (place : Place) → AreSound cells → IsPlace place
    → RectangleHolds (square_rectangle square) (point_of place)
    → IsPost (value_at cells square place)
