-- Lists of tiles in their order: by level, then row, then column.
use Rattle.std.specs.Prelude.{◌≡◌, ℕ, ◌+◌, ◌^◌, Bool, true, false, nat_le, nat_lt, List, flat_map, Option, Some, None, refl}
use Rattle.std.specs.List.{filter, filter_map, range_with_len}
use Rattle.std.proofs.lemmas.Bool.{leb-true, ltb-true}
use Rattle.terrain_base.specs.declared.square.Square.{Square}
use Rattle.terrain_base.specs.declared.summary.Summary.{Summary}
use Rattle.terrain_base.specs.declared.tile.TileId.{TileId}
use Rattle.tms_tree.specs.Touch.{touches_of}
use Rattle.availability.specs.Existence.{exists_of}

-- what comes of a test that holds
unfoldable pub where_true : {X : Type 0} → (b : Bool) → (b ≡ true → Option X) → Option X
where_true true f = f refl
where_true false f = None

-- the tile of this level, row and column, where there is one (TMS 1.0.0, global-geodetic)
unfoldable pub tile_at : ℕ → ℕ → ℕ → Option TileId
tile_at z row column =
    where_true (nat_le z 14) (λ level.
    where_true (nat_lt row (2 ^ z)) (λ south. where_true (nat_lt column (2 ^ (z + 1))) (λ west.
    Some (record {
      z = z;
      y = row;
      x = column;
      z_in_range = leb-true z 14 level;
      y_in_range = ltb-true row (2 ^ z) south;
      x_in_range = ltb-true column (2 ^ (z + 1)) west;
    }))))

-- those of so many columns of a row, from this column on
abbrev pub row_tiles : ℕ → ℕ → ℕ → ℕ → List TileId
row_tiles z row column count = filter_map (tile_at z row) (range_with_len column count)

-- all of a level
abbrev pub level_tiles : ℕ → List TileId
level_tiles z = flat_map (λ row. row_tiles z row 0 (2 ^ (z + 1))) (range_with_len 0 (2 ^ z))

-- all of the levels from 0 to the cap
unfoldable pub all_tiles : ℕ → List TileId
all_tiles cap = flat_map level_tiles (range_with_len 0 (cap + 1))

-- of these the ones that touch the square
unfoldable pub touched : ℕ → Square → List TileId
touched cap square = filter (λ tile. touches_of tile square) (all_tiles cap)

-- of these the ones that exist in a database of these cells with this cap
unfoldable pub existing : ℕ → List Summary → List TileId
existing cap cells = filter (exists_of cap cells) (all_tiles cap)
