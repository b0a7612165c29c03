-- The text of a cell that is written (MIL-PRF-89020).
use Rattle.std.specs.Prelude.{ℕ, List, ◌++◌, map, flat_map}
use Rattle.std.specs.List.{range_with_len}
use Rattle.terrain_base.specs.declared.square.Square.{Square}
use Rattle.terrain_base.specs.declared.level.CellLevel.{CellLevel}
use Rattle.terrain_base.specs.declared.post.Post.{Post}
use Rattle.terrain_base.specs.Level.{rows_of, columns_of}
use Rattle.dted_write.specs.Header.{header_text}
use Rattle.dted_write.specs.Record.{record_text}

-- the posts of a column, from the south on, where each post is given by its column and row
abbrev pub column_of : (ℕ → ℕ → Post) → ℕ → ℕ → List Post
column_of post rows col = map (post col) (range_with_len 0 rows)

-- the posts of a square's cell of this level, a list for each column from the west on
unfoldable pub columns_from : Square → CellLevel → (ℕ → ℕ → Post) → List (List Post)
columns_from square level post = map (column_of post (rows_of level)) (range_with_len 0 (columns_of square level))

-- the record of a column
abbrev pub record_from : (ℕ → ℕ → Post) → ℕ → ℕ → List ℕ
record_from post rows col = record_text col (column_of post rows col)

-- the header and the records, from the west on
unfoldable pub cell_text : Square → CellLevel → (ℕ → ℕ → Post) → List ℕ
cell_text square level post =
    header_text square level ++
    flat_map (record_from post (rows_of level)) (range_with_len 0 (columns_of square level))
