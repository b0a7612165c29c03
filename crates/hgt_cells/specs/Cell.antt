-- The cell of an HGT file.
use Rattle.std.specs.Prelude.{ℕ, ◌-◌, ◌*◌, List}
use Rattle.terrain_base.specs.declared.square.Square.{Square}
use Rattle.terrain_base.specs.declared.post.Post.{Post}
use Rattle.terrain_base.specs.Level.{zone_factor_of}
use Rattle.dted_write.specs.Cell.{cell_text}
use Rattle.hgt_cells.specs.Sample.{post_of}
use Rattle.hgt_cells.specs.File.{level_in, lines_in, sample_in}

-- the post of a column, from the west, and a row, from the south: lines come from the north, and of the samples on a
-- line each is taken that stands on a meridian of the square's zone
unfoldable pub hgt_post : Square → List ℕ → ℕ → ℕ → Post
hgt_post square bytes col row =
    post_of (sample_in bytes (lines_in bytes - 1 - row) (col * zone_factor_of square.lat))

-- the cell's bytes: level 1 for 1201 lines, level 2 for 3601
unfoldable pub hgt_cell_text : Square → List ℕ → List ℕ
hgt_cell_text square bytes = cell_text square (level_in bytes) (hgt_post square bytes)
