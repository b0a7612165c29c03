-- The cells of HGT files.
use Rattle.std.proofs.Common.{ℕ, ◌<◌, List, length, arith, length-append}
use Rattle.std.specs.List.{flat_map, range_with_len}
use Rattle.terrain_base.specs.declared.square.Square.{Square}
use Rattle.terrain_base.specs.Level.{rows_of, columns_of}
use Rattle.dted_write.specs.Header.{header_text}
use Rattle.dted_write.specs.Cell.{cell_text, record_from}
use Rattle.dted_write.proofs.Headers.{header_length}
use Rattle.hgt_cells.specs.File.{level_in}
use Rattle.hgt_cells.specs.Cell.{hgt_post, hgt_cell_text}

pub cell_has_bytes : (square : Square) (bytes : List ℕ) → 0 < length (hgt_cell_text square bytes)
unfolding hgt_cell_text cell_text
cell_has_bytes square bytes =
    let level = level_in bytes in
    let records = flat_map (record_from (hgt_post square bytes) (rows_of level))
    (range_with_len 0 (columns_of square level)) in
    omega (arith, length-append (header_text square level) records, header_length square level)
