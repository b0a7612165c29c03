-- The posts of a cell round a point.
use Rattle.std.proofs.Common.{ℕ, ◌<◌, List, arith}
use Rattle.std.proofs.Math.Nat.{div-le_self}
use Rattle.terrain_base.specs.Level.{lat_step_of}
use Rattle.dted_cell.specs.Cell.{level_in, rows_in}

-- a cell has at most 3601 rows
pub row_small : (bytes : List ℕ) (row : ℕ) → row < rows_in bytes → row < 3601
unfolding rows_in
row_small bytes row h = omega (arith, div-le_self 3600 (lat_step_of (level_in bytes)), h)
