-- The refusal of a file, by its parts.
use Rattle.std.proofs.Common.{◌≡◌, ℕ, List}
use Rattle.std.specs.Option.{option_or}
use Rattle.common_laws.specs.First.{first_of}
use Rattle.common_laws.proofs.First.{first_of_append}
use Rattle.dted_cell.specs.Cell.{columns_in, rows_in}
use Rattle.dted_cell.specs.Refusal.{header_conditions, data_conditions, conditions_of, refusal_of}

pub refusal_parts : (bytes : List ℕ) → refusal_of bytes ≡ option_or (first_of (header_conditions bytes)) (first_of (data_conditions bytes (columns_in bytes) (rows_in bytes)))
unfolding refusal_of conditions_of
refusal_parts bytes = first_of_append (header_conditions bytes) (data_conditions bytes (columns_in bytes) (rows_in bytes))
