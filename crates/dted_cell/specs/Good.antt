-- What is known of a file that was read.
use Rattle.std.specs.Prelude.{◌≡◌, ℕ, List, None}
use Rattle.dted_cell.specs.Refusal.{refusal_of}
use Rattle.dted_cell.specs.Fields.{SaysHeader}
use Rattle.dted_cell.specs.declared.header.Header.{Header}

-- the file is a cell, and this is its header
pub record IsGood (bytes : List ℕ) (header : Header) : Type 0 where
  pub accepted : refusal_of bytes ≡ None
  pub says : SaysHeader bytes header
