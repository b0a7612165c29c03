use Rattle.std.proofs.Common.{◌≡◌, ◌-◌, map}
use Rattle.std.specs.List.{range_with_len}
use Rattle.common_laws.specs.First.{first_of}
use Rattle.dted_cell.specs.Refusal.{height_condition}
use Rattle.dted_cell.proofs.record.heights_refusal.Given as goal

abbrev pub invariant-loop-row : goal.invariant-loop-row
invariant-loop-row l = first_of (map (height_condition l.text l.rows l.col) (range_with_len l.row (l.rows - l.row))) ≡ first_of (map (height_condition l.text l.rows l.col) (range_with_len 0 l.rows))
