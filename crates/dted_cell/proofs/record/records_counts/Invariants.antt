use Rattle.std.proofs.Common.{◌≡◌, ◌-◌, ◌*◌, ◌≤◌, map, None}
use Rattle.std.specs.List.{flat_map, range_with_len, sum_by, count_by, fold}
use Rattle.common_laws.specs.First.{first_of}
use Rattle.dted_cell.specs.Cell.{is_void_post, widened}
use Rattle.dted_cell.specs.Record.{posts_at}
use Rattle.dted_cell.specs.Refusal.{record_conditions}
use Rattle.dted_cell.proofs.record.records_counts.Given as goal

abbrev pub invariant-loop-col : goal.invariant-loop-col
invariant-loop-col l =
    let so_far = map (posts_at l.text l.rows) (range_with_len 0 l.col) in
    record {
      later : first_of (flat_map (record_conditions l.text l.rows) (range_with_len l.col (l.columns - l.col))) ≡ first_of (flat_map (record_conditions l.text l.rows) (range_with_len 0 l.columns));
      voids : l.counts.voids ≡ sum_by (count_by is_void_post) so_far;
      few : l.counts.voids ≤ l.col * l.rows;
      extremes : l.counts.extremes ≡ fold (fold widened) None so_far;
    }
