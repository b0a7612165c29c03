use Rattle.std.proofs.Common.{◌≡◌, ◌*◌, ◌≤◌, ◌==◌, take, map, count_by, sum}
use Rattle.dted_cell.specs.Words.{words_of, key, low_key, greatest_of, least_of}
use Rattle.dted_cell.proofs.elevations.found_in.Given as goal

abbrev pub invariant-loop-row : goal.invariant-loop-row
invariant-loop-row l =
    let so_far = take (2 * l.row) l.bytes in
    record {
      sum : l.found.sum ≡ sum so_far;
      voids : l.found.voids ≡ count_by (λ w. w == 65535) (words_of so_far);
      few : l.found.voids ≤ l.row;
      least : l.found.least ≡ least_of (map low_key (words_of so_far));
      greatest : l.found.greatest ≡ greatest_of (map key (words_of so_far));
    }
