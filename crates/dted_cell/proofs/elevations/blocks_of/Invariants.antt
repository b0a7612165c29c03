use Rattle.std.proofs.Common.{◌≡◌, ◌*◌, ◌≤◌, ◌==◌, length, take, map, count_by, sum}
use Rattle.std.specs.Simd.Lanes.{sum_l}
use Rattle.dted_cell.specs.Words.{words_of, key, low_key, greatest_of, least_of}
use Rattle.dted_cell.proofs.elevations.blocks_of.Given as goal

abbrev pub invariant-loop-block : goal.invariant-loop-block
invariant-loop-block l =
    let so_far = words_of (take (16 * l.block) l.bytes) in
    record {
      lanes : length l.sums ≡ 4;
      sum : sum_l l.sums ≡ sum (take (16 * l.block) l.bytes);
      voids : l.voids ≡ count_by (λ w. w == 65535) so_far;
      few : l.voids ≤ 8 * l.block;
      least : least_of l.least ≡ least_of (map low_key so_far);
      greatest : greatest_of l.greatest ≡ greatest_of (map key so_far);
    }
