use Rattle.std.proofs.Common.{◌≡◌, ◌+◌, ◌*◌, ◌≤◌, ◌++◌, ◌==◌, length, take, map, slice_range, count_by, sym, ap, ap₂, ◌∙◌, arith, w32, sum, zero-add}
use Rattle.std.proofs.lemmas.List.{length-map}
use Rattle.std.proofs.lemmas.Simd.{length-zip2, sum-zip2, sum_fits, fold-sum}
use Rattle.std.specs.Simd.Lanes.{sum_l}
use Rattle.dted_cell.proofs.ByteSums.{next_block, lanes_fit, front_small}
use Rattle.dted_cell.specs.Words.{words_of, key, low_key, least_of, greatest_of}
use Rattle.dted_cell.proofs.Passes.{words_next, least_next, greatest_next, voids_next}
use Rattle.dted_cell.proofs.elevations.blocks_of.Goals as goal

pub loop-block-preserved : goal.loop-block-preserved
loop-block-preserved c =
    let bytes = c.args.bytes.now in
    let b = c.loop-block.block in
    let so_far = words_of (take (16 * b) bytes) in
    let block = words_of (slice_range bytes (16 * b) (16 * b + 16)) in
    let all = words_of (take (16 * (b + 1)) bytes) in
    let inside : 16 * b + 16 ≤ length bytes = omega (arith, c.loop-block-test.true, c.requires.inside) in
    let whole : all ≡ so_far ++ block = words_next b bytes inside in
    let old = c.loop-block.invariant in
    let sums = c.loop-block.sums in
    let fours = c.fours-sums.result in
    record {
      lanes = length-zip2 (λ x y. x + y) sums fours (old.lanes ∙ sym c.fours-sums.ensures.lanes) ∙ old.lanes;
      sum = sum-zip2 sums fours (old.lanes ∙ sym c.fours-sums.ensures.lanes) ∙ next_block b bytes sums fours old.lanes c.fours-sums.ensures.lanes old.sum c.fours-sums.ensures.sum;
      voids = ap₂ (λ m n. m + n) old.voids (c.voids_among-voids.ensures.exact ∙ ap (count_by (λ w. w == 65535)) c.words_at-words.ensures.exact) ∙ sym (voids_next so_far block all whole);
      few = omega (arith, old.few, c.voids_among-voids.ensures.few);
      least = ap least_of c.lesser-least.ensures
          ∙ least_next c.loop-block.least c.low_keys_of.result so_far block all (c.loop-block.auto.least.0 ∙ sym (ap length c.low_keys_of.ensures ∙ length-map c.words_at-words.result low_key ∙ c.words_at-words.ensures.lanes)) old.least (c.low_keys_of.ensures ∙ ap (map low_key) c.words_at-words.ensures.exact) whole;
      greatest = ap greatest_of c.greater-greatest.ensures
          ∙ greatest_next c.loop-block.greatest c.keys_of.result so_far block all (c.loop-block.auto.greatest.0 ∙ sym (ap length c.keys_of.ensures ∙ length-map c.words_at-words.result key ∙ c.words_at-words.ensures.lanes)) old.greatest (c.keys_of.ensures ∙ ap (map key) c.words_at-words.ensures.exact) whole;
    }

pub overflow_add-sums : goal.overflow_add-sums
overflow_add-sums c =
    lanes_fit c.loop-block.block c.args.bytes.now c.loop-block.sums c.fours-sums.result c.type_inv.bytes c.requires.short c.loop-block.invariant.lanes c.fours-sums.ensures.lanes c.loop-block.invariant.sum c.fours-sums.ensures.sum

pub overflow_add-result : goal.overflow_add-result
overflow_add-result c =
    sum_fits w32 0 c.loop-block.sums (omega (arith, c.loop-block.invariant.sum, front_small c.args.bytes.now (16 * c.loop-block.block) c.type_inv.bytes c.requires.short))

pub returns-clause-sum : goal.returns-clause-sum
returns-clause-sum c =
    let done : c.loop-block.block ≡ c.args.blocks = omega (arith, c.loop-block.auto.block-end, c.loop-block-test.false) in
    fold-sum 0 c.loop-block.sums ∙ zero-add (sum_l c.loop-block.sums) ∙ c.loop-block.invariant.sum ∙ ap (λ b. sum (take (16 * b) c.args.bytes.now)) done
