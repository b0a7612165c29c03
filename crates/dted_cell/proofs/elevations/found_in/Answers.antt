use Rattle.std.proofs.Common.{◌+◌, ◌*◌, ◌≤◌, length, get_or, cond, eqb, min, max, sym, ap, ◌∙◌, refl, arith}
use Rattle.dted_cell.specs.Words.{key, low_key}
use Rattle.dted_cell.proofs.ByteSums.{bytes_small}
use Rattle.dted_cell.proofs.Passes.{found_more, sum_more_two, one_at_most}
use Rattle.std.proofs.lemmas.List.Sums.{sum_by-take-le}
use Rattle.dted_cell.proofs.elevations.found_in.Goals as goal

pub with_word-found-requires-clause-sum : goal.with_word-found-requires-clause-sum
with_word-found-requires-clause-sum c =
    let bytes = c.args.bytes.now in
    omega (arith, c.loop-row.invariant.sum, bytes_small bytes c.type_inv.bytes, sum_by-take-le (λ x. x) bytes (2 * c.loop-row.row), c.requires.short)

pub loop-row-preserved : goal.loop-row-preserved
loop-row-preserved c =
    let bytes = c.args.bytes.now in
    let n = c.loop-row.row in
    let w = 256 * get_or bytes (2 * n) 0 + get_or bytes (2 * n + 1) 0 in
    let inside : 2 * n + 2 ≤ length bytes = omega (arith, c.loop-row-test.true) in
    let more = found_more n bytes w inside refl in
    let old = c.loop-row.invariant in
    let new = c.with_word-found.ensures in
    record {
      sum = omega (arith, new.sum, old.sum, sum_more_two n bytes inside);
      voids = new.voids ∙ ap (λ m. m + cond (eqb w 65535) 1 0) old.voids ∙ sym more.0;
      few = omega (arith, new.voids, old.few, one_at_most (eqb w 65535));
      least = new.least ∙ ap (λ m. min m (low_key w)) old.least ∙ sym more.1.0;
      greatest = new.greatest ∙ ap (λ m. max m (key w)) old.greatest ∙ sym more.1.1;
    }
