use Rattle.std.proofs.Common.{◌≡◌, ◌+◌, ◌*◌, slice_range, map, count_by, fold, false, true, Option, Some, None, IsSome, ◌↔◌, refl, sym, ap, ap₂, ◌∙◌, subst, arith}
use Rattle.std.specs.List.{range_with_len}
use Rattle.std.proofs.lemmas.List.FromFn.{length-map-range_with_len}
use Rattle.std.proofs.lemmas.List.Sums.{count_by-le-length}
use Rattle.dted_cell.specs.declared.counts.Counts.{Counts}
use Rattle.dted_cell.specs.Elevation.{IsElevation}
use Rattle.dted_cell.specs.Record.{AreRecord}
use Rattle.dted_cell.specs.Cell.{is_void_post, widened, post_of_row}
use Rattle.dted_cell.proofs.ByteSums.{slice_small}
use Rattle.dted_cell.proofs.OwnBytes.{own_word, own_posts, own_sum}
use Rattle.dted_cell.proofs.record.counts_of.Goals as goal

pub overflow_add-summed : goal.overflow_add-summed
overflow_add-summed c =
    let bytes = c.args.bytes.now in
    record { fits = omega (arith, c.summed.ensures, c.in_ok-tally.ensures.sum, c.ranges.rows.fits, slice_small bytes 0 8 c.type_inv.bytes, slice_small bytes 8 (8 + 2 * c.args.rows) c.type_inv.bytes) }

pub returns-then-long-summed-clause-good : goal.returns-then-long-summed-clause-good
returns-then-long-summed-clause-good c =
    let summed = ap₂ (λ a b. a + b) c.summed.ensures c.in_ok-tally.ensures.sum ∙ own_sum c.args.bytes.now c.args.rows in
    (λ no. cc, λ good. absurd (c.if-long-summed.true (c.long.ensures ∙ good.checksum ∙ sym summed)))

pub returns-clause-good : goal.returns-clause-good
returns-clause-good c =
    let summed = ap₂ (λ a b. a + b) c.summed.ensures c.in_ok-tally.ensures.sum ∙ own_sum c.args.bytes.now c.args.rows in (
      λ yes. record {
        sentinel = c.if-bytes.false;
        column = sym c.word.ensures ∙ c.if-word-col.false;
        checksum = sym c.long.ensures ∙ c.if-long-summed.false ∙ summed;
        heights = λ row h. subst IsElevation (own_word c.args.bytes.now c.args.rows row h) (c.in_ok-tally.ensures.range.0 refl row h);
      },
      λ good. refl,
    )

pub returns-clause-voids : goal.returns-clause-voids
returns-clause-voids c = c.in_ok-tally.ensures.voids ∙ ap (count_by is_void_post) (own_posts c.args.bytes.now c.args.rows)

pub returns-clause-extremes : goal.returns-clause-extremes
returns-clause-extremes c = c.in_ok-tally.ensures.extremes ∙ ap (fold widened None) (own_posts c.args.bytes.now c.args.rows)

pub returns-clause-few : goal.returns-clause-few
returns-clause-few c =
    let rows = post_of_row (slice_range c.args.bytes.now 8 (8 + 2 * c.args.rows)) in
    omega (arith, c.in_ok-tally.ensures.voids, count_by-le-length is_void_post (map rows (range_with_len 0 c.args.rows)), length-map-range_with_len rows 0 c.args.rows)

none_good : (found : Option Counts) (Good : Type 0) → found ≡ None → (Good → false ≡ true) → IsSome found ↔ Good
none_good None Good e never = (λ is. absurd (false_true is), λ good. never good)
  where
    false_true : false ≡ true → ⊥
    false_true e = cc
none_good (Some counts) Good e never = cc

pub returns-in_err-tally-clause-good : goal.returns-in_err-tally-clause-good
returns-in_err-tally-clause-good c =
    none_good c.from_residual.result (AreRecord c.args.bytes.now c.args.rows c.args.col) c.from_residual.ensures
    (λ good. c.in_err-tally.ensures.range.1 (λ row h. subst IsElevation (sym (own_word c.args.bytes.now c.args.rows row h)) (good.heights row h)))
