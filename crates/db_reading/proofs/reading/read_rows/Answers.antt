use Rattle.std.proofs.Common.{◌∙◌, subst, sym, ap, arith, ◌+◌, [], ◌∷◌}
use Rattle.common_laws.proofs.Options.{if_err_is}
use Rattle.database.specs.Cells.{row_keys}
use Rattle.db_reading.specs.ReadRow.{AreRead}
use Rattle.db_reading.proofs.RowReads.{one_more, key_more, stop_at_row}
use Rattle.db_reading.proofs.reading.read_rows.Goals as goal

pub returns-in_err-cell-clause-first : goal.returns-in_err-cell-clause-first
returns-in_err-cell-clause-first g c =
    if_err_is c.from_residual.result _ _ c.from_residual.ensures.1 (λ files is.
    stop_at_row files c.args.mark c.args.rows.now c.loop-key.key-index c.key-item.result _ _ c.loop-key-test.true c.key-item.is (c.loop-key.invariant.read files is) (c.in_err-cell.ensures.shown files (c.loop-key.invariant.same ∙ is)))

pub loop-key-preserved : goal.loop-key-preserved
loop-key-preserved g c = record {
  read = λ files is.
      subst (λ cells. AreRead files c.args.mark c.args.rows.now (c.loop-key.key-index + 1) cells) (sym c.in_ok-push.ensures.items)
      (one_more files c.args.mark c.args.rows.now c.loop-key.key-index c.key-item.result _ _ c.loop-key-test.true c.key-item.is (c.loop-key.invariant.read files is) (c.in_ok-cell.ensures.kept files (c.loop-key.invariant.same ∙ is)));
  keys =
      ap row_keys c.in_ok-push.ensures.items
      ∙ key_more c.args.rows.now c.loop-key.key-index c.key-item.result _ _ c.loop-key-test.true c.key-item.is c.loop-key.invariant.keys (ap (λ k. k ∷ []) c.in_ok-cell.ensures.key);
  same = c.in_ok-cell.ensures.same ∙ c.loop-key.invariant.same;
  quiet = c.in_ok-cell.ensures.quiet ∙ c.loop-key.invariant.quiet;
  faults = omega arith;
}

pub returns-clause-read : goal.returns-clause-read
returns-clause-read g c = λ files is.
    subst (λ n. AreRead files c.args.mark c.args.rows.now n c.loop-key.cells.items) (omega arith) (c.loop-key.invariant.read files is)
