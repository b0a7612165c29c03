use Rattle.std.proofs.Common.{◌∙◌, subst, sym, ap, arith, map}
use Rattle.std.specs.Prelude.{IsTrue}
use Rattle.common_laws.proofs.Options.{if_err_is}
use Rattle.old_manifest.specs.Rows.{old_suits}
use Rattle.database.specs.Cells.{row_keys}
use Rattle.db_old_reading.specs.Kept.{row_of}
use Rattle.db_old_reading.specs.Told.{AreRead}
use Rattle.db_old_reading.proofs.OldRowsRead.{all_at, one_more, row_more, stop_at_row}
use Rattle.db_old_reading.proofs.reading.read_rows.Goals as goal

pub returns-in_err-cell-clause-first : goal.returns-in_err-cell-clause-first
returns-in_err-cell-clause-first g c =
    if_err_is c.from_residual.result _ _ c.from_residual.ensures.1 (λ files is.
    stop_at_row files c.args.version c.args.staged c.args.rows.now c.loop-row.row-index c.row-item.result _ _ c.loop-row-test.true c.row-item.is (c.loop-row.invariant.read files is) c.loop-row.invariant.rows (c.in_err-cell.ensures.shown files (c.loop-row.invariant.same ∙ is)))

pub loop-row-preserved : goal.loop-row-preserved
loop-row-preserved g c =
    let row = c.row-item.result in
    let suits = all_at (λ r. IsTrue (old_suits c.args.version r.level)) c.args.rows.now c.loop-row.row-index row c.loop-row-test.true c.row-item.is c.requires.suits in
    let row_is = c.in_ok-cell.ensures.row c.args.version suits in
    record {
      read = λ files is.
          subst (λ cells. AreRead files c.args.version c.args.staged cells) (sym c.in_ok-push.ensures.items)
          (one_more files c.args.version c.args.staged _ row _ row_is (c.loop-row.invariant.read files is) (c.in_ok-cell.ensures.read files (c.loop-row.invariant.same ∙ is)));
      rows =
          ap (λ cells. map (row_of c.args.version) (row_keys cells)) c.in_ok-push.ensures.items
          ∙ row_more c.args.version c.args.rows.now c.loop-row.row-index row _ _ c.loop-row-test.true c.row-item.is row_is c.loop-row.invariant.rows;
      same = c.in_ok-cell.ensures.same ∙ c.loop-row.invariant.same;
      quiet = c.in_ok-cell.ensures.quiet ∙ c.loop-row.invariant.quiet;
      faults = omega arith;
    }
