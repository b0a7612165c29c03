use Rattle.std.proofs.Common.{◌∙◌, ap, arith}
use Rattle.terrain_base.proofs.Runs.{all_as, at_ok, both_done, goes_on, stops, at_err, some_as}
use Rattle.std.proofs.lemmas.List.{take_all}
use Rattle.database.specs.Cells.{row_keys}
use Rattle.db_migrate.proofs.CellMoves.{gives_key, key_steps, more_moved, split_moved, steps_read, moved_steps}
use Rattle.db_migrate.proofs.moving.move_cells.Goals as goal
use Rattle.db_files.proofs.Parts.{same_stop}

pub returns-in_err-move_cell-clause-ran : goal.returns-in_err-move_cell-clause-ran
returns-in_err-move_cell-clause-ran g c = λ files s mark k.
    let i = c.loop-row.row-index in
    let row = c.row-item.result in
    let done = c.loop-row.invariant.done files s mark k in
    let given = gives_key i row c.row_key.result c.row_key.ensures k c.loop-row-test.true c.row-item.is done in
    at_err c.from_residual.result _ c.from_residual.ensures.1
    (some_as (split_moved s c.args.version c.args.staged c.args.rows.now i row c.loop-row-test.true c.row-item.is ∙ steps_read k)
    (goes_on done (stops _ (some_as (key_steps s c.args.version c.args.staged row c.row_key.result c.row_key.ensures) (c.in_err-move_cell.ensures.ran s given).err))))

pub returns-in_err-move_cell-clause-stop : goal.returns-in_err-move_cell-clause-stop
returns-in_err-move_cell-clause-stop g c = λ files s mark k.
    let done = c.loop-row.invariant.done files s mark k in
    let given = gives_key c.loop-row.row-index c.row-item.result c.row_key.result c.row_key.ensures k c.loop-row-test.true c.row-item.is done in
    same_stop c.from_residual.result _ c.from_residual.ensures.1 (c.in_err-move_cell.ensures.stop s given)

pub loop-row-preserved : goal.loop-row-preserved
loop-row-preserved g c = record {
  done = λ files s mark k.
      (let i = c.loop-row.row-index in
      let row = c.row-item.result in
      let done = c.loop-row.invariant.done files s mark k in
      let given = gives_key i row c.row_key.result c.row_key.ensures k c.loop-row-test.true c.row-item.is done in
      rw (more_moved s c.args.version c.args.staged c.args.rows.now i row c.loop-row-test.true c.row-item.is)
      (both_done done (all_as (key_steps s c.args.version c.args.staged row c.row_key.result c.row_key.ensures) (c.in_ok-move_cell.ensures.ran s given).ok)));
  faults = omega arith;
}

pub returns-clause-ran : goal.returns-clause-ran
returns-clause-ran g c = λ files s mark k.
    at_ok (all_as (ap (λ rows. moved_steps s c.args.version c.args.staged (row_keys rows)) (take_all c.loop-row.row-index c.args.rows.now (omega arith)) ∙ steps_read k) (c.loop-row.invariant.done files s mark k))
