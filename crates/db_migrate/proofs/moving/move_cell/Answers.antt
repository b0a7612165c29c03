use Rattle.std.proofs.Common.{refl, sym, ap, ◌∙◌}
use Rattle.terrain_base.proofs.Runs.{at_ok, all_as, quiet}
use Rattle.db_migrate.specs.Moves.{is_moved}
use Rattle.db_migrate.proofs.CellMoves.{none_moved, one_moved}
use Rattle.db_migrate.proofs.moving.move_cell.Goals as goal
use Rattle.db_files.proofs.Parts.{ran_as}

pub returns-then-is_moved-clause-ran : goal.returns-then-is_moved-clause-ran
returns-then-is_moved-clause-ran g c = λ s st.
    let moves = ap (is_moved c.args.staged) (sym c.row_of-row.ensures) ∙ sym c.is_moved.ensures ∙ c.if-is_moved.true in
    ran_as _ (one_moved s c.args.version c.args.staged c.args.key moves) (c.put_kept.ensures.ran s st)

pub returns-clause-ran : goal.returns-clause-ran
returns-clause-ran g c = λ s st.
    let stays = ap (is_moved c.args.staged) (sym c.row_of-row.ensures) ∙ sym c.is_moved.ensures ∙ c.if-is_moved.false in
    at_ok (all_as (none_moved s c.args.version c.args.staged c.args.key stays) (quiet refl refl))
