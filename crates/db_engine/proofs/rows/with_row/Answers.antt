use Rattle.std.proofs.Common.{◌≡◌, [], ◌∷◌, ◌++◌, sym, ap, subst, ◌∙◌, append_assoc}
use Rattle.std.specs.List.{filter}
use Rattle.database.specs.Cells.{AreRows}
use Rattle.db_engine.specs.Rows.{is_before, is_behind, with_row}
use Rattle.db_engine.proofs.RowLists.{with_row_are_rows}
use Rattle.db_engine.proofs.rows.with_row.Goals as goal

pub returns-clause-rows : goal.returns-clause-rows
returns-clause-rows c =
    let rows = c.args.rows.now in
    let row = c.args.row in
    let before = c.in_ok-list.ensures ∙ ap (λ k. filter (is_before k) rows) c.row_key-key.ensures in
    let pushed = c.in_ok-push.ensures.items ∙ ap (λ xs. xs ++ row ∷ []) before in
    let behind = c.deref.ensures.value ∙ c.in_ok-behind.ensures ∙ ap (λ k. filter (is_behind k) rows) c.row_key-key.ensures in
    let made : c.extend_from_slice.new.self.items ≡ with_row rows row = c.in_ok-extend_from_slice.ensures.items ∙ (λ i. pushed i ++ behind i) ∙ append_assoc (filter (is_before (Rattle.database.specs.Cells.row_key row)) rows) (row ∷ []) (filter (is_behind (Rattle.database.specs.Cells.row_key row)) rows) in
    subst AreRows (sym made) (with_row_are_rows rows row c.requires.rows c.requires.room)
