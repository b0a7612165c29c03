use Rattle.std.proofs.Common.{◌∙◌, rules}
use Rattle.std.proofs.lemmas.List.Sorted.{answers_always}
use Rattle.database.specs.Cells.{row_key}
use Rattle.cell_cache.proofs.Rows.{found, known_rows}
use Rattle.db_files.proofs.rows.finds_row.Goals as goal

pub returns : goal.returns
returns c =
    let rows = c.args.rows.now in
    let facts = c.binary_search_by_key.ensures in
    let by_key = facts.position row_key (answers_always _ _ _ (λ f a r g called. search rules)) in
    c.is_ok.ensures.value ∙ found rows c.requires.ascend c.args.key c.binary_search_by_key.result facts.bound by_key ∙ known_rows rows c.args.key
