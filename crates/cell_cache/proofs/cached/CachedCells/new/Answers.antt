use Rattle.std.proofs.Common.{◌≡◌, ap, ◌∙◌, rules}
use Rattle.std.specs.List.{list_any}
use Rattle.std.specs.Ordering.{eq_by_cmp}
use Rattle.terrain_base.specs.CellKey.{key_cmp}
use Rattle.cell_cache.specs.Cached.{row_key}
use Rattle.cell_cache.proofs.New.{told_new}
use Rattle.cell_cache.proofs.Rows.{known_rows}
use Rattle.cell_cache.proofs.cached.CachedCells.new.Goals as goal

pub returns-clause-told : goal.returns-clause-told
returns-clause-told c files told same holds =
    let copied : c.in_ok-summaries.summaries.items ≡ c.args.summaries.now = search rules in
    told_new c.in_ok-summaries.summaries.items c.in_ok-cells.cells.entries files told c.in_ok-cells.ensures.none (copied ∙ same) holds

pub returns-clause-shapes : goal.returns-clause-shapes
returns-clause-shapes c key =
    let copied : c.in_ok-summaries.summaries.items ≡ c.args.summaries.now = search rules in
    known_rows c.in_ok-summaries.summaries.items key ∙ ap (list_any (λ row. eq_by_cmp key_cmp key (row_key row))) copied
