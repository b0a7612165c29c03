use Rattle.std.proofs.Common.{ap, ap₂, ◌∙◌}
use Rattle.std.specs.Prelude.{option_map}
use Rattle.terrain_base.specs.declared.post.Extremes.{Extremes}
use Rattle.terrain_base.specs.SquareText.{square_text}
use Rattle.terrain_base.specs.Level.{level_number, columns_of, rows_of}
use Rattle.dted_cell.specs.Cell.{columns_in, rows_in}
use Rattle.report_text.specs.Words.{number_or_dash}
use Rattle.report_text.specs.Cell.{cell_line_of}
use Rattle.report_text.proofs.cell.cell_line.Goals as goal

pub returns : goal.returns
unfolding cell_line_of columns_in rows_in
returns c bytes facts =
    let square = c.in_ok-name.ensures ∙ ap square_text facts.square_is in
    let level = c.level_number-number.ensures.value ∙ ap level_number facts.level_is in
    let columns = c.columns-columns.ensures ∙ ap₂ columns_of facts.square_is facts.level_is in
    let rows = c.rows-rows.ensures ∙ ap rows_of facts.level_is in
    let least = c.in_ok-least.ensures ∙ ap number_or_dash (c.ends-least.ensures.least ∙ ap (option_map (λ (of : Extremes). of.least)) facts.extremes_are) in
    let greatest = c.in_ok-greatest.ensures ∙ ap number_or_dash (c.ends-least.ensures.greatest ∙ ap (option_map (λ (of : Extremes). of.greatest)) facts.extremes_are) in
    rw (c.in_ok-format.ensures.ok, c.in_ok-shape.ensures.ok, square, level, columns, rows, least, greatest, facts.voids_are)
