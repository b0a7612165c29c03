use Rattle.std.proofs.Common.{◌+◌, ◌*◌, ◌≤◌, length, rules, sym, ap, subst, ◌∙◌}
use Rattle.dted_cell.specs.Cell.{AreElevations, columns_in, post_of_row}
use Rattle.dted_cell.proofs.Heights.{profile_elevations}
use Rattle.dted_cell.proofs.Views.{profile_is, profile_post, start_fits}
use Rattle.dted_cell.proofs.view.CellView.profile.Goals as goal

pub slice_bounds-of-end : goal.slice_bounds-of-end
slice_bounds-of-end c =
    let long = rw (sym c.rows-rows.ensures) at c.text-text.ensures.long in
    let fits : c.record_start-start.result + 8 + 2 * c.rows-rows.result ≤ length c.text-text.result.now =
    start_fits c.text-text.result.now c.record_start-start.result c.rows-rows.result (columns_in c.args.self.now) c.args.col long c.requires c.record_start-start.ensures in
    search rules

pub of-requires : goal.of-requires
of-requires c =
    let same = profile_is c.args.self.now c.text-text.result.now c.record_start-start.result c.rows-rows.result c.args.col c.text-text.ensures.text c.rows-rows.ensures c.record_start-start.ensures in
    subst AreElevations (sym same) (profile_elevations c.args.self.now c.args.col c.text-text.ensures.accepted c.requires)

pub returns-clause-bytes : goal.returns-clause-bytes
returns-clause-bytes c = c.of.ensures ∙ profile_is c.args.self.now c.text-text.result.now c.record_start-start.result c.rows-rows.result c.args.col c.text-text.ensures.text c.rows-rows.ensures c.record_start-start.ensures

pub returns-clause-posts : goal.returns-clause-posts
returns-clause-posts c row h =
    ap (λ b. post_of_row b row) (c.of.ensures ∙ profile_is c.args.self.now c.text-text.result.now c.record_start-start.result c.rows-rows.result c.args.col c.text-text.ensures.text c.rows-rows.ensures c.record_start-start.ensures)
    ∙ profile_post c.args.self.now c.args.col row h
