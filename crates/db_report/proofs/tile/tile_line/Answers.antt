use Rattle.std.proofs.Common.{ap, ◌∙◌, refl}
use Rattle.mesh_codec.specs.declared.header.Header.{Header}
use Rattle.mesh_codec.specs.Tile.{header_in}
use Rattle.report_text.specs.Words.{number_or_dash}
use Rattle.db_report.proofs.Heights.{number_is}
use Rattle.db_report.proofs.tile.tile_line.Goals as goal

pub returns : goal.returns
returns c = λ least greatest low high.
    let header = c.header-header.ensures in
    let low_is = number_is (header_in c.args.view.now).least least c.lattice32.result low (rw header at c.lattice32.ensures.some) (rw header at c.lattice32.ensures.inverse) in
    let high_is = number_is (header_in c.args.view.now).greatest greatest c.lattice32-2.result high (rw header at c.lattice32-2.ensures.some) (rw header at c.lattice32-2.ensures.inverse) in
    let least_text = c.in_ok-least.ensures ∙ ap number_or_dash low_is in
    let greatest_text = c.in_ok-greatest.ensures ∙ ap number_or_dash high_is in
    rw (c.in_ok-format.ensures.ok, c.in_ok-size.ensures.ok, c.in_ok-tile.ensures, c.vertices-vertices.ensures, c.triangle_count-triangles.ensures, least_text, greatest_text, c.in_ok-edges.ensures) refl
