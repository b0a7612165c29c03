use Rattle.std.proofs.Common.{◌∙◌}
use Rattle.dted_cell.proofs.Headers.{says_by}
use Rattle.dted_cell.proofs.header.read_header.Goals as goal

pub returns-clause-says : goal.returns-clause-says
returns-clause-says c =
    let header = c.header_of.ensures in
    says_by c.args.bytes.now c.behind.result.now c.header_of.result c.in_ok-shape.shape.square c.in_ok-shape.shape.level c.behind.ensures.text
    c.in_ok-shape.ensures.square c.in_ok-shape.ensures.level (header.lead ∙ c.lead-lead.ensures.exact) header.square header.level header.columns header.rows
