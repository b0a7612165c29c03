use Rattle.std.proofs.Common.{sym, ◌∙◌}
use Rattle.dted_cell.proofs.Streams.{front_by, front_read}
use Rattle.dted_cell.proofs.facts.read_front.Goals as goal

pub returns : goal.returns
returns g c =
    let remaining = g.R.Read.remaining in
    let bytes = c.fills.new.room in
    let result = c.read_header.result in
    let front = front_by bytes result (c.fills.auto.room ∙ c.requires) (sym c.lead.ensures.exact ∙ c.if-lead-ne0.false) c.read_header.ensures.refusal c.read_header.ensures.says in
    front_read bytes (remaining c.args.reader.now) (remaining c.fills.new.reader) result c.ok.result (c.in_ok-fills.ensures c.if-not-branch.false) front c.ok.ensures.value
