use Rattle.std.proofs.Common.{◌≡◌, ◌+◌, ◌*◌, sym, ap, ◌∙◌, arith}
use Rattle.common_laws.proofs.First.{map_found}
use Rattle.dted_cell.specs.Field.{word_at}
use Rattle.dted_cell.specs.Record.{elevation_at}
use Rattle.dted_cell.specs.Refusal.{height_condition}
use Rattle.dted_cell.proofs.record.heights_refusal.Goals as goal

pub returns-in-Some : goal.returns-in-Some
returns-in-Some c =
    let text = c.args.text.now in
    let row = c.loop-row.row in
    let place : c.word.result ≡ word_at text (elevation_at c.args.rows c.args.col row) = c.word.ensures ∙ ap (λ start. word_at text (start + 8 + 2 * row)) c.record_start-start.ensures in
    let found = rw place at c.in-Some.ensures in
    sym (map_found (height_condition text c.args.rows c.args.col) row c.args.rows c.in-Some.refusal (omega arith) (sym found)) ∙ c.loop-row.invariant
