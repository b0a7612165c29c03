use Rattle.dted_cell.proofs.OwnBytes.{good_part, voids_of_part, extremes_of_part}
use Rattle.dted_cell.proofs.record.good_record.Goals as goal

pub returns : goal.returns
returns c =
    let text = c.args.text.now in
    let start = c.record_start-start in
    let size = c.record_length in
    let found = c.counts_of in
    record {
      good = good_part text c.args.rows c.args.col start.result size.result found.result start.ensures size.ensures found.ensures.good;
      voids = voids_of_part text c.args.rows c.args.col start.result size.result found.result start.ensures size.ensures found.ensures.voids;
      few = found.ensures.few;
      extremes = extremes_of_part text c.args.rows c.args.col start.result size.result found.result start.ensures size.ensures found.ensures.extremes;
    }
