use Rattle.std.proofs.Common.{Some, ◌∙◌}
use Rattle.cell_mosaic.proofs.Values.{from_finest, known_here, void_finest}
use Rattle.cell_mosaic.proofs.Keeping.{told_next, given_on}
use Rattle.cell_mosaic.proofs.value.cell_value.Goals as goal

pub returns-in-Metres-clause-value : goal.returns-in-Metres-clause-value
returns-in-Metres-clause-value g c told is =
    let shapes = g.P.PostSource.shapes c.args.src.now in
    let are = g.met.P.PostSource.agree c.args.src.now (g.S.Store.holds c.args.store.now) told is in
    let square = c.args.square in
    let place = c.args.place in
    known_here told shapes square place are c.in-Some.level c.in_ok-value.value c.in-Metres.field-0 (c.in_ok-value.ensures.value told is) c.in-Metres.is
    ∙ from_finest told shapes square place are (Some c.in-Some.level) c.in-Some.ensures

pub returns-clause-value : goal.returns-clause-value
returns-clause-value g c =
    given_on c.coarser_value.result (λ told is.
    let are = g.met.P.PostSource.agree c.args.src.now (g.S.Store.holds c.args.store.now) told is in (
      told_next c.in_ok-value.ensures.leaves told is,
      λ given at.
          at ∙ void_finest told (g.P.PostSource.shapes c.args.src.now) c.args.square c.args.place are c.in-Some.level c.in_ok-value.value c.in-Some.ensures (c.in_ok-value.ensures.value told is) c.in_default-value.is,
    )) c.coarser_value.ensures.value
