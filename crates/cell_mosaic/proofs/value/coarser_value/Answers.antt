use Rattle.std.proofs.Common.{Some, None, ap, ◌∙◌}
use Rattle.terrain_base.specs.CellKey.{key_at}
use Rattle.cell_mosaic.specs.Cells.{Shapes, coarser_of}
use Rattle.cell_mosaic.proofs.Values.{from_coarser, known_here, void_here, last_here}
use Rattle.cell_mosaic.proofs.Keeping.{told_next, given_on}
use Rattle.cell_mosaic.proofs.value.coarser_value.Goals as goal

pub returns-in_default-clause-value : goal.returns-in_default-clause-value
returns-in_default-clause-value g c told is =
    let shapes = g.P.PostSource.shapes c.args.src.now in
    let are = g.met.P.PostSource.agree c.args.src.now (g.S.Store.holds c.args.store.now) told is in
    from_coarser told shapes c.args.key.square c.args.place are c.args.key.level None c.in_default.ensures

pub returns-in-Metres-clause-value : goal.returns-in-Metres-clause-value
returns-in-Metres-clause-value g c told is =
    let shapes = g.P.PostSource.shapes c.args.src.now in
    let are = g.met.P.PostSource.agree c.args.src.now (g.S.Store.holds c.args.store.now) told is in
    let square = c.args.key.square in
    let place = c.args.place in
    known_here told shapes square place are c.in-Some.second c.in_ok-below.below c.in-Metres.field-0 (c.in_ok-below.ensures.value told is) c.in-Metres.is
    ∙ from_coarser told shapes square place are c.args.key.level (Some c.in-Some.second) c.in-Some.ensures

pub returns-in_default-coarser-clause-value : goal.returns-in_default-coarser-clause-value
returns-in_default-coarser-clause-value g c told is =
    let shapes = g.P.PostSource.shapes c.args.src.now in
    let are = g.met.P.PostSource.agree c.args.src.now (g.S.Store.holds c.args.store.now) told is in
    let square = c.args.key.square in
    let place = c.args.place in
    let second = c.in-Some.second in
    let kept = ap (λ (s : Shapes). coarser_of s (key_at square second)) c.in_ok-below.ensures.leaves.keeps.shape in
    c.in_default-below.is
    ∙ void_here told shapes square place are second c.in_ok-below.below None (c.in_ok-below.ensures.value told is) c.in_default-below.is (c.in_default-coarser.ensures ∙ kept)
    ∙ from_coarser told shapes square place are c.args.key.level (Some second) c.in-Some.ensures

pub returns-clause-value : goal.returns-clause-value
returns-clause-value g c =
    let shapes = g.P.PostSource.shapes c.args.src.now in
    let square = c.args.key.square in
    let place = c.args.place in
    let second = c.in-Some.second in
    let third = c.in-Some-coarser.third in
    let first = c.in_ok-below.ensures.leaves in
    let last = c.in-Some-coarser.ensures ∙ ap (λ (s : Shapes). coarser_of s (key_at square second)) first.keeps.shape in
    given_on c.value_in_cell-2.result (λ told is.
    let are = g.met.P.PostSource.agree c.args.src.now (g.S.Store.holds c.args.store.now) told is in (
      told_next first told is,
      λ given at.
          last_here told shapes square place are c.args.key.level second third given c.in-Some.ensures last at
          ∙ void_here told shapes square place are second c.in_ok-below.below (Some third) (c.in_ok-below.ensures.value told is) c.in_default-below.is last
          ∙ from_coarser told shapes square place are c.args.key.level (Some second) c.in-Some.ensures,
    )) c.value_in_cell-2.ensures.value
