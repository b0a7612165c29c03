use Rattle.std.proofs.Common.{◌≡◌, ℕ, ap, sym, subst}
use Rattle.tms_tree.specs.declared.place.Place.{Place}
use Rattle.resample.specs.Line.{AreLines, column_units, row_units, parts_of}
use Rattle.resample.proofs.tile.turn_block.Goals as goal

pub returns-in-Some : goal.returns-in-Some
returns-in-Some c =
    let tile = c.args.block.now.tile in
    let parts : c.tile_place-d.result.d ≡ parts_of tile = ap (λ (place : Place). place.d) c.tile_place-d.ensures.value in
    let columns = c.args.lines.now.columns in
    let rows = c.args.lines.now.rows in
    record {
      across = subst (λ (d : ℕ). AreLines (column_units tile) d c.turn_run.new.lines) parts
          (c.turn_run.ensures.lines (column_units tile) (subst (λ (d : ℕ). AreLines (column_units tile) d columns) (sym parts) c.requires.lines.across));
      along = subst (λ (d : ℕ). AreLines (row_units tile) d c.turn_run-in-Some.new.lines) parts
          (c.turn_run-in-Some.ensures.lines (row_units tile) (subst (λ (d : ℕ). AreLines (row_units tile) d rows) (sym parts) c.requires.lines.along));
    }
