use Rattle.std.proofs.Common.{sym, ◌∙◌}
use Rattle.hgt_cells.proofs.Corners.{corner_is}
use Rattle.hgt_cells.proofs.name.hgt_square.Goals as goal

pub square_at-requires-clause-long : goal.square_at-requires-clause-long
square_at-requires-clause-long c =
    (corner_is c.last_part-part.result.now (sym c.spells_corner.ensures ∙ c.if-spells_corner.true)).long

pub square_at-requires-clause-lat : goal.square_at-requires-clause-lat
square_at-requires-clause-lat c =
    (corner_is c.last_part-part.result.now (sym c.spells_corner.ensures ∙ c.if-spells_corner.true)).lat

pub square_at-requires-clause-lon : goal.square_at-requires-clause-lon
square_at-requires-clause-lon c =
    (corner_is c.last_part-part.result.now (sym c.spells_corner.ensures ∙ c.if-spells_corner.true)).lon
