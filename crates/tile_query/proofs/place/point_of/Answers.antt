-- The place lies between the borders of its column and of its row.
use Rattle.std.proofs.Common.{FitsSigned, w64, rules}
use Rattle.std.proofs.lemmas.Int.{to_z-of_z}
use Rattle.tile_query.proofs.Places.{on_tile}
use Rattle.tile_query.proofs.place.point_of.Goals as goal

pub returns-clause-on_tile : goal.returns-clause-on_tile
returns-clause-on_tile c =
    let u_fits : FitsSigned w64 c.beyond.result = search rules in
    let v_fits : FitsSigned w64 c.beyond-2.result = search rules in
    rw (
      to_z-of_z w64 c.beyond.result u_fits,
      to_z-of_z w64 c.beyond-2.result v_fits,
      c.beyond.ensures,
      c.beyond-2.ensures,
      c.z.ensures,
      c.x.ensures,
      c.z-2.ensures,
      c.y.ensures,
    ) (on_tile c.args.tile c.args.east c.args.north c.requires)
