use Rattle.std.proofs.Common.{rules, FitsSigned, w16}
use Rattle.std.proofs.lemmas.Int.{to_z-of_z}
use Rattle.tile_file.proofs.Made.{mesh_is}
use Rattle.tile_file.proofs.mesh.mesh_over.Goals as goal

pub returns-clause-value : goal.returns-clause-value
returns-clause-value g c told is =
    let fits : FitsSigned w16 c.args.params.now.fill = search rules in
    mesh_is c.args.params.now told c.args.tile _ c.in_ok-mesh.mesh (simp to_z-of_z at c.in_ok-tile_grid.ensures.value told is) c.in_ok-mesh.ensures.exact
