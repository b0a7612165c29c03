-- The surface of triangles that cover the tile has one height.
use Rattle.std.proofs.Common.{FitsSigned, w64}
use Rattle.std.proofs.lemmas.Int.{to_z-of_z}
use Rattle.mesh_plane.proofs.Surfaces.{surface_one}
use Rattle.mesh_query.proofs.height.height_at.Goals as goal

pub returns-clause-only : goal.returns-clause-only
returns-clause-only c =
    let scale_fits : FitsSigned w64 c.args.scale = c.ranges.scale in
    let u_fits : FitsSigned w64 c.args.u = c.ranges.u in let v_fits : FitsSigned w64 c.args.v = c.ranges.v in
    let found = rw c.tris.ensures.tris at (simp to_z-of_z at c.height_over.ensures.surface) in
    let covers = rw c.tris.ensures.tris at c.tris.ensures.covers in
    λ over under s. surface_one c.args.scale c.args.u c.args.v over under c.height_over.result.over
    c.height_over.result.under c.requires.scale.least _ covers s found
