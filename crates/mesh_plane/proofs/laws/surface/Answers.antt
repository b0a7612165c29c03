-- The law of the surface.
use Rattle.mesh_plane.proofs.SurfaceLaws.{surface_law}
use Rattle.mesh_plane.proofs.laws.surface.Goals as goal

pub returns : goal.returns
returns c = surface_law
