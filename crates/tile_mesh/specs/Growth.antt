-- A mesh that grows.
use Rattle.std.specs.Prelude.{List}
use Rattle.mesh_plane.specs.Triangles.{Triple}
use Rattle.tile_mesh.specs.declared.builder.Builder.{Builder}
use Rattle.tile_mesh.specs.declared.point.GridPoint.{GridPoint}
use Rattle.tile_mesh.specs.Numbers.{Adds}

-- the triangles ts were added to a mesh
abbrev pub Grows : List (Triple GridPoint) → Builder → Builder → Type 0
Grows ts old new = Adds ts old.points.items new.points.items old.triangles.items new.triangles.items
