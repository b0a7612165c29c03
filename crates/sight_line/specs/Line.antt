-- Points that see, and the lines between them.
use Rattle.std.specs.Prelude.{pos, ◌≤◌, unsigned_abs}
use Rattle.mesh_plane.specs.Plane.{IsTilePoint}
use Rattle.mesh_query.specs.Way.{IsSpot}
use Rattle.sight_line.specs.declared.eye.Eye.{Eye}
use Rattle.sight_line.specs.declared.line.Line.{Line}

-- an eye is over a spot of the tile, within 65535 metres
pub record IsEye (eye : Eye) : Type 0 where
  pub spot : IsSpot eye.spot
  pub metres : unsigned_abs eye.metres ≤ 65535

-- both ends of the line lie over the tile, within 65535 metres
pub record IsLine (line : Line) : Type 0 where
  pub from : IsTilePoint (pos 1) line.from.u line.from.v
  pub start : unsigned_abs line.start ≤ 65535
  pub to : IsTilePoint (pos 1) line.to.u line.to.v
  pub end : unsigned_abs line.end ≤ 65535
