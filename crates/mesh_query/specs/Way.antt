-- Segments of a tile, and the surface along them.
use Rattle.std.specs.Prelude.{pos, ◌≤◌, ◌+ℤ◌, ◌-ℤ◌, ◌*ℤ◌, List}
use Rattle.mesh_plane.specs.declared.corner.Tri.{Tri}
use Rattle.mesh_plane.specs.Plane.{Point, point}
use Rattle.mesh_plane.specs.Surface.{Surface}
use Rattle.mesh_query.specs.declared.ratio.Ratio.{Ratio}
use Rattle.mesh_query.specs.declared.spot.Spot.{Spot}

-- a spot lies on the tile
pub record IsSpot (spot : Spot) : Type 0 where
  pub u : spot.u ≤ 32767
  pub v : spot.v ≤ 32767

-- where a spot lies
abbrev pub place : Spot → Point
place spot = point (pos spot.u) (pos spot.v)

-- the point at the fraction k of the way from p to q, at the scale k.under
abbrev pub way : Point → Point → Ratio → Point
way p q k =
    point ((k.under -ℤ k.over) *ℤ p.u +ℤ k.over *ℤ q.u) ((k.under -ℤ k.over) *ℤ p.v +ℤ k.over *ℤ q.v)

-- the surface has the height h at the fraction k of the way from p to q
abbrev pub SurfaceAt : List Tri → Point → Point → Ratio → Ratio → Type 0
SurfaceAt ts p q k h = Surface ts k.under (way p q k).u (way p q k).v h.over h.under
