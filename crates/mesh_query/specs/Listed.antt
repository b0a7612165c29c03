-- Crossings that make the breaks of a segment.
use Rattle.std.specs.Prelude.{◌≤◌, ◌^◌, unsigned_abs, List, All, Any}
use Rattle.mesh_plane.specs.declared.corner.Tri.{Tri}
use Rattle.mesh_plane.specs.Plane.{Point}
use Rattle.mesh_query.specs.declared.rank.Ranked.{Ranked}
use Rattle.mesh_query.specs.declared.ratio.Ratio.{Ratio}
use Rattle.mesh_query.specs.Ratios.{ratio, IsSame}
use Rattle.mesh_query.specs.Way.{SurfaceAt}
use Rattle.mesh_query.specs.Breaks.{IsBreak}
use Rattle.mesh_query.specs.Crossing.{Found}
use Rattle.mesh_query.specs.Rank.{IsRanked}

-- a crossing that was found, with its rank and the surface there
pub record IsFoundAt (ts : List Tri) (p q : Point) (r : Ranked) : Type 0 where
  pub ranked : IsRanked r
  pub found : Found ts p q (ratio r.crossing.over r.crossing.under)
  pub surface : SurfaceAt ts p q (ratio r.crossing.over r.crossing.under) (ratio r.crossing.height r.crossing.under)
  pub height_size : unsigned_abs r.crossing.height ≤ 2 ^ 50

-- the crossing lies at the fraction k
abbrev pub At : Ratio → Ranked → Type 0
At k r = IsSame (ratio r.crossing.over r.crossing.under) k

-- each is found, and at each break lies one
pub record AreListed (ts : List Tri) (p q : Point) (found : List Ranked) : Type 0 where
  pub each : All (IsFoundAt ts p q) found
  pub every : (k : Ratio) → IsBreak ts p q k → Any (At k) found
