-- Sight along the straight line between two points with heights.
use Rattle.std.specs.Prelude.{◌↔◌, ℤ, ◌+ℤ◌, ◌-ℤ◌, ◌*ℤ◌, List}
use Rattle.mesh_plane.specs.declared.corner.Tri.{Tri}
use Rattle.mesh_plane.specs.Plane.{Point}
use Rattle.mesh_plane.specs.Cover.{Covers}
use Rattle.mesh_query.specs.declared.ratio.Ratio.{Ratio}
use Rattle.mesh_query.specs.Ratios.{ratio, IsFraction, IsAtMost, IsBelow}
use Rattle.mesh_query.specs.Way.{SurfaceAt}
use Rattle.mesh_query.specs.Breaks.{IsBreak}
use Rattle.mesh_query.specs.Crossing.{Found}

-- the height at the fraction k of the straight line from the height a to the height b
abbrev pub line_at : ℤ → ℤ → Ratio → Ratio
line_at a b k = ratio ((k.under -ℤ k.over) *ℤ a +ℤ k.over *ℤ b) k.under

-- nowhere on its way from p, at the height a, to q, at the height b, is the line below the surface. The two
-- points may be one.
abbrev pub IsClear : List Tri → Point → ℤ → Point → ℤ → Type 0
IsClear ts p a q b = (k h : Ratio) → IsFraction k → SurfaceAt ts p q k h → IsAtMost h (line_at a b k)

-- at the fraction k the line is below the surface
pub record IsUnder (ts : List Tri) (p : Point) (a : ℤ) (q : Point) (b : ℤ) (k : Ratio) : Type 0 where
  pub height : Ratio
  pub surface : SurfaceAt ts p q k height
  pub below : IsBelow (line_at a b k) height

-- sight is clear exactly where the line is not below the surface at any break
abbrev pub ClearLaw : Type 0
ClearLaw = (ts : List Tri) (p q : Point) (a b : ℤ) → Covers ts
    → IsClear ts p a q b ↔ ((k : Ratio) → IsBreak ts p q k → ¬ IsUnder ts p a q b k)

-- and exactly where it is not below the surface at either end and at any crossing of a side. This holds for one
-- point as both ends too, where each fraction can be a break.
abbrev pub SightLaw : Type 0
SightLaw = (ts : List Tri) (p q : Point) (a b : ℤ) → Covers ts
    → IsClear ts p a q b ↔ ((k : Ratio) → IsFraction k → Found ts p q k → ¬ IsUnder ts p a q b k)
