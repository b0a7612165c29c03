-- What a question of sight answers.
use Rattle.std.specs.Prelude.{ℕ, ℤ, List}
use Rattle.mesh_plane.specs.declared.corner.Tri.{Tri}
use Rattle.mesh_plane.specs.Plane.{Point}
use Rattle.mesh_query.specs.declared.ratio.Ratio.{Ratio}
use Rattle.mesh_query.specs.Ratios.{IsAtMost, IsBelow, IsLowest, IsSame}
use Rattle.mesh_query.specs.Way.{way, SurfaceAt}
use Rattle.mesh_query.specs.Breaks.{IsBreak}
use Rattle.mesh_query.specs.Holder.{IsHolder}
use Rattle.sight_line.specs.declared.eye.SightAnswer.{SightAnswer}
use Rattle.sight_line.specs.declared.eye.SightAnswer.TheVariants.{Clear, Blocked}
use Rattle.sight_line.specs.Sight.{line_at, IsClear, IsUnder}

-- At the fraction `at` of the way, a break, the line is below the surface; at no break before it is it so. The surface
-- and the line have these heights there, and this is the least number of a triangle that holds the point.
pub record IsBlocked (ts : List Tri) (p : Point) (a : ℤ) (q : Point) (b : ℤ) (at : Ratio) (triangle : ℕ)
    (height line : Ratio) : Type 0 where
  pub at_lowest : IsLowest at
  pub is_break : IsBreak ts p q at
  pub first : (k : Ratio) → IsBreak ts p q k → IsUnder ts p a q b k → IsAtMost at k
  pub holder : IsHolder ts at.under (way p q at).u (way p q at).v triangle
  pub height_lowest : IsLowest height
  pub surface : SurfaceAt ts p q at height
  pub line_lowest : IsLowest line
  pub line_is : IsSame (line_at a b at) line
  pub below : IsBelow line height

-- sight is clear, or it is blocked first there
abbrev pub IsAnswer : List Tri → Point → ℤ → Point → ℤ → SightAnswer → Type 0
IsAnswer ts p a q b Clear = IsClear ts p a q b
IsAnswer ts p a q b (Blocked at triangle height line) = IsBlocked ts p a q b at triangle height line
