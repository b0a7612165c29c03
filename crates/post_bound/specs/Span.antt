-- The error bound below level 8, by the extremes of cells and of the mesh.
use Rattle.std.specs.Prelude.{◌≡◌, ◌⊎◌, ℕ, ℤ, pos, ◌-ℤ◌, ◌≤ℤ◌, max, true, List, fold, map, Option, Some, None, int_le, unsigned_abs, Contains, if◌then◌else◌}
use Rattle.std.specs.Int.{int_min, int_max}
use Rattle.terrain_base.specs.declared.tile.TileId.{TileId}
use Rattle.terrain_base.specs.declared.post.Extremes.{Extremes}
use Rattle.terrain_base.specs.declared.summary.Summary.{Summary}
use Rattle.tms_tree.specs.Touch.{touches_of}
use Rattle.tile_mesh.specs.declared.point.MeshPoint.{MeshPoint}
use Rattle.tile_mesh.specs.Mesh.{Mesh}
use Rattle.post_bound.specs.Greatest.{greatest_of}

-- the least and the greatest height of vertices, of those from -16000 to 16000 metres
abbrev pub least_metres : List MeshPoint → ℤ
least_metres points = fold int_min (pos 16000) (map (λ p. p.metres) points)

abbrev pub most_metres : List MeshPoint → ℤ
most_metres points = fold int_max (pos 0 -ℤ pos 16000) (map (λ p. p.metres) points)

-- the whole number, or 0 where it is below 0
abbrev pub or_zero : ℤ → ℕ
or_zero n = if int_le n (pos 0) then 0 else unsigned_abs n

-- a cell's greatest post over the least vertex, or the greatest vertex over its least post
abbrev pub span_of_extremes : ℤ → ℤ → Option Extremes → ℕ
span_of_extremes least most None = 0
span_of_extremes least most (Some e) = max (or_zero (e.greatest -ℤ least)) (or_zero (most -ℤ e.least))

-- the same of a cell that touches the tile, 0 of others
abbrev pub span_of_cell : TileId → ℤ → ℤ → Summary → ℕ
span_of_cell tile least most cell =
    if touches_of tile cell.square then span_of_extremes least most cell.extremes else 0

-- the greatest of these
unfoldable pub span_bound_of : List Summary → TileId → Mesh → ℕ
span_bound_of summaries tile mesh =
    greatest_of (span_of_cell tile (least_metres mesh.points) (most_metres mesh.points)) summaries

-- ---- the same in words

-- n is the difference of a vertex and an extreme of a cell that touches the tile
pub record IsSpan (summaries : List Summary) (tile : TileId) (mesh : Mesh) (n : ℤ) : Type 0 where
  pub cell : Summary
  pub point : MeshPoint
  pub extremes : Extremes
  pub among : Contains summaries cell
  pub vertex : Contains mesh.points point
  pub touches : touches_of tile cell.square ≡ true
  pub has : cell.extremes ≡ Some extremes
  pub is : (n ≡ extremes.greatest -ℤ point.metres) ⊎ (n ≡ point.metres -ℤ extremes.least)

-- the greatest of 0 and these
pub record IsSpanBound (summaries : List Summary) (tile : TileId) (mesh : Mesh) (bound : ℕ) : Type 0 where
  pub keeps : (n : ℤ) → IsSpan summaries tile mesh n → n ≤ℤ pos bound
  pub attained : (bound ≡ 0) ⊎ IsSpan summaries tile mesh (pos bound)
