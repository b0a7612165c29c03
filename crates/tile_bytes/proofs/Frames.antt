-- The least and the greatest height of vertices are heights, in their order.
use Rattle.std.proofs.Common.{◌<◌, arith, pos, ◌-ℤ◌, ◌≤ℤ◌, List, length, All}
use Rattle.std.proofs.lemmas.Int.{ints}
use Rattle.terrain_base.specs.Height.{IsHeight}
use Rattle.tile_mesh.specs.declared.point.MeshPoint.{MeshPoint}
use Rattle.post_bound.specs.Span.{least_metres, most_metres}
use Rattle.tile_rule.proofs.Vertices.{ends_in_order, high_is_high, low_is_high}

pub record HaveEnds (ps : List MeshPoint) : Type 0 where
  pub order : least_metres ps ≤ℤ most_metres ps
  pub low : IsHeight (least_metres ps)
  pub high : IsHeight (most_metres ps)

pub have_ends : (ps : List MeshPoint) → 0 < length ps → All (λ p. IsHeight p.metres) ps → HaveEnds ps
have_ends ps some all = record {
  order = ends_in_order ps some;
  low = low_is_high (pos 16000) ps (record { above = omega (arith, ints); below = omega (arith, ints) }) all;
  high = high_is_high (pos 0 -ℤ pos 16000) ps (record { above = omega (arith, ints); below = omega (arith, ints) }) all;
}
