use Rattle.std.proofs.Common.{◌≡◌, pos, take, fold, map}
use Rattle.std.specs.Int.{int_min}
use Rattle.tile_mesh.specs.declared.point.MeshPoint.{MeshPoint}
use Rattle.post_bound.proofs.span.lowest.Given as goal

abbrev pub invariant-loop-point : goal.invariant-loop-point
invariant-loop-point l = l.least ≡ fold int_min (pos 16000) (take l.point-index (map (λ (p : MeshPoint). p.metres) l.points))
