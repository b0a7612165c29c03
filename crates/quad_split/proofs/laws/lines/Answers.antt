use Rattle.quad_split.specs.Split.{is_split}
use Rattle.quad_split.proofs.Fairness.{broken, where_broken, halves_whole}
use Rattle.quad_split.proofs.laws.lines.Goals as goal

pub returns : goal.returns
returns c = record {
  broken = λ grid tol k x y e. broken (is_split grid tol) k x y e;
  midpoints = λ grid tol k x y e. where_broken (is_split grid tol) k x y e;
  whole = halves_whole;
}
