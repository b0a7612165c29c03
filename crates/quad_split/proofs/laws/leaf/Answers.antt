use Rattle.mesh_plane.specs.Triangles.{tri_of}
use Rattle.quad_split.specs.Fan.{grid_corner}
use Rattle.quad_split.specs.Fits.{Follows}
use Rattle.quad_split.proofs.Meanings.{fit_test}
use Rattle.quad_split.proofs.Fairness.{unsplit_fits}
use Rattle.quad_split.proofs.LeafTriangles.{leaf_triangles}
use Rattle.quad_split.proofs.laws.leaf.Goals as goal

pub returns : goal.returns
returns c = record {
  fits = λ grid tol k x y n e. (fit_test grid tol k x y).0 (unsplit_fits grid tol k x y n e);
  triangles = λ grid tol k x y m n e.
      leaf_triangles (λ t. Follows grid tol (tri_of t)) (grid_corner grid) k x y m
      ((fit_test grid tol k x y).0 (unsplit_fits grid tol k x y n e));
}
