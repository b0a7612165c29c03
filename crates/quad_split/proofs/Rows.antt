-- One grid point further, and one row further.
use Rattle.std.proofs.Common.{◌≡◌, ℕ, suc, ◌+◌, ◌-◌, ◌<◌, arith, add-one, true, List}
use Rattle.std.specs.Prelude.{ℤ}
use Rattle.mesh_plane.specs.declared.corner.Tri.{Tri}
use Rattle.quad_split.specs.Fits.{follows_at, follows_row, follows_rows}

pub row_step : (grid : List ℤ) (tol : ℕ) (t : Tri) (k j e : ℕ) → k < e → follows_at grid tol t k j ≡ true
    → follows_row grid tol t (k + 1) j (e - (k + 1)) ≡ follows_row grid tol t k j (e - k)
row_step grid tol t k j e l h = let d : e - k ≡ suc (e - (k + 1)) = omega arith in rw (d, h, add-one)

pub rows_step : (grid : List ℤ) (tol : ℕ) (t : Tri) (i k m e : ℕ) → k < e → follows_row grid tol t i k m
    ≡ true
    → follows_rows grid tol t i (k + 1) m (e - (k + 1)) ≡ follows_rows grid tol t i k m (e - k)
rows_step grid tol t i k m e l h = let d : e - k ≡ suc (e - (k + 1)) = omega arith in rw (d, h, add-one)
