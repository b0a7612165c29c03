-- Runs of rows and of columns together are the tiles that touch.
use Rattle.std.specs.Prelude.{◌≡◌, ℕ, ◌+◌, ◌^◌, ◌<◌, ◌&&◌, ◌||◌}
use Rattle.std.proofs.Common.{arith, ap, ◌∙◌}
use Rattle.terrain_base.specs.declared.square.Square.{Square}
use Rattle.terrain_base.specs.declared.tile.TileId.{TileId}
use Rattle.tms_tree.specs.declared.touched.TouchedRows.{TouchedRows}
use Rattle.tms_tree.specs.Touch.{meets_at, round_meets_at, touches_of}
use Rattle.tms_tree.specs.Touched.{is_in_run, is_in_east, is_in_rows}

pub touched_is : (tile : TileId) (square : Square) (touched : TouchedRows) (z rows : ℕ) → tile.z ≡ z → rows ≡ 2 ^ z
    → ((row : ℕ) → row < rows → meets_at z row square.lat ≡ is_in_run touched.rows row)
    → ((column : ℕ) → column < 2 ^ (z + 1) → round_meets_at z column square.lon ≡ (is_in_run touched.west column || is_in_east touched.east column))
    → touches_of tile square ≡ is_in_rows touched tile
unfolding touches_of
touched_is tile square touched z rows level count row_is column_is =
    let height : 2 ^ tile.z ≡ 2 ^ z = ap (λ (n : ℕ). 2 ^ n) level in
    let width : 2 ^ (tile.z + 1) ≡ 2 ^ (z + 1) = ap (λ (n : ℕ). 2 ^ (n + 1)) level in
    let row = ap (λ (n : ℕ). meets_at n tile.y square.lat) level ∙ row_is tile.y (omega (arith, tile.y_in_range)) in
    let column = ap (λ (n : ℕ). round_meets_at n tile.x square.lon) level ∙ column_is tile.x (omega (arith, tile.x_in_range)) in
    ap (λ b. b && round_meets_at tile.z tile.x square.lon) row ∙ ap (λ b. is_in_run touched.rows tile.y && b) column
