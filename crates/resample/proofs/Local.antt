-- Heights and grids depend on the cells alone that hold the place, or touch the tile.
use Rattle.std.proofs.Common.{◌≡◌, ℕ, suc, ◌/◌, ◌%◌, ◌<◌, ◌≤◌, ℤ, pos, true, List, [], ◌∷◌, get_or, refl, sym, ap, ◌∙◌, arith}
use Rattle.std.specs.Prelude.{Contains}
use Rattle.std.specs.FinMap.{get}
use Rattle.std.proofs.lemmas.List.FromFn.{get_or-map-range_with_len}
use Rattle.terrain_base.specs.declared.square.Square.{Square}
use Rattle.terrain_base.specs.declared.cell_key.CellKey.{CellKey}
use Rattle.terrain_base.specs.CellKey.{key_at}
use Rattle.terrain_base.specs.declared.tile.TileId.{TileId}
use Rattle.tms_tree.specs.declared.place.Place.{Place}
use Rattle.tms_tree.specs.Degrees.{RectangleHolds, square_rectangle}
use Rattle.tms_tree.specs.Place.{IsPlace, point_of, place_of}
use Rattle.tms_tree.specs.Touch.{touches_of}
use Rattle.tms_tree.proofs.Places.{place_fits, grid_point_in_tile}
use Rattle.tms_tree.proofs.Touching.{touches_from}
use Rattle.cell_mosaic.specs.Cells.{Cells}
use Rattle.cell_mosaic.specs.Candidates.{candidates_of}
use Rattle.cell_mosaic.proofs.Values.{same_at}
use Rattle.cell_mosaic.proofs.Holders.{are_holders}
use Rattle.resample.specs.Height.{first_height, height_at, height_of, grid_of}
use Rattle.resample.proofs.Firsts.{values_at, height_by_list}
use Rattle.resample.proofs.Grids.{is_grid}

same_values : (cells others : Cells) (place : Place) (squares : List Square) → ((key : CellKey) → Contains squares key.square → get cells key ≡ get others key)
    → values_at cells place squares ≡ values_at others place squares
same_values cells others place [] same = refl
same_values cells others place (square ∷ squares) same = λ i.
    same_at cells others square place (λ level. same (key_at square level) (0, omega arith, refl)) i
    ∷ same_values cells others place squares (λ k c. same k (suc c.0, (let b = c.1 in omega arith), c.2)) i

pub height_local : (fill : ℤ) (cells others : Cells) (place : Place) → IsPlace place → ((key : CellKey) → RectangleHolds (square_rectangle key.square) (point_of place) → get cells key ≡ get others key)
    → height_at fill cells place ≡ height_at fill others place
height_local fill cells others place fit same =
    sym (height_by_list fill cells place (candidates_of place) refl)
    ∙ ap (first_height fill) (same_values cells others place (candidates_of place) (λ k c. same k ((are_holders place k.square fit).0 c)))
    ∙ height_by_list fill others place (candidates_of place) refl

at_number : (fill : ℤ) (cells : Cells) (tile : TileId) (n : ℕ) → n < 4489 → get_or (grid_of fill cells tile) n (pos 0) ≡ height_of fill cells tile n
unfolding grid_of
at_number fill cells tile n below = get_or-map-range_with_len (height_of fill cells tile) 0 4489 n n (pos 0) (omega arith) (omega arith)

pub grid_local : (fill : ℤ) (cells others : Cells) (tile : TileId) → ((key : CellKey) → touches_of tile key.square ≡ true → get cells key ≡ get others key)
    → grid_of fill cells tile ≡ grid_of fill others tile
unfolding grid_of
grid_local fill cells others tile same = is_grid fill others tile (grid_of fill cells tile) refl (λ n below.
    let col : n % 67 ≤ 66 = omega arith in
    let row : n / 67 ≤ 66 = omega arith in
    let fit = place_fits tile (n % 67) (n / 67) col row in
    at_number fill cells tile n below
    ∙ height_local fill cells others (place_of tile (n % 67) (n / 67)) fit (λ key holds.
    same key (touches_from tile key.square (record { point = point_of (place_of tile (n % 67) (n / 67)); fraction = fit.positive; of_tile = grid_point_in_tile tile (n % 67) (n / 67) col row; of_square = holds }))))
