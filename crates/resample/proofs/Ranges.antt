-- Heights are from -16000 to 16000 metres, and those of a tile's grid points are a grid.
use Rattle.std.proofs.Common.{suc, ◌/◌, ◌%◌, ◌≤◌, ℤ, pos, arith, List, [], ◌∷◌, refl, sym, subst}
use Rattle.std.specs.Prelude.{Contains}
use Rattle.std.proofs.lemmas.List.FromFn.{get_or-map-range_with_len, length-map-range_with_len}
use Rattle.terrain_base.specs.Grid.{IsGrid}
use Rattle.terrain_base.specs.Height.{IsHeight}
use Rattle.terrain_base.specs.declared.post.Post.{Post}
use Rattle.terrain_base.specs.declared.post.Post.TheVariants.{Void, Metres}
use Rattle.terrain_base.specs.declared.square.Square.{Square}
use Rattle.terrain_base.specs.declared.tile.TileId.{TileId}
use Rattle.tms_tree.specs.declared.place.Place.{Place}
use Rattle.tms_tree.specs.Place.{IsPlace, place_of}
use Rattle.tms_tree.proofs.Places.{place_fits}
use Rattle.cell_mosaic.specs.Candidates.{candidates_of}
use Rattle.dted_cell.specs.Elevation.{IsPost}
use Rattle.cell_mosaic.specs.Cells.{Cells, AreSound}
use Rattle.cell_mosaic.specs.Value.{value_at}
use Rattle.cell_mosaic.proofs.Holders.{are_holders}
use Rattle.cell_mosaic.proofs.Ranges.{values_are_posts}
use Rattle.resample.specs.Height.{first_height, grid_of, height_at, height_of}
use Rattle.resample.proofs.Firsts.{height_by_list, values_at}

one_more : (fill : ℤ) (post : Post) (posts : List Post) → IsPost post → IsHeight (first_height fill posts) → IsHeight (first_height fill (post ∷ posts))
one_more fill Void posts h k = k
one_more fill (Metres metres) posts h k = h

first_is_height : (fill : ℤ) (cells : Cells) (place : Place) (squares : List Square) → IsHeight fill → ((square : Square) → Contains squares square → IsPost (value_at cells square place))
    → IsHeight (first_height fill (values_at cells place squares))
first_is_height fill cells place [] h all = h
first_is_height fill cells place (square ∷ squares) h all =
    one_more fill (value_at cells square place) (values_at cells place squares) (all square (0, omega arith, refl))
    (first_is_height fill cells place squares h (λ s c. all s (suc c.0, (let b = c.1 in omega arith), c.2)))

pub height_is : (fill : ℤ) (cells : Cells) (place : Place) → IsHeight fill → AreSound cells → IsPlace place → IsHeight (height_at fill cells place)
height_is fill cells place h sound fit =
    subst IsHeight (height_by_list fill cells place (candidates_of place) refl)
    (first_is_height fill cells place (candidates_of place) h (λ square c. values_are_posts cells square place sound fit ((are_holders place square fit).0 c)))

pub grid_is : (fill : ℤ) (cells : Cells) (tile : TileId) → IsHeight fill → AreSound cells → IsGrid (grid_of fill cells tile)
unfolding grid_of
grid_is fill cells tile h sound = record {
  full = length-map-range_with_len (height_of fill cells tile) 0 4489;
  heights = λ k below.
      let col : k % 67 ≤ 66 = omega arith in
      let row : k / 67 ≤ 66 = omega arith in
      subst IsHeight (sym (get_or-map-range_with_len (height_of fill cells tile) 0 4489 k k (pos 0) below (omega arith)))
      (height_is fill cells (place_of tile (k % 67) (k / 67)) h sound (place_fits tile (k % 67) (k / 67) col row));
}
