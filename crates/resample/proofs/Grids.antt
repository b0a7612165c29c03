-- The grid of a tile, point by point.
use Rattle.std.proofs.Common.{◌≡◌, ◌≢◌, ◌⊎◌, ℕ, ◌+◌, ◌*◌, ◌/◌, ◌%◌, ◌<◌, ◌≤◌, ℤ, pos, List, length, get_or, set, inl, inr, sym, ap, ◌∙◌, arith, get_or-set_other, get_or-set_same}
use Rattle.std.proofs.lemmas.Bool.{cases_order}
use Rattle.tms_tree.specs.declared.place.Place.{Place}
use Rattle.std.proofs.lemmas.List.FromFn.{get_or-map-range_with_len, fill_by_all}
use Rattle.terrain_base.specs.declared.tile.TileId.{TileId}
use Rattle.terrain_base.specs.Grid.{spot}
use Rattle.tms_tree.specs.Place.{place_of}
use Rattle.cell_mosaic.specs.Cells.{Cells}
use Rattle.resample.specs.Height.{height_at, height_of, HasFirst, grid_of}
use Rattle.resample.specs.HeightLaws.{GridHasHeights}

pub grid_has_heights : GridHasHeights
unfolding grid_of
grid_has_heights fill cells tile i j h k =
    get_or-map-range_with_len (height_of fill cells tile) 0 4489 (spot i j) (spot i j) (pos 0) (omega arith) (omega arith)
    ∙ (let c : (67 * j + i) % 67 ≡ i = omega arith in let r : (67 * j + i) / 67 ≡ j = omega arith in λ t. height_at fill cells (place_of tile (c t) (r t)))

pub is_grid : (fill : ℤ) (cells : Cells) (tile : TileId) (grid : List ℤ) → length grid ≡ 4489 → HasFirst fill cells tile grid 4489 → grid ≡ grid_of fill cells tile
unfolding grid_of
is_grid fill cells tile grid full all = fill_by_all (height_of fill cells tile) grid 4489 (pos 0) full all

-- one point more
pub first_more : (fill : ℤ) (cells : Cells) (tile : TileId) (grid : List ℤ) (k at next : ℕ) (metres : ℤ) → at ≡ k → next ≡ k + 1 → k < length grid → metres ≡ height_of fill cells tile k → HasFirst fill cells tile grid k → HasFirst fill cells tile (set grid at metres) next
first_more fill cells tile grid k at next metres same more h is before n below = elim (cases_order n at) [
  | inl e ↦ ap (λ (m : ℕ). get_or (set grid at metres) m (pos 0)) e ∙ get_or-set_same grid at metres (pos 0) (omega arith) ∙ is ∙ ap (height_of fill cells tile) (sym (e ∙ same))
  | inr s ↦ get_or-set_other grid at n metres (pos 0) (other s) ∙ before n (omega (arith, other s))
]
  where
    other : (n < at) ⊎ (at < n) → n ≢ at
    other (inl l) e = omega arith
    other (inr m) e = omega arith

-- the height at the place of a grid point is that of the point's number
pub height_at_spot : (fill : ℤ) (cells : Cells) (tile : TileId) (i j : ℕ) (place : Place) (metres : ℤ) → i ≤ 66 → place ≡ place_of tile i j → metres ≡ height_at fill cells place → metres ≡ height_of fill cells tile (67 * j + i)
height_at_spot fill cells tile i j place metres h is at =
    let c : i ≡ (67 * j + i) % 67 = omega arith in
    let r : j ≡ (67 * j + i) / 67 = omega arith in
    at ∙ ap (height_at fill cells) is ∙ (λ t. height_at fill cells (place_of tile (c t) (r t)))
