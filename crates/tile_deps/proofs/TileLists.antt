-- The tiles that touch a square, and those that exist, are those of their lists and no others.
use Rattle.std.specs.Prelude.{◌≡◌, ℕ, ◌+◌, ◌*◌, ◌≤◌, ◌↔◌, nat_le, true, List, length}
use Rattle.std.specs.List.{list_any, Contains}
use Rattle.std.specs.Ordering.{eq_by_cmp}
use Rattle.std.proofs.Common.{inl, inr, sym, subst}
use Rattle.std.proofs.lemmas.Bool.{both_ways, cases_lt, leb-true, le-leb}
use Rattle.std.proofs.lemmas.Cmp.{eq_by_cmp_equiv}
use Rattle.std.proofs.lemmas.List.Folds.{Any-from_list_any}
use Rattle.std.proofs.lemmas.Map.Views.{tells_apart}
use Rattle.terrain_base.specs.TileOrder.{tile_cmp}
use Rattle.terrain_base.specs.declared.square.Square.{Square}
use Rattle.terrain_base.specs.declared.summary.Summary.{Summary}
use Rattle.terrain_base.specs.declared.tile.TileId.{TileId}
use Rattle.terrain_base.proofs.TileOrder.{tiles_exact, tiles_total}
use Rattle.tms_tree.specs.Touch.{Touches, touches_of}
use Rattle.tms_tree.proofs.Touching.{touches_law}
use Rattle.availability.specs.Count.{tile_count_of}
use Rattle.availability.specs.Existence.{Exists, exists_of}
use Rattle.availability.proofs.Existing.{above_cap, any_from, exists_law}
use Rattle.availability.proofs.TileLists.{list_count}
use Rattle.tile_deps.specs.Laws.{TilesAscend}
use Rattle.tile_deps.specs.Tiles.{all_tiles, existing, touched}
use Rattle.tile_deps.proofs.AllTiles.{all_rises, all_there, all_within}
use Rattle.tile_deps.proofs.Listed.{kept_there, there_kept}
use Rattle.tile_deps.proofs.Rising.{Rises, ascend_once, kept_rise, rise_ascend}

-- ---- the tiles that touch

pub touched_there : (cap : ℕ) (square : Square) (tile : TileId) → tile.z ≤ cap → touches_of tile square ≡ true → Contains (touched cap square) tile
unfolding touched
touched_there cap square tile le is = kept_there (λ tile. touches_of tile square) (all_tiles cap) tile (all_there cap tile le) is

pub there_touched : (cap : ℕ) (square : Square) (tile : TileId) → Contains (touched cap square) tile → (tile.z ≤ cap) × (touches_of tile square ≡ true)
unfolding touched
there_touched cap square tile h =
    let both = there_kept (λ tile. touches_of tile square) (all_tiles cap) tile h in
    (all_within cap tile both.0, both.1)

pub touched_rises : (cap : ℕ) (square : Square) → Rises 0 (536870912 * (cap + 1)) (touched cap square)
unfolding touched
touched_rises cap square = kept_rise (λ tile. touches_of tile square) 0 (536870912 * (cap + 1)) (all_tiles cap) (all_rises cap)

pub touched_exact : (cap : ℕ) (square : Square) (tile : TileId) → Contains (touched cap square) tile ↔ ((tile.z ≤ cap) × Touches tile square)
touched_exact cap square tile = (
  λ h. let both = there_touched cap square tile h in (both.0, (touches_law tile square).0 both.1),
  λ h. touched_there cap square tile h.0 ((touches_law tile square).1 h.1),
)

pub touched_ascend : (cap : ℕ) (square : Square) → TilesAscend (touched cap square)
touched_ascend cap square = rise_ascend 0 (536870912 * (cap + 1)) (touched cap square) (touched_rises cap square)

-- ---- the same by a test on the list

any_there : (tiles : List TileId) (tile : TileId) → list_any (eq_by_cmp tile_cmp tile) tiles ≡ true → Contains tiles tile
any_there tiles tile h =
    let one = Any-from_list_any (eq_by_cmp tile_cmp tile) tiles h in
    subst (Contains tiles) (sym (tells_apart tiles_exact tile one.1 one.4)) (one.0, one.2, one.3)

there_any : (tiles : List TileId) (tile : TileId) → Contains tiles tile → list_any (eq_by_cmp tile_cmp tile) tiles ≡ true
there_any tiles tile h = any_from (eq_by_cmp tile_cmp tile) tiles tile h ((eq_by_cmp_equiv tiles_total).refl tile)

pub touched_all : (cap : ℕ) (t : TileId) (q : Square) → nat_le t.z cap ≡ true → touches_of t q ≡ true → list_any (eq_by_cmp tile_cmp t) (touched cap q) ≡ true
touched_all cap t q within is = there_any (touched cap q) t (touched_there cap q t (leb-true t.z cap within) is)

pub touched_only : (cap : ℕ) (t : TileId) (q : Square) → list_any (eq_by_cmp tile_cmp t) (touched cap q) ≡ true → (nat_le t.z cap ≡ true) × (touches_of t q ≡ true)
touched_only cap t q h =
    let both = there_touched cap q t (any_there (touched cap q) t h) in
    (le-leb t.z cap both.0, both.1)

-- ---- the existing tiles

within_cap : (cap : ℕ) (cells : List Summary) (tile : TileId) → exists_of cap cells tile ≡ true → tile.z ≤ cap
within_cap cap cells tile h =
    elim (cases_lt cap tile.z) [
      | inl above ↦ absurd (both_ways (exists_of cap cells tile) (above_cap cap cells tile above) h)
      | inr le ↦ le
    ]

pub existing_there : (cap : ℕ) (cells : List Summary) (tile : TileId) → exists_of cap cells tile ≡ true → Contains (existing cap cells) tile
unfolding existing
existing_there cap cells tile is = kept_there (exists_of cap cells) (all_tiles cap) tile (all_there cap tile (within_cap cap cells tile is)) is

pub there_existing : (cap : ℕ) (cells : List Summary) (tile : TileId) → Contains (existing cap cells) tile → exists_of cap cells tile ≡ true
unfolding existing
there_existing cap cells tile h = (there_kept (exists_of cap cells) (all_tiles cap) tile h).1

pub existing_all : (cap : ℕ) (cells : List Summary) (t : TileId) → exists_of cap cells t ≡ true → list_any (eq_by_cmp tile_cmp t) (existing cap cells) ≡ true
existing_all cap cells t is = there_any (existing cap cells) t (existing_there cap cells t is)

pub existing_only : (cap : ℕ) (cells : List Summary) (t : TileId) → list_any (eq_by_cmp tile_cmp t) (existing cap cells) ≡ true → exists_of cap cells t ≡ true
existing_only cap cells t h = there_existing cap cells t (any_there (existing cap cells) t h)

pub existing_exact : (cap : ℕ) (cells : List Summary) (tile : TileId) → Contains (existing cap cells) tile ↔ Exists cap cells tile
existing_exact cap cells tile = (
  λ h. (exists_law cap cells tile).0 (there_existing cap cells tile h),
  λ h. existing_there cap cells tile ((exists_law cap cells tile).1 h),
)

existing_rises : (cap : ℕ) (cells : List Summary) → Rises 0 (536870912 * (cap + 1)) (existing cap cells)
unfolding existing
existing_rises cap cells = kept_rise (exists_of cap cells) 0 (536870912 * (cap + 1)) (all_tiles cap) (all_rises cap)

pub existing_ascend : (cap : ℕ) (cells : List Summary) → TilesAscend (existing cap cells)
existing_ascend cap cells = rise_ascend 0 (536870912 * (cap + 1)) (existing cap cells) (existing_rises cap cells)

pub existing_count : (cap : ℕ) (cells : List Summary) → length (existing cap cells) ≡ tile_count_of cap cells
existing_count cap cells =
    list_count cap cells (existing cap cells)
    (record { once = ascend_once 0 (536870912 * (cap + 1)) (existing cap cells) (existing_rises cap cells); exact = existing_exact cap cells })
