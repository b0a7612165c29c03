-- Spacings are small, and a cell's axes, cut to the tile, are a window of its posts.
use Rattle.std.proofs.Common.{◌≡◌, ℕ, ◌≤◌, ◌<◌, ◌*◌, Bool, true, false, ◌&&◌, arith, sym, subst, List, Option, Some, None, is_some}
use Rattle.std.specs.Prelude.{nat_lt, if◌then◌else◌, ℤ, pos, ◌≤ℤ◌}
use Rattle.std.specs.FinMap.{get}
use Rattle.std.specs.FinSet.{contains}
use Rattle.terrain_base.specs.declared.square.Square.{Square}
use Rattle.terrain_base.specs.declared.cell_key.CellKey.{CellKey}
use Rattle.terrain_base.specs.declared.tile.TileId.{TileId}
use Rattle.terrain_base.specs.declared.level.CellLevel.{CellLevel}
use Rattle.terrain_base.specs.declared.level.CellLevel.TheVariants.{Zero, One, Two}
use Rattle.terrain_base.specs.declared.post.Post.TheVariants.{Void, Metres}
use Rattle.terrain_base.specs.Level.{lat_step_of, lon_step_of, factor_at, zone_factor_of, degrees_from_equator}
use Rattle.cell_mosaic.specs.Cells.{Cells, Shapes, post_or_void}
use Rattle.mesh_plane.specs.declared.corner.Tri.{Tri}
use Rattle.lattice_sweep.specs.declared.axis.Axis.{Axis}
use Rattle.lattice_sweep.specs.Axis.{IsAxis, IsOnSide, IsCut}
use Rattle.lattice_sweep.specs.Sweep.{IsWindow}
use Rattle.lattice_sweep.proofs.Boxes.{posts_cut}
use Rattle.post_bound.specs.Window.{WindowGap, OfTriangles, AreColumns, AreRows}

abbrev Small : ℕ → Type 0
Small n = (1 ≤ n) × (n ≤ 6)

pick : (b : Bool) (m n : ℕ) → Small m → Small n → Small (if b then m else n)
pick true m n h k = h
pick false m n h k = k

factor_small : (d : ℕ) → Small (factor_at d)
factor_small d =
    pick (nat_lt d 50) 1 _ (omega arith, omega arith)
    (pick (nat_lt d 70) 2 _ (omega arith, omega arith)
    (pick (nat_lt d 75) 3 _ (omega arith, omega arith)
    (pick (nat_lt d 80) 4 6 (omega arith, omega arith) (omega arith, omega arith))))

pub lat_small : (level : CellLevel) → (1 ≤ lat_step_of level) × (lat_step_of level ≤ 30)
lat_small Zero = (omega arith, omega arith)
lat_small One = (omega arith, omega arith)
lat_small Two = (omega arith, omega arith)

by_zone : (level : CellLevel) (f : ℕ) → Small f → (1 ≤ lat_step_of level * f) × (lat_step_of level * f ≤ 180)
by_zone Zero f h = (omega (arith, h.0, h.1), omega (arith, h.0, h.1))
by_zone One f h = (omega (arith, h.0, h.1), omega (arith, h.0, h.1))
by_zone Two f h = (omega (arith, h.0, h.1), omega (arith, h.0, h.1))

pub lon_small : (square : Square) (level : CellLevel) → (1 ≤ lon_step_of square level) × (lon_step_of square level ≤ 180)
lon_small square level = by_zone level (zone_factor_of square.lat) (factor_small (degrees_from_equator square.lat))

-- cut to the tile, an axis lies on it
pub on_side : (a b : Axis) → IsCut a (pos 0) (pos 331765875) b → IsAxis b → IsOnSide b
on_side a b c axis = record {
  axis = axis;
  least = λ i h. subst (λ (z : ℤ). pos 0 ≤ℤ z) (sym (c.points i)) ((c.numbers i).0 h).1.0;
  greatest = λ i h. subst (λ (z : ℤ). z ≤ℤ pos 331765875) (sym (c.points i)) ((c.numbers i).0 h).1.1;
}

-- and all its posts are the cell's
pub window_of : (shapes : Shapes) (tile : TileId) (key : CellKey) (turns : ℤ) (east north e n : Axis) → contains shapes key ≡ true
    → AreColumns tile key turns east → AreRows tile key north
    → IsCut east (pos 0) (pos 331765875) e → IsCut north (pos 0) (pos 331765875) n → IsAxis e → IsAxis n
    → IsWindow shapes (record { key = key; east = e; north = n })
window_of shapes tile key turns east north e n has columns rows c d e_axis n_axis = record {
  east = on_side east e c e_axis;
  north = on_side north n d n_axis;
  posts = posts_cut shapes key east north e n _ _ _ _ c d
      (λ col row i j. record {
        held = has;
        in_col = subst (λ (k : ℕ). col < k) columns.to i.to;
        in_row = subst (λ (k : ℕ). row < k) rows.to j.to;
      });
}

-- ---- cells without posts on the tile
no_cell : (o : Option (List ℕ)) (col row : ℕ) (metres : ℤ) → is_some o ≡ false → post_or_void o col row ≡ Metres metres → ⊥
no_cell None col row metres e is = let differs : Void ≡ Metres metres = is in cc
no_cell (Some bytes) col row metres e is = cc

-- a key without a cell has no gap
pub no_posts : (cells : Cells) (tile : TileId) (ts : List Tri) (key : CellKey) (turns : ℤ) → is_some (get cells key) ≡ false
    → (n : ℕ) (u : ℤ) → WindowGap cells tile ts key turns n u → ⊥
no_posts cells tile ts key turns none n u w = no_cell (get cells key) w.post.col w.post.row w.metres none w.post.height

both_less : (a b c d : ℕ) → a < b → c < d → (nat_lt a b && nat_lt c d) ≡ true
both_less a b c d h k = grind (arith, h, k)

-- nor has a window without columns or rows
pub no_window : (cells : Cells) (key : CellKey) (ts : List Tri) (east north : Axis) (end : ℕ) → (nat_lt east.from east.to && nat_lt north.from north.to) ≡ false
    → (n : ℕ) (u : ℤ) → OfTriangles cells key ts east north end n u → ⊥
no_window cells key ts east north end none n u i =
    let at = i.here.at in
    let col = at.has_col in let row = at.has_row in
    let col_from = col.from in let col_to = col.to in let row_from = row.from in let row_to = row.to in
    let some = both_less east.from east.to north.from north.to (omega (arith, col_from, col_to)) (omega (arith, row_from, row_to)) in
    cc
