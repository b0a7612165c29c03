-- The gaps at the posts of one cell.
use Rattle.std.specs.Prelude.{◌≡◌, ◌↔◌, ℕ, ℤ, pos, ◌-◌, ◌*◌, ◌^◌, ◌+ℤ◌, ◌-ℤ◌, ◌*ℤ◌, ◌<◌, ◌≤◌, List, Contains, length, slice_index_or}
use Rattle.terrain_base.specs.declared.cell_key.CellKey.{CellKey}
use Rattle.terrain_base.specs.declared.tile.TileId.{TileId}
use Rattle.terrain_base.specs.Level.{lat_step_of, lon_step_of, rows_of, columns_of}
use Rattle.cell_mosaic.specs.Cells.{Cells}
use Rattle.mesh_plane.specs.declared.corner.Tri.{Tri}
use Rattle.mesh_plane.specs.Plane.{TriangleHolds}
use Rattle.mesh_plane.specs.Surface.{gap_over, gap_under}
use Rattle.lattice_sweep.specs.declared.axis.Axis.{Axis}
use Rattle.lattice_sweep.specs.Axis.{point_of, IsCut}
use Rattle.lattice_sweep.specs.Bound.{GapIn}
use Rattle.post_bound.specs.Posts.{IsPostOf}

-- the fraction gap/under is the difference of a triangle's plane and a post of the key's cell that it holds, at the
-- point (u/10125, v/10125)
pub record WindowGap (cells : Cells) (tile : TileId) (ts : List Tri) (key : CellKey) (turns : ℤ) (gap : ℕ)
    (under : ℤ) : Type 0 where
  pub tri : Tri
  pub u : ℤ
  pub v : ℤ
  pub metres : ℤ
  pub among : Contains ts tri
  pub post : IsPostOf cells tile key turns (pos 64 *ℤ u) (pos 64 *ℤ v) metres
  pub held : TriangleHolds (pos 10125) u v tri
  pub area : under ≡ gap_under tri (pos 10125)
  pub size : pos gap ≡ gap_over tri (pos 10125) u v metres

-- a gap of the window at one of the first triangles
pub record OfTriangles (cells : Cells) (key : CellKey) (ts : List Tri) (east north : Axis) (end gap : ℕ)
    (under : ℤ) : Type 0 where
  pub tri : Tri
  pub index : ℕ
  pub before : index < end
  pub has : index < length ts
  pub is : slice_index_or ts index tri ≡ tri
  pub here : GapIn cells key tri east north gap under

-- where the posts of a line lie that begins so many arc-seconds on, at a level of which k is 2^(z-6)
abbrev pub place_in : ℤ → ℤ → ℕ → ℕ → ℕ → ℤ
place_in seconds k stripe step i = ((seconds +ℤ pos (i * step)) *ℤ k -ℤ pos (10125 * stripe)) *ℤ pos 32767

-- the columns and the rows of the key's cell over the tile, so many turns of the globe further
pub record AreColumns (tile : TileId) (key : CellKey) (turns : ℤ) (east : Axis) : Type 0 where
  pub points : (i : ℕ) → point_of east i
      ≡ place_in (pos (3600 * key.square.lon) +ℤ turns *ℤ pos 1296000) (pos (2 ^ (tile.z - 6))) tile.x
      (lon_step_of key.square key.level) i
  pub from : east.from ≡ 0
  pub to : east.to ≡ columns_of key.square key.level

pub record AreRows (tile : TileId) (key : CellKey) (north : Axis) : Type 0 where
  pub points : (i : ℕ) → point_of north i
      ≡ place_in (pos (3600 * key.square.lat)) (pos (2 ^ (tile.z - 6))) tile.y (lat_step_of key.level) i
  pub from : north.from ≡ 0
  pub to : north.to ≡ rows_of key.level

-- over the axes cut to the tile, the gaps at all triangles are exactly those of the definition
abbrev pub WindowLaw : Type 0
WindowLaw = (cells : Cells) (tile : TileId) (ts : List Tri) (key : CellKey) (turns : ℤ) (east north e n : Axis)
    (gap : ℕ) (under : ℤ) → 6 ≤ tile.z → AreColumns tile key turns east → AreRows tile key north
    → IsCut east (pos 0) (pos 331765875) e → IsCut north (pos 0) (pos 331765875) n
    → OfTriangles cells key ts e n (length ts) gap under ↔ WindowGap cells tile ts key turns gap under
