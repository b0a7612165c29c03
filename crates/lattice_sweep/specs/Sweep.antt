-- The greatest gap between a triangle's plane and the posts of a window that the triangle holds.
use Rattle.std.specs.Prelude.{◌≡◌, ◌⊎◌, ℕ, ℤ, pos, ◌≤◌, ◌<◌}
use Rattle.terrain_base.specs.declared.cell_key.CellKey.{CellKey}
use Rattle.terrain_base.specs.declared.post.Post.TheVariants.{Metres}
use Rattle.cell_mosaic.specs.Cells.{Cells, Shapes, HasPost, post_at}
use Rattle.mesh_plane.specs.declared.corner.Tri.{Tri}
use Rattle.mesh_plane.specs.Plane.{TriangleHolds}
use Rattle.mesh_plane.specs.Surface.{gap_over}
use Rattle.lattice_sweep.specs.declared.axis.Axis.{Axis}
use Rattle.lattice_sweep.specs.declared.window.Window.{Window}
use Rattle.lattice_sweep.specs.Axis.{point_of, Has, IsOnSide}

-- the key's cell has a post in each column and row of the window
abbrev pub HasPosts : Shapes → CellKey → Axis → Axis → Type 0
HasPosts shapes key east north = (col row : ℕ) → Has east col → Has north row → HasPost shapes key col row

-- both axes lie on the tile, and the key's cell has a post in each of their columns and rows
pub record IsWindow (shapes : Shapes) (window : Window) : Type 0 where
  pub east : IsOnSide window.east
  pub north : IsOnSide window.north
  pub posts : HasPosts shapes window.key window.east window.north

-- the post of a column and a row is not void, the triangle holds the point (u/10125, v/10125) where it lies, and the
-- plane is so far from it, times the area at the scale
pub record HeldGap (cells : Cells) (key : CellKey) (col row : ℕ) (t : Tri) (u v : ℤ) (gap : ℕ) : Type 0 where
  pub metres : ℤ
  pub post : post_at cells key col row ≡ Metres metres
  pub held : TriangleHolds (pos 10125) u v t
  pub size : pos gap ≡ gap_over t (pos 10125) u v metres

-- a gap at one of the column's rows that stand before a row
pub record InColumn (cells : Cells) (key : CellKey) (col : ℕ) (t : Tri) (u : ℤ) (north : Axis)
    (end gap : ℕ) : Type 0 where
  pub row : ℕ
  pub has : Has north row
  pub before : row < end
  pub here : HeldGap cells key col row t u (point_of north row) gap

-- a gap in the window, in the columns before one
pub record InWindow (cells : Cells) (key : CellKey) (t : Tri) (east north : Axis) (end gap : ℕ) : Type 0 where
  pub col : ℕ
  pub row : ℕ
  pub has_col : Has east col
  pub has_row : Has north row
  pub before : col < end
  pub here : HeldGap cells key col row t (point_of east col) (point_of north row) gap

-- the greatest gap so far is raised by those that P names: it is at least each, and is one of them or what it was
pub record IsRaised (P : ℕ → Type 0) (before after : ℕ) : Type 0 where
  pub least : before ≤ after
  pub most : (gap : ℕ) → P gap → gap ≤ after
  pub attained : (after ≡ before) ⊎ P after
