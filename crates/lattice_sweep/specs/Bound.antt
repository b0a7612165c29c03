-- The least whole number of metres that is a bound on gaps.
use Rattle.std.specs.Prelude.{◌≡◌, ℕ, ℤ, pos, ◌*ℤ◌, ◌≤ℤ◌, ◌≤◌}
use Rattle.terrain_base.specs.declared.cell_key.CellKey.{CellKey}
use Rattle.cell_mosaic.specs.Cells.{Cells}
use Rattle.mesh_plane.specs.declared.corner.Tri.{Tri}
use Rattle.mesh_plane.specs.Surface.{gap_under}
use Rattle.lattice_sweep.specs.declared.axis.Axis.{Axis}
use Rattle.lattice_sweep.specs.Sweep.{InWindow}

-- a coordinate of the tile
pub record IsCoordinate (n : ℤ) : Type 0 where
  pub low : pos 0 ≤ℤ n
  pub high : n ≤ℤ pos 32767

-- the fraction gap/under is the difference of the triangle's plane and a post of the window that it holds
pub record GapIn (cells : Cells) (key : CellKey) (t : Tri) (east north : Axis) (gap : ℕ) (under : ℤ) : Type 0 where
  pub area : under ≡ gap_under t (pos 10125)
  pub at : InWindow cells key t east north east.to gap

-- each fraction that G names is at most the bound
abbrev pub KeepsAll : (ℕ → ℤ → Type 0) → ℕ → Type 0
KeepsAll G bound = (gap : ℕ) (under : ℤ) → G gap under → pos gap ≤ℤ (pos bound *ℤ under)

-- the bound so far is raised by the fractions that G names: it is the least number that is at least what it was and
-- at least each of them
pub record IsRaisedBound (G : ℕ → ℤ → Type 0) (before after : ℕ) : Type 0 where
  pub least : before ≤ after
  pub keeps : KeepsAll G after
  pub sharp : (n : ℕ) → before ≤ n → KeepsAll G n → after ≤ n
