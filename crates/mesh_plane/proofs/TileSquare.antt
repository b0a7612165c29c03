-- The square of a tile.
use Rattle.std.specs.Prelude.{ℤ, pos, ◌*ℤ◌}
use Rattle.mesh_plane.specs.Fan.{Rect}

-- at the scale s
abbrev pub tile_at : ℤ → Rect
tile_at s = record { west = pos 0; south = pos 0; east = pos 32767 *ℤ s; north = pos 32767 *ℤ s }
