-- The error bound at posts, from level 8 on.
use Rattle.std.specs.Prelude.{ℕ, ℤ, pos, negsuc, ◌≤◌, List, [], ◌∷◌, int_le, Bool, ◌&&◌, unsigned_abs, if◌then◌else◌}
use Rattle.std.specs.FinMap.{keys, retain_keys}
use Rattle.terrain_base.specs.declared.cell_key.CellKey.{CellKey}
use Rattle.terrain_base.specs.declared.tile.TileId.{TileId}
use Rattle.terrain_base.specs.declared.post.Post.{Post}
use Rattle.terrain_base.specs.declared.post.Post.TheVariants.{Void, Metres}
use Rattle.terrain_base.specs.Division.{ceil_of}
use Rattle.terrain_base.specs.Level.{rows_of, columns_of}
use Rattle.tms_tree.specs.Touch.{touches_of}
use Rattle.cell_mosaic.specs.Cells.{Cells, post_at}
use Rattle.mesh_plane.specs.declared.corner.Tri.{Tri}
use Rattle.mesh_plane.specs.Plane.{side_of}
use Rattle.mesh_plane.specs.Surface.{gap_over, gap_under}
use Rattle.mesh_plane.specs.SurfaceLaw.{IsSurfaceNear}
use Rattle.tile_mesh.specs.Mesh.{Mesh}
use Rattle.tile_mesh.specs.Plane.{triangles_in}
use Rattle.post_bound.specs.Posts.{HasPostAt, across, along, seconds_east, seconds_north}
use Rattle.post_bound.specs.Greatest.{greatest_of, greatest_below}

-- at each post in the closed tile that is not void the surface of the triangles differs from it by at most the bound
pub record KeepsBound (cells : Cells) (tile : TileId) (ts : List Tri) (bound : ℕ) : Type 0 where
  pub near : (u v metres : ℤ) → HasPostAt cells tile u v metres → IsSurfaceNear ts (pos 648000) u v metres (pos bound)

-- and no lesser whole number is a bound
pub record IsPostBound (cells : Cells) (tile : TileId) (ts : List Tri) (bound : ℕ) : Type 0 where
  pub keeps : KeepsBound cells tile ts bound
  pub least : (n : ℕ) → KeepsBound cells tile ts n → bound ≤ n

-- ---- the same as a number

-- the cells that touch the tile
abbrev pub near : TileId → Cells → Cells
near tile cells = retain_keys cells (λ key. touches_of tile key.square)

-- whether the triangle holds the point (u/648000, v/648000)
abbrev pub is_held : ℤ → ℤ → Tri → Bool
is_held u v t =
    int_le (pos 0) (side_of t.a t.b (pos 648000) u v)
    && (int_le (pos 0) (side_of t.b t.c (pos 648000) u v) && int_le (pos 0) (side_of t.c t.a (pos 648000) u v))

-- how far the plane of the triangle is from a height there, in whole metres rounded up; 0 where it does not hold the
-- point
abbrev pub gap_at : ℤ → ℤ → ℤ → Tri → ℕ
gap_at u v metres t =
    if is_held u v t then unsigned_abs (ceil_of (gap_over t (pos 648000) u v metres) (gap_under t (pos 648000))) else 0

-- the greatest of these at a post, where it stands and a turn of the globe to the west and to the east
abbrev pub gap_of_post : TileId → List Tri → CellKey → ℕ → ℕ → Post → ℕ
gap_of_post tile ts key col row Void = 0
gap_of_post tile ts key col row (Metres metres) =
    greatest_of (λ turns. greatest_of
    (gap_at (across tile (seconds_east key col) turns) (along tile (seconds_north key row)) metres) ts)
    (negsuc 0 ∷ pos 0 ∷ pos 1 ∷ [])

-- over the posts of a cell
abbrev pub gap_of_cell : TileId → List Tri → Cells → CellKey → ℕ
gap_of_cell tile ts cells key =
    greatest_below (columns_of key.square key.level)
    (λ col. greatest_below (rows_of key.level) (λ row. gap_of_post tile ts key col row (post_at cells key col row)))

-- and over the cells that touch the tile
unfoldable pub post_bound_of : Cells → TileId → Mesh → ℕ
post_bound_of cells tile mesh =
    greatest_of (gap_of_cell tile (triangles_in mesh) (near tile cells)) (keys (near tile cells))
