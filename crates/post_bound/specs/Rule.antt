-- The bound that a tile's note prints.
use Rattle.std.specs.Prelude.{ℕ, nat_lt, if◌then◌else◌}
use Rattle.terrain_base.specs.declared.tile.TileId.{TileId}
use Rattle.cell_mosaic.specs.Cells.{Cells}
use Rattle.cell_mosaic.specs.Summaries.{summaries_of}
use Rattle.tile_mesh.specs.Mesh.{Mesh}
use Rattle.post_bound.specs.Bound.{post_bound_of}
use Rattle.post_bound.specs.Span.{span_bound_of}

-- from the posts at levels 8 and more, from the extremes below
unfoldable pub bound_of : Cells → TileId → Mesh → ℕ
bound_of cells tile mesh =
    if nat_lt tile.z 8 then span_bound_of (summaries_of cells) tile mesh else post_bound_of cells tile mesh
