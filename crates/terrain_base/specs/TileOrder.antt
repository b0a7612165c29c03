-- The order of tiles: by level, then row, then column.
use Rattle.std.specs.Ordering.{nat_cmp, ordering_then}
use Rattle.std.specs.declared.cmp.Ordering.{Ordering}
use Rattle.terrain_base.specs.declared.tile.TileId.{TileId}

abbrev pub tile_cmp : TileId → TileId → Ordering
tile_cmp a b = ordering_then (nat_cmp a.z b.z) (ordering_then (nat_cmp a.y b.y) (nat_cmp a.x b.x))
