-- The line of a stored tile.
use Rattle.std.specs.Prelude.{◌<◌, ◌^◌, ℕ, ℤ, List, [], ◌∷◌, length, codes, decimal, Option, Some, None, unsigned_abs}
use Rattle.float_bits.specs.Binary32.{IsBits32}
use Rattle.terrain_base.specs.declared.tile.TileId.{TileId}
use Rattle.terrain_base.specs.Name.{tile_text}
use Rattle.terrain_base.specs.declared.side.Side.TheVariants.{West, South, East, North}
use Rattle.mesh_codec.specs.Layout.{vertices_in, triangles_in}
use Rattle.mesh_codec.specs.Tile.{edge_list}
use Rattle.report_text.specs.Words.{joined, number_or_dash}

-- the whole number of metres, below 2^24, of a binary32 pattern, if it has one
abbrev pub IsHeightWord : ℕ → Option ℤ → Type 0
IsHeightWord bits None = (n : ℤ) → unsigned_abs n < 2 ^ 24 → ¬ (IsBits32 n bits)
IsHeightWord bits (Some n) = (unsigned_abs n < 2 ^ 24) × IsBits32 n bits

-- how many vertices lie on the west, south, east and north edge
abbrev pub edges_text : List ℕ → List ℕ
edges_text bytes = joined
    (decimal (length (edge_list bytes West)) ∷ codes " " ∷ decimal (length (edge_list bytes South)) ∷ codes " "
    ∷ decimal (length (edge_list bytes East)) ∷ codes " " ∷ decimal (length (edge_list bytes North)) ∷ [])

abbrev pub size_text : TileId → ℕ → List ℕ → List ℕ
size_text tile size bytes = joined
    (codes "tile " ∷ tile_text tile ∷ codes " bytes " ∷ decimal size ∷ codes " vertices " ∷ decimal (vertices_in bytes)
    ∷ codes " triangles " ∷ decimal (triangles_in bytes) ∷ [])

-- `tile Z/X/Y bytes N vertices V triangles W min A max B edges W S E N`
abbrev pub tile_line_of : TileId → ℕ → List ℕ → Option ℤ → Option ℤ → List ℕ
tile_line_of tile size bytes least greatest = joined
    (size_text tile size bytes ∷ codes " min " ∷ number_or_dash least ∷ codes " max " ∷ number_or_dash greatest
    ∷ codes " edges " ∷ edges_text bytes ∷ [])
