-- The lines of a tile.
use Rattle.std.specs.Prelude.{ℕ, List, [], ◌∷◌, codes, decimal}
use Rattle.mesh_codec.specs.Layout.{vertices_in, triangles_in}
use Rattle.mesh_codec.specs.Tile.{extensions_in}
use Rattle.report_text.specs.Words.{joined}

-- `vertices V triangles W extensions E`, for the bytes of a tile
unfoldable pub audit_line_of : List ℕ → List ℕ
audit_line_of bytes = joined
    (codes "vertices " ∷ decimal (vertices_in bytes) ∷ codes " triangles " ∷ decimal (triangles_in bytes)
    ∷ codes " extensions " ∷ decimal (extensions_in bytes) ∷ [])
