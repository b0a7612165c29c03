-- Reports of several lines.
use Rattle.std.specs.Prelude.{ℕ, List, [], ◌∷◌, ◌++◌, length, codes, decimal, option_map}
use Rattle.std.specs.List.{flat_map}
use Rattle.std.specs.Fmt.{signed_decimal}
use Rattle.terrain_base.specs.declared.params.Params.{Params}
use Rattle.terrain_base.specs.declared.square.Square.{Square}
use Rattle.terrain_base.specs.declared.summary.Summary.{Summary}
use Rattle.terrain_base.specs.declared.tile.TileId.{TileId}
use Rattle.terrain_base.specs.Level.{level_number}
use Rattle.terrain_base.specs.Name.{tile_text}
use Rattle.terrain_base.specs.SquareText.{square_text}
use Rattle.report_text.specs.Words.{joined, number_or_dash}

-- `cap L fill F cells N`
abbrev pub list_head : Params → ℕ → List ℕ
list_head params cells = joined
    (codes "cap " ∷ decimal params.cap ∷ codes " fill " ∷ signed_decimal params.fill ∷ codes " cells "
    ∷ decimal cells ∷ [])

-- `SQUARE level V min A max B`
abbrev pub row_line_of : Summary → List ℕ
row_line_of row = joined
    (square_text row.square ∷ codes " level " ∷ decimal (level_number row.level)
    ∷ codes " min " ∷ number_or_dash (option_map (λ of. of.least) row.extremes)
    ∷ codes " max " ∷ number_or_dash (option_map (λ of. of.greatest) row.extremes) ∷ [])

-- a database's params, and its cells in their order, each line with its line feed
abbrev pub list_text_of : Params → List Summary → List ℕ
list_text_of params rows = joined
    (list_head params (length rows) ∷ codes "\n" ∷ flat_map (λ row. row_line_of row ++ codes "\n") rows ∷ [])

-- `tile Z/X/Y cells N`, where N counts squares
abbrev pub deps_head : TileId → ℕ → List ℕ
deps_head tile cells = joined (codes "tile " ∷ tile_text tile ∷ codes " cells " ∷ decimal cells ∷ [])

-- the squares that a tile touches, each line with its line feed
abbrev pub deps_text_of : TileId → List Square → List ℕ
deps_text_of tile squares = joined
    (deps_head tile (length squares) ∷ codes "\n" ∷ flat_map (λ square. square_text square ++ codes "\n") squares ∷ [])
