-- The line of a cell.
use Rattle.std.specs.Prelude.{ℕ, List, [], ◌∷◌, codes, decimal, option_map}
use Rattle.terrain_base.specs.Level.{level_number}
use Rattle.terrain_base.specs.SquareText.{square_text}
use Rattle.dted_cell.specs.Cell.{square_in, level_in, columns_in, rows_in, extremes_in, voids_in}
use Rattle.report_text.specs.Words.{number_or_dash, joined}

-- `SQUARE level V columns C rows R`
abbrev pub shape_text : List ℕ → List ℕ
shape_text bytes = joined
    (square_text (square_in bytes) ∷ codes " level " ∷ decimal (level_number (level_in bytes))
    ∷ codes " columns " ∷ decimal (columns_in bytes) ∷ codes " rows " ∷ decimal (rows_in bytes) ∷ [])

-- `SQUARE level V columns C rows R min A max B voids N`, for the bytes of a cell
unfoldable pub cell_line_of : List ℕ → List ℕ
cell_line_of bytes = joined
    (shape_text bytes
    ∷ codes " min " ∷ number_or_dash (option_map (λ of. of.least) (extremes_in bytes))
    ∷ codes " max " ∷ number_or_dash (option_map (λ of. of.greatest) (extremes_in bytes))
    ∷ codes " voids " ∷ decimal (voids_in bytes) ∷ [])
