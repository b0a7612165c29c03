-- Words that stand in several lines.
use Rattle.std.specs.Prelude.{ℕ, ℤ, List, [], ◌∷◌, ◌++◌, codes, Option, Some, None}
use Rattle.std.specs.Fmt.{signed_decimal}

-- a number that is not there is printed as a dash
abbrev pub number_or_dash : Option ℤ → List ℕ
number_or_dash None = codes "-"
number_or_dash (Some number) = signed_decimal number

-- the pieces, one after the other
abbrev pub joined : List (List ℕ) → List ℕ
joined [] = []
joined (piece ∷ []) = piece
joined (piece ∷ next ∷ pieces) = piece ++ joined (next ∷ pieces)
