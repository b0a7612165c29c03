-- Lines that tell what was done.
use Rattle.std.specs.Prelude.{ℕ, List, [], ◌∷◌, codes, decimal}
use Rattle.std.specs.Fmt.{signed_decimal}
use Rattle.terrain_base.specs.declared.params.Params.{Params}
use Rattle.terrain_base.specs.declared.square.Square.{Square}
use Rattle.terrain_base.specs.SquareText.{square_text}
use Rattle.report_text.specs.Words.{joined}
use Rattle.db_report.specs.declared.done.Edited.{Edited}
use Rattle.db_report.specs.declared.done.Edited.TheVariants.{Added, Replaced, Removed}

-- `created cap L fill F`, with the fill in metres
abbrev pub created_line_of : Params → List ℕ
created_line_of params = joined
    (codes "created cap " ∷ decimal params.cap ∷ codes " fill " ∷ signed_decimal params.fill ∷ [])

abbrev pub word_of : Edited → List ℕ
word_of Added = codes "added"
word_of Replaced = codes "replaced"
word_of Removed = codes "removed"

-- `added SQUARE tiles N`, `replaced ..`, `removed ..`, with the number of tiles afterwards
abbrev pub edited_line_of : Edited → Square → ℕ → List ℕ
edited_line_of edited square tiles =
    joined (word_of edited ∷ codes " " ∷ square_text square ∷ codes " tiles " ∷ decimal tiles ∷ [])

-- `rebuilt tiles N`
abbrev pub rebuilt_line_of : ℕ → List ℕ
rebuilt_line_of tiles = joined (codes "rebuilt tiles " ∷ decimal tiles ∷ [])

-- `migrated cells M tiles N`
abbrev pub migrated_line_of : ℕ → ℕ → List ℕ
migrated_line_of cells tiles = joined (codes "migrated cells " ∷ decimal cells ∷ codes " tiles " ∷ decimal tiles ∷ [])

-- `line K: `, before the report of a script's line
abbrev pub script_mark_of : ℕ → List ℕ
script_mark_of number = joined (codes "line " ∷ decimal number ∷ codes ": " ∷ [])

-- `script done D refused R`
abbrev pub script_line_of : ℕ → ℕ → List ℕ
script_line_of done refused = joined (codes "script done " ∷ decimal done ∷ codes " refused " ∷ decimal refused ∷ [])
