-- The rows of old manifests.
use Rattle.std.specs.Prelude.{ℕ, Bool, true, false, List, [], ◌∷◌, ◌++◌, Some, None, Option}
use Rattle.std.specs.declared.cmp.Ordering.{Ordering}
use Rattle.std.specs.Ordering.{nat_cmp, ordering_then}
use Rattle.terrain_base.specs.declared.level.CellLevel.{CellLevel}
use Rattle.terrain_base.specs.CellKey.{rank_of}
use Rattle.terrain_base.specs.Level.{level_number}
use Rattle.terrain_base.specs.SquareOrder.{square_cmp}
use Rattle.terrain_base.specs.SquareText.{digit_of, square_text}
use Rattle.manifest_lines.specs.declared.version.Version.{Version}
use Rattle.manifest_lines.specs.declared.version.Version.TheVariants.{One, Two, Three}
use Rattle.manifest_lines.specs.Grammar.{Grammar}
use Rattle.old_manifest.specs.declared.row.OldRow.{OldRow}

-- nothing, or a blank and the digit of the level
abbrev pub ending_of : Option CellLevel → List ℕ
ending_of None = []
ending_of (Some level) = 32 ∷ digit_of (level_number level) ∷ []

abbrev pub old_text : OldRow → List ℕ
old_text row = square_text row.square ++ ending_of row.level

-- the finest level comes first
abbrev pub old_rank_of : Option CellLevel → ℕ
old_rank_of None = 3
old_rank_of (Some level) = rank_of level

-- by square, then the finest level first
abbrev pub old_cmp : OldRow → OldRow → Ordering
old_cmp a b = ordering_then (square_cmp a.square b.square) (nat_cmp (old_rank_of a.level) (old_rank_of b.level))

-- rows of version 1 have no level, and all others have one
abbrev pub old_suits : Version → Option CellLevel → Bool
old_suits One None = true
old_suits One (Some level) = false
old_suits Two None = false
old_suits Two (Some level) = true
old_suits Three None = false
old_suits Three (Some level) = true

abbrev pub old_grammar : Grammar OldRow
old_grammar = record { text = old_text; cmp = old_cmp; suits = λ v row. old_suits v row.level }
