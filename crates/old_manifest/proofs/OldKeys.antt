-- Old rows by their numbers, and rows of version 2 as keys.
use Rattle.std.specs.Prelude.{◌≡◌, ◌++◌, Option, Some, None, IsTrue, refl}
use Rattle.std.proofs.Common.{arith, ap}
use Rattle.terrain_base.specs.declared.level.CellLevel.{CellLevel}
use Rattle.terrain_base.specs.declared.level.CellLevel.TheVariants.{Zero, One, Two}
use Rattle.terrain_base.specs.SquareText.{square_text}
use Rattle.terrain_base.proofs.SquareTexts.{same_square}
use Rattle.terrain_base.specs.declared.cell_key.CellKey.{CellKey}
use Rattle.terrain_base.specs.Name.{row_text}
use Rattle.terrain_base.specs.declared.square.Square.{Square}
use Rattle.manifest_lines.specs.declared.version.Version.TheVariants.{Two as Second}
use Rattle.terrain_base.specs.CellKey.{rank_of}
use Rattle.old_manifest.specs.declared.row.OldRow.{OldRow}
use Rattle.old_manifest.specs.Rows.{ending_of, old_suits, old_rank_of, old_text}
use Rattle.old_manifest.specs.OldRows.{same_row}

rank_apart : (a b : CellLevel) → rank_of a ≡ rank_of b → a ≡ b
rank_apart Zero Zero e = refl
rank_apart Zero One e = absurd (omega arith)
rank_apart Zero Two e = absurd (omega arith)
rank_apart One Zero e = absurd (omega arith)
rank_apart One One e = refl
rank_apart One Two e = absurd (omega arith)
rank_apart Two Zero e = absurd (omega arith)
rank_apart Two One e = absurd (omega arith)
rank_apart Two Two e = refl

old_rank_apart : (a b : Option CellLevel) → old_rank_of a ≡ old_rank_of b → a ≡ b
old_rank_apart None None e = refl
old_rank_apart None (Some Zero) e = absurd (omega arith)
old_rank_apart None (Some One) e = absurd (omega arith)
old_rank_apart None (Some Two) e = absurd (omega arith)
old_rank_apart (Some Zero) None e = absurd (omega arith)
old_rank_apart (Some One) None e = absurd (omega arith)
old_rank_apart (Some Two) None e = absurd (omega arith)
old_rank_apart (Some a) (Some b) e = ap (λ l. Some l) (rank_apart a b e)

pub same_old : (a b : OldRow) → a.square.lat ≡ b.square.lat → a.square.lon ≡ b.square.lon
    → old_rank_of a.level ≡ old_rank_of b.level → a ≡ b
same_old a b p q r = same_row a b (same_square a.square b.square p q) (old_rank_apart a.level b.level r)

of_level : (s : Square) (l : Option CellLevel) → IsTrue (old_suits Second l)
    → (key : CellKey) × (square_text s ++ ending_of l ≡ row_text key)
of_level s None h = absurd (cc)
of_level s (Some l) h = (record { square = s; level = l }, refl)

pub key_of : (row : OldRow) → IsTrue (old_suits Second row.level) → (key : CellKey) × (old_text row ≡ row_text key)
key_of row h = of_level row.square row.level h
