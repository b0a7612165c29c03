-- Old rows have no line feed, their texts tell them apart, and their order is one. (It stands here since the proof of
-- an impl's law may cite only what stands in specs/.)
use Rattle.std.specs.Prelude.{◌≡◌, ◌≢◌, length, Option, Some, None, refl}
use Rattle.std.proofs.Common.{arith, ap, get_or}
use Rattle.std.specs.List.{AllByRecursion}
use Rattle.std.specs.Cmp.{IsTotalOrder}
use Rattle.std.proofs.lemmas.Cmp.{nat_cmp_total, on_total, then_total}
use Rattle.terrain_base.specs.declared.level.CellLevel.{CellLevel}
use Rattle.terrain_base.specs.SquareText.{square_text}
use Rattle.terrain_base.proofs.SquareOrder.{squares_total}
use Rattle.terrain_base.proofs.KeyTexts.{level_apart, line-square, line-level, all-append, square_cut_rest}
use Rattle.manifest_lines.specs.Grammar.{IsGrammar}
use Rattle.old_manifest.specs.declared.row.OldRow.{OldRow}
use Rattle.old_manifest.specs.Rows.{ending_of, old_rank_of, old_text, old_cmp, old_grammar}

pub same_row : (a b : OldRow) → a.square ≡ b.square → a.level ≡ b.level → a ≡ b
same_row a b p q = λ i. record { square = p i; level = q i }

pub old_total : IsTotalOrder old_cmp
old_total =
    then_total (on_total (λ (r : OldRow). r.square) squares_total)
    (on_total (λ (r : OldRow). old_rank_of r.level) nat_cmp_total)

line-ending : (level : Option CellLevel) → AllByRecursion (λ byte. byte ≢ 10) (ending_of level)
line-ending None = tt
line-ending (Some level) = line-level level

ending_apart : (a b : Option CellLevel) → ending_of a ≡ ending_of b → a ≡ b
ending_apart None None e = refl
ending_apart None (Some b) e = absurd (omega (arith, ap length e))
ending_apart (Some a) None e = absurd (omega (arith, ap length e))
ending_apart (Some a) (Some b) e = ap (λ l. Some l) (level_apart a b (ap (λ xs. get_or xs 1 0) e))

old_apart : (a b : OldRow) → old_text a ≡ old_text b → a ≡ b
old_apart a b e =
    let parts = square_cut_rest a.square b.square (ending_of a.level) (ending_of b.level) e in
    same_row a b parts.0 (ending_apart a.level b.level parts.1)

pub old_sound : IsGrammar old_grammar
old_sound = record {
  line = λ r. all-append _ (square_text r.square) (ending_of r.level) (line-square r.square) (line-ending r.level);
  apart = old_apart;
  trans = old_total.trans;
}
