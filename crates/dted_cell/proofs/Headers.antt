-- The header's refusal, by its parts.
use Rattle.std.proofs.Common.{◌≡◌, ℕ, List, ◌++◌, codes, not, Option, ap, ◌∙◌}
use Rattle.std.specs.Option.{option_or}
use Rattle.common_laws.specs.First.{◌when◌, first_of}
use Rattle.common_laws.proofs.First.{first_of_append}
use Rattle.terrain_base.specs.declared.square.Square.{Square}
use Rattle.terrain_base.specs.declared.level.CellLevel.{CellLevel}
use Rattle.terrain_base.specs.Level.{columns_of, rows_of}
use Rattle.dted_cell.specs.declared.header.Header.{Header}
use Rattle.dted_cell.specs.declared.refusal.CellRefusal.{CellRefusal}
use Rattle.dted_cell.specs.declared.refusal.CellRefusal.TheVariants.{NoUhl}
use Rattle.dted_cell.specs.Field.{spells}
use Rattle.dted_cell.specs.Lead.{lead_of, text_behind_lead}
use Rattle.dted_cell.specs.Header.{square_at, level_at}
use Rattle.dted_cell.specs.Cell.{square_in, level_in, columns_in, rows_in}
use Rattle.dted_cell.specs.Fields.{SaysHeader}
use Rattle.dted_cell.specs.Refusal.{field_conditions, shape_conditions, label_conditions, text_conditions}

pub text_first : (text : List ℕ) → first_of (text_conditions text)
    ≡ option_or (NoUhl when not (spells text 0 (codes "UHL1"))) (option_or (first_of (field_conditions text ++ shape_conditions text)) (first_of (label_conditions text)))
unfolding text_conditions
text_first text =
    ap (λ (o : Option CellRefusal). option_or (NoUhl when not (spells text 0 (codes "UHL1"))) o) (first_of_append (field_conditions text ++ shape_conditions text) (label_conditions text))

-- a header by the square and the level of its text
pub says_by : (bytes text : List ℕ) (header : Header) (square : Square) (level : CellLevel) → text ≡ text_behind_lead bytes → square ≡ square_at text → level ≡ level_at text
    → header.lead ≡ lead_of bytes → header.square ≡ square → header.level ≡ level → header.columns ≡ columns_of square level → header.rows ≡ rows_of level → SaysHeader bytes header
unfolding square_in level_in columns_in rows_in
says_by bytes text header square level t s l lead square_is level_is columns rows =
    let square_here : square ≡ square_at (text_behind_lead bytes) = s ∙ ap square_at t in
    let level_here : level ≡ level_at (text_behind_lead bytes) = l ∙ ap level_at t in
    record {
      lead_is = lead;
      square_is = square_is ∙ square_here;
      level_is = level_is ∙ level_here;
      columns_are = columns ∙ ap (λ q. columns_of q level) square_here ∙ ap (columns_of (square_at (text_behind_lead bytes))) level_here;
      rows_are = rows ∙ ap rows_of level_here;
    }
