-- What is read is a cell of the key, or shows what is wrong with it.
use Rattle.std.proofs.Common.{◌≡◌, ◌≢◌, ℕ, Bool, false, ◌&&◌, not, nat_eq, List, Some, None, refl, sym, ap, ◌∙◌}
use Rattle.std.proofs.lemmas.Bool.{not-false, eqb-true}
use Rattle.terrain_base.specs.declared.cell_key.CellKey.{CellKey}
use Rattle.terrain_base.specs.declared.level.CellLevel.{CellLevel}
use Rattle.terrain_base.specs.declared.name.Key.{Key}
use Rattle.terrain_base.specs.declared.name.Key.TheVariants.{Cell as CellName}
use Rattle.terrain_base.specs.declared.square.Square.{Square}
use Rattle.terrain_base.specs.CellKey.{key_at}
use Rattle.terrain_base.proofs.KeyOrder.{same_key}
use Rattle.terrain_base.proofs.SquareTexts.{same_square}
use Rattle.dted_cell.specs.declared.trouble.CellTrouble.TheVariants.{Changed}
use Rattle.dted_cell.specs.Cell.{square_in, level_in}
use Rattle.dted_cell.specs.Refusal.{refusal_of}
use Rattle.dted_cell.specs.Trouble.{IsCellAt}
use Rattle.cell_cache.specs.CachedLaws.{both}
use Rattle.cell_cache.specs.Fetched.{IsTroubleAt}

-- squares that do not differ are the same
pub same_degrees : (a b : Square) (differ : Bool) → differ ≡ not (nat_eq a.lat b.lat && nat_eq a.lon b.lon) → differ ≡ false → a ≡ b
same_degrees a b differ is none =
    let tests = both (nat_eq a.lat b.lat) (nat_eq a.lon b.lon) (not-false (nat_eq a.lat b.lat && nat_eq a.lon b.lon) (sym is ∙ none)) in
    same_square a b (eqb-true a.lat b.lat tests.0) (eqb-true a.lon b.lon tests.1)

module _ (key : CellKey) (bytes : List ℕ) (square : Square) (level : CellLevel) (accepted : refusal_of bytes ≡ None) (square_is : square ≡ square_in bytes) (level_is : level ≡ level_in bytes) where
  pub of_key : key ≡ key_at square level → IsCellAt key bytes
  of_key same = record {
    accepted = accepted;
    square = sym square_is ∙ ap (λ (k : CellKey). k.square) (sym same);
    level = sym level_is ∙ ap (λ (k : CellKey). k.level) (sym same);
  }

  pub of_level : (name : Key) → name ≡ CellName key → square ≡ key.square → (key ≡ key_at square level → ⊥) → IsTroubleAt key (Some (Some bytes)) (Changed name key.level level)
  of_level name name_is same differs =
      let other : key.level ≢ level = λ e. differs (same_key key (key_at square level) (sym same) e) in
      record {
        name = name_is;
        opened = (refl, other);
        shown = (accepted, sym square_is ∙ same, sym level_is, refl, λ e. other (sym e));
      }
