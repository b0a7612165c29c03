-- The refusals of a header's origin, spacing and counts, by its fields.
use Rattle.std.proofs.Common.{◌≡◌, ◌≢◌, ℕ, ◌*◌, ◌==◌, Bool, true, false, not, cond, ◌&&◌, ◌||◌, List, ◌++◌, Some, None, refl, sym, ap, ◌∙◌, arith}
use Rattle.std.proofs.lemmas.Bool.Decides.{nat_tests}
use Rattle.std.specs.Option.{option_or}
use Rattle.common_laws.specs.First.{first_of}
use Rattle.common_laws.proofs.First.{first_of_append}
use Rattle.terrain_base.specs.declared.square.Square.{Square}
use Rattle.terrain_base.specs.declared.level.CellLevel.{CellLevel}
use Rattle.terrain_base.specs.Level.{lon_step_of, rows_of, columns_of}
use Rattle.dted_cell.specs.declared.refusal.CellRefusal.TheVariants.{OffDegree, WrongSpacing, WrongCounts}
use Rattle.dted_cell.specs.declared.fields.Fields.{Fields}
use Rattle.dted_cell.specs.Field.{number_at}
use Rattle.dted_cell.specs.Fields.{SaysFields}
use Rattle.dted_cell.specs.Header.{square_of, square_at, level_of_interval, level_at}
use Rattle.dted_cell.specs.Refusal.{field_conditions, shape_conditions, is_off_degree, has_wrong_spacing, has_wrong_counts}

-- ---- tests
none_if : (b : Bool) (s : Square) → None ≡ cond b None (Some s) → b ≡ true
none_if true s e = refl
none_if false s e = cc

some_if : (b : Bool) (t s : Square) → Some t ≡ cond b None (Some s) → (b ≡ false) × (t ≡ s)
some_if true t s e = cc
some_if false t s e = (refl, cc)

pub differs : (a b : ℕ) → a ≢ b → not (a == b) ≡ true
differs a b h = grind (arith, nat_tests)

pub agrees : (a b : ℕ) → a ≡ b → not (a == b) ≡ false
agrees a b h = grind (arith, nat_tests)

pub or_first : (a b : Bool) → a ≡ true → (a || b) ≡ true
or_first a b e = rw e refl

pub or_second : (a b : Bool) → b ≡ true → (a || b) ≡ true
or_second true b e = refl
or_second false b e = e

-- ---- the conditions, by the numbers read
module _ (text : List ℕ) (fields : Fields) (says : SaysFields text fields) where
  off_is : (not (fields.lon.is_whole && fields.lat.is_whole) || (fields.lat.degrees == 180)) ≡ is_off_degree text
  off_is = rw (says.lon.whole, says.lat.whole, says.lat.degrees_are) refl

  square_is : square_of fields.lon.degrees fields.lat.degrees ≡ square_at text
  unfolding square_at
  square_is = rw (says.lon.degrees_are, says.lat.degrees_are) refl

  pub off_by : None ≡ cond (not (fields.lon.is_whole && fields.lat.is_whole) || (fields.lat.degrees == 180)) None (Some (square_of fields.lon.degrees fields.lat.degrees)) → is_off_degree text ≡ true
  off_by e = sym off_is ∙ none_if _ _ e

  pub square_by : (square : Square) → Some square ≡ cond (not (fields.lon.is_whole && fields.lat.is_whole) || (fields.lat.degrees == 180)) None (Some (square_of fields.lon.degrees fields.lat.degrees))
      → (is_off_degree text ≡ false) × (square ≡ square_at text)
  square_by square e = let found = some_if _ _ _ e in (sym off_is ∙ found.0, found.1 ∙ square_is)

  interval_is : level_of_interval fields.lattice.lat_interval ≡ level_of_interval (number_at text 24 28)
  interval_is = ap level_of_interval says.lattice_says.lat_interval_is

  pub no_level : None ≡ level_of_interval fields.lattice.lat_interval → has_wrong_spacing text ≡ true
  no_level e = let none : level_of_interval (number_at text 24 28) ≡ None = sym (e ∙ interval_is) in rw none refl

  pub level_is : (level : CellLevel) → Some level ≡ level_of_interval fields.lattice.lat_interval → level ≡ level_at text
  unfolding level_at
  level_is level e = let some : level_of_interval (number_at text 24 28) ≡ Some level = sym (e ∙ interval_is) in rw some refl

  module _ (square : Square) (level : CellLevel) (square_found : square ≡ square_at text) (level_found : Some level ≡ level_of_interval fields.lattice.lat_interval) where
    pub spacing_is : not (fields.lattice.lon_interval == 10 * lon_step_of square level) ≡ has_wrong_spacing text
    spacing_is =
        let some : level_of_interval (number_at text 24 28) ≡ Some level = sym (level_found ∙ interval_is) in
        rw (some, says.lattice_says.lon_interval_is, square_found, level_is level level_found) refl

    pub counts_are : (not (fields.lattice.columns == columns_of square level) || not (fields.lattice.rows == rows_of level)) ≡ has_wrong_counts text
    counts_are = rw (says.lattice_says.columns_are, says.lattice_says.rows_are, square_found, level_is level level_found) refl

-- ---- which stands first
pub shape_first : (text : List ℕ) → first_of (field_conditions text ++ shape_conditions text) ≡ option_or (first_of (field_conditions text)) (first_of (shape_conditions text))
shape_first text = first_of_append (field_conditions text) (shape_conditions text)

after_fields : (text : List ℕ) → None ≡ first_of (field_conditions text) → first_of (field_conditions text ++ shape_conditions text) ≡ first_of (shape_conditions text)
after_fields text e = first_of_append (field_conditions text) (shape_conditions text) ∙ rw (sym e) refl

module _ (text : List ℕ) (fields : None ≡ first_of (field_conditions text)) where
  pub off_stands : is_off_degree text ≡ true → first_of (field_conditions text ++ shape_conditions text) ≡ Some OffDegree
  unfolding shape_conditions
  off_stands off = after_fields text fields ∙ rw off refl

  pub spacing_stands : is_off_degree text ≡ false → has_wrong_spacing text ≡ true → first_of (field_conditions text ++ shape_conditions text) ≡ Some WrongSpacing
  unfolding shape_conditions
  spacing_stands off spacing = after_fields text fields ∙ rw (off, spacing) refl

  pub counts_stand : is_off_degree text ≡ false → has_wrong_spacing text ≡ false → has_wrong_counts text ≡ true → first_of (field_conditions text ++ shape_conditions text) ≡ Some WrongCounts
  unfolding shape_conditions
  counts_stand off spacing counts = after_fields text fields ∙ rw (off, spacing, counts) refl

  pub none_stands : is_off_degree text ≡ false → has_wrong_spacing text ≡ false → has_wrong_counts text ≡ false → first_of (field_conditions text ++ shape_conditions text) ≡ None
  unfolding shape_conditions
  none_stands off spacing counts = after_fields text fields ∙ rw (off, spacing, counts) refl
