-- A header without a refusal is good, and the other way round.
use Rattle.std.proofs.Common.{◌≡◌, ◌≢◌, ℕ, ◌*◌, ◌<◌, ◌≤◌, true, false, not, ◌==◌, ◌&&◌, List, is_some, unwrap_or, Option, Some, None, refl, sym, ap, ◌∙◌, arith}
use Rattle.std.proofs.Math.Nat.{mod-eq_of_lt}
use Rattle.std.proofs.lemmas.Bool.{not-false, and_parts, or_parts, eqb-false, ne_eqb}
use Rattle.std.proofs.lemmas.Bool.Decides.{nat_tests}
use Rattle.common_laws.specs.First.{first_of}
use Rattle.common_laws.proofs.First.{first_of_append, neither, not_when}
use Rattle.terrain_base.specs.declared.square.Square.{Square}
use Rattle.terrain_base.specs.declared.level.CellLevel.{CellLevel}
use Rattle.terrain_base.specs.declared.level.CellLevel.TheVariants.{Zero, One, Two}
use Rattle.terrain_base.specs.Level.{lat_step_of, lon_step_of, rows_of, columns_of}
use Rattle.dted_cell.specs.Field.{number_at, HasNumber}
use Rattle.dted_cell.specs.Header.{east, west, north, south, degrees_north, is_whole, square_of, square_at, level_of_interval, level_at, IsHeader, IsLatitude}
use Rattle.dted_cell.specs.Refusal.{lattice_conditions, field_conditions, shape_conditions, label_conditions, text_conditions, is_off_degree, has_wrong_spacing, has_wrong_counts}
use Rattle.dted_cell.proofs.First.{fields_first}
use Rattle.dted_cell.proofs.Headers.{text_first}
use Rattle.dted_cell.proofs.Origins.{value_of, found_angle, north_most, longitude_by, latitude_by, by_longitude, by_latitude}
use Rattle.dted_cell.proofs.RecordLaws.{same_by, by_same}
use Rattle.dted_cell.proofs.Squares.{square_path}
use Rattle.dted_cell.proofs.Numbers.{number_is}

-- ---- the level of an interval
interval_level : (l : CellLevel) → level_of_interval (10 * lat_step_of l) ≡ Some l
interval_level Zero = refl
interval_level One = refl
interval_level Two = refl

level_interval : (n : ℕ) (l : CellLevel) → level_of_interval n ≡ Some l → n ≡ 10 * lat_step_of l
level_interval n Zero e = grind (arith, nat_tests)
level_interval n One e = grind (arith, nat_tests)
level_interval n Two e = grind (arith, nat_tests)

level_found : (o : Option CellLevel) → is_some o ≡ true → o ≡ Some (unwrap_or o Two)
level_found None e = cc
level_found (Some l) e = refl

-- ---- without a refusal
record FoundLattice (text : List ℕ) : Type 0 where
  lon_interval : HasNumber text 20 24 (number_at text 20 24)
  lat_interval : HasNumber text 24 28 (number_at text 24 28)
  columns : HasNumber text 47 51 (number_at text 47 51)
  rows : HasNumber text 51 55 (number_at text 51 55)

found_lattice : (text : List ℕ) → first_of (lattice_conditions text) ≡ None → FoundLattice text
unfolding lattice_conditions
found_lattice text e =
    let lon = neither _ _ e in
    let lat = neither _ _ lon.1 in
    let columns = neither _ _ lat.1 in
    let rows = neither _ _ columns.1 in
    record {
      lon_interval = number_is _ (not_when _ _ lon.0);
      lat_interval = number_is _ (not_when _ _ lat.0);
      columns = number_is _ (not_when _ _ columns.0);
      rows = number_is _ (not_when _ _ rows.0);
    }

record FoundShape (text : List ℕ) : Type 0 where
  lon_whole : is_whole text 4 ≡ true
  lat_whole : is_whole text 12 ≡ true
  no_pole : degrees_north text ≢ 180
  level : is_some (level_of_interval (number_at text 24 28)) ≡ true
  lon_interval : number_at text 20 24 ≡ 10 * lon_step_of (square_at text) (level_at text)
  columns : number_at text 47 51 ≡ columns_of (square_at text) (level_at text)
  rows : number_at text 51 55 ≡ rows_of (level_at text)

found_shape : (text : List ℕ) → first_of (shape_conditions text) ≡ None → FoundShape text
unfolding shape_conditions
found_shape text e =
    let off = neither _ _ e in
    let spacing = neither _ _ off.1 in
    let counts = neither _ _ spacing.1 in
    let degree = or_parts (not (is_whole text 4 && is_whole text 12)) (degrees_north text == 180) (not_when _ _ off.0) in
    let whole = and_parts (is_whole text 4) (is_whole text 12) (not-false _ degree.0) in
    let spaced = or_parts (not (is_some (level_of_interval (number_at text 24 28)))) _ (not_when _ _ spacing.0) in
    let counted = or_parts (not (number_at text 47 51 == columns_of (square_at text) (level_at text))) (not (number_at text 51 55 == rows_of (level_at text))) (not_when _ _ counts.0) in
    record {
      lon_whole = whole.0;
      lat_whole = whole.1;
      no_pole = eqb-false _ 180 degree.1;
      level = not-false _ spaced.0;
      lon_interval = same_by _ _ spaced.1;
      columns = same_by _ _ counted.0;
      rows = same_by _ _ counted.1;
    }

level_here : (text : List ℕ) → is_some (level_of_interval (number_at text 24 28)) ≡ true → number_at text 24 28 ≡ 10 * lat_step_of (level_at text)
unfolding level_at
level_here text e = level_interval (number_at text 24 28) _ (level_found _ e)

lat_here : (text : List ℕ) → degrees_north text < 180 → IsLatitude text (degrees_north text) → IsLatitude text (square_at text).lat
unfolding square_at square_of
lat_here text below is = rw (mod-eq_of_lt below) is

below_pole : (n : ℕ) → n ≤ 180 → n ≢ 180 → n < 180
below_pole n most other = omega arith

pub header_by : (text : List ℕ) → first_of (text_conditions text) ≡ None → IsHeader text (square_at text) (level_at text)
unfolding label_conditions square_at square_of
header_by text e =
    let uhl = neither _ _ (sym (text_first text) ∙ e) in
    let parts = neither _ _ uhl.1 in
    let upper = neither _ _ (sym (first_of_append (field_conditions text) (shape_conditions text)) ∙ parts.0) in
    let fields = neither _ _ (sym (fields_first text) ∙ upper.0) in
    let angles = neither _ _ fields.0 in
    let lon = found_angle text 4 180 east west angles.0 in
    let lat = found_angle text 12 90 north south angles.1 in
    let lattice = found_lattice text fields.1 in
    let shape = found_shape text upper.1 in
    let below = below_pole (degrees_north text) (north_most text lat) shape.no_pole in
    let dsi = neither _ _ parts.1 in
    let series = neither _ _ dsi.1 in
    let datum = neither _ _ series.1 in
    let acc = neither _ _ datum.1 in
    record {
      user_label = not-false _ (not_when _ _ uhl.0);
      longitude = longitude_by text lon shape.lon_whole;
      latitude = lat_here text below (latitude_by text lat shape.lat_whole);
      lon_interval = lattice.lon_interval ∙ ap Some shape.lon_interval;
      lat_interval = lattice.lat_interval ∙ ap Some (level_here text shape.level);
      columns = lattice.columns ∙ ap Some shape.columns;
      rows = lattice.rows ∙ ap Some shape.rows;
      data_set_label = not-false _ (not_when _ _ dsi.0);
      series = not-false _ (not_when _ _ series.0);
      datum = not-false _ (not_when _ _ datum.0);
      accuracy_label = not-false _ (not_when _ _ acc.0);
    }

-- ---- by positions
module _ (text : List ℕ) (square : Square) (level : CellLevel) (good : IsHeader text square level) where
  pub square_here : square ≡ square_at text
  unfolding square_at square_of
  square_here =
      let lat = by_latitude text square.lat good.latitude in
      let lat_in : degrees_north text < 180 = rw lat.0 at square.lat_in_range in
      square_path square (square_at text) (lat.0 ∙ sym (mod-eq_of_lt lat_in)) (by_longitude text square.lon good.longitude).0

  interval_here : level_of_interval (number_at text 24 28) ≡ Some level
  interval_here = ap level_of_interval (value_of _ _ good.lat_interval) ∙ interval_level level

  pub by_level : level ≡ level_at text
  unfolding level_at
  by_level = let is = interval_here in rw is refl

  fields_pass : first_of (field_conditions text) ≡ None
  unfolding lattice_conditions
  fields_pass =
      fields_first text ∙ rw ((by_longitude text square.lon good.longitude).1, (by_latitude text square.lat good.latitude).1, good.lon_interval, good.lat_interval, good.columns, good.rows) refl

  off_passes : is_off_degree text ≡ false
  off_passes =
      let lat = by_latitude text square.lat good.latitude in
      let lat_in : degrees_north text < 180 = rw lat.0 at square.lat_in_range in
      let no_pole : degrees_north text ≢ 180 = omega arith in
      rw ((by_longitude text square.lon good.longitude).2, lat.2) (ne_eqb _ 180 no_pole)

  spacing_passes : has_wrong_spacing text ≡ false
  spacing_passes =
      let interval : number_at text 20 24 ≡ 10 * lon_step_of (square_at text) (level_at text) =
      value_of _ _ good.lon_interval ∙ ap (λ s. 10 * lon_step_of s level) square_here ∙ ap (λ l. 10 * lon_step_of (square_at text) l) by_level in
      let is = interval_here in
      rw is (by_same _ _ interval)

  counts_pass : has_wrong_counts text ≡ false
  counts_pass =
      let columns : number_at text 47 51 ≡ columns_of (square_at text) (level_at text) = value_of _ _ good.columns ∙ ap (λ s. columns_of s level) square_here ∙ ap (columns_of (square_at text)) by_level in
      let rows : number_at text 51 55 ≡ rows_of (level_at text) = value_of _ _ good.rows ∙ ap rows_of by_level in
      rw (by_same _ _ columns) (by_same _ _ rows)

  shape_passes : first_of (shape_conditions text) ≡ None
  unfolding shape_conditions
  shape_passes = rw (off_passes, spacing_passes, counts_pass) refl

  labels_pass : first_of (label_conditions text) ≡ None
  unfolding label_conditions
  labels_pass = rw (good.data_set_label, sym by_level, good.series, good.datum, good.accuracy_label) refl

  pub by_header : first_of (text_conditions text) ≡ None
  by_header =
      text_first text ∙ rw (good.user_label, first_of_append (field_conditions text) (shape_conditions text), fields_pass, shape_passes, labels_pass) refl
