-- What the fields of a written header say.
use Rattle.std.proofs.Common.{◌≡◌, ℕ, ◌+◌, ◌-◌, ◌*◌, ◌/◌, ◌%◌, ◌<◌, ◌≤◌, Bool, true, false, ◌&&◌, List, ◌∷◌, ◌++◌, length, codes, Some, refl, arith, inl, inr, nat_le}
use Rattle.std.proofs.lemmas.Bool.{cases_lt}
use Rattle.std.proofs.lemmas.Bool.Decides.{nat_tests}
use Rattle.std.proofs.lemmas.List.Sums.{AllPass-from_list_all}
use Rattle.std.specs.List.{list_all}
use Rattle.std.specs.Char.{is_ascii_digit}
use Rattle.terrain_base.specs.declared.square.Square.{Square}
use Rattle.terrain_base.specs.declared.level.CellLevel.{CellLevel}
use Rattle.terrain_base.specs.declared.level.CellLevel.TheVariants.{Zero, One, Two}
use Rattle.terrain_base.specs.Level.{degrees_from_equator, factor_at, lat_step_of, lon_step_of, rows_of, columns_of}
use Rattle.dted_cell.specs.Field.{number_of, spells, Spells}
use Rattle.dted_cell.specs.Lead.{is_label, lead_of, text_behind_lead}
use Rattle.dted_cell.specs.Header.{series_of, IsAngle, IsLongitude, IsLatitude, IsHeader}
use Rattle.dted_cell.proofs.Numbers.{number_whole}
use Rattle.dted_write.specs.Header.{three_digits, four_digits, degrees_of_lon, letter_of_lon, degrees_of_lat, letter_of_lat, user_label, data_set, accuracy, header_text}

digit_at : (x : ℕ) → x < 10 → is_ascii_digit (48 + x) ≡ true
digit_at x h = grind (arith, nat_tests)

pub three_say : (n : ℕ) → n < 1000 → number_of (three_digits n) ≡ Some n
three_say n h =
    let all : list_all is_ascii_digit (three_digits n) ≡ true = rw (digit_at (n / 100) (omega arith), digit_at (n / 10 % 10) (omega arith), digit_at (n % 10) (omega arith)) refl in
    number_whole (three_digits n) n (0, three_digits n, refl, omega arith, AllPass-from_list_all is_ascii_digit (three_digits n) all, omega arith)

pub four_say : (n : ℕ) → n < 10000 → number_of (four_digits n) ≡ Some n
four_say n h =
    let all : list_all is_ascii_digit (four_digits n) ≡ true = rw (digit_at (n / 1000) (omega arith), digit_at (n / 100 % 10) (omega arith), digit_at (n / 10 % 10) (omega arith), digit_at (n % 10) (omega arith)) refl in
    number_whole (four_digits n) n (0, four_digits n, refl, omega arith, AllPass-from_list_all is_ascii_digit (four_digits n) all, omega arith)

-- ---- no label stands before the text
never : (b : Bool) → (b && false) ≡ false
never true = refl
never false = refl

no_label : (rest : List ℕ) → is_label (85 ∷ rest) 0 ≡ false
unfolding spells
no_label rest = never _

pub no_lead : (rest : List ℕ) → text_behind_lead (85 ∷ rest) ≡ 85 ∷ rest
unfolding text_behind_lead lead_of
no_lead rest = rw (no_label rest) refl

-- ---- how large the numbers are
pub factor_range : (degrees : ℕ) → (1 ≤ factor_at degrees) × (factor_at degrees ≤ 6)
factor_range degrees = grind (arith, nat_tests)

pub columns_below : (step : ℕ) → 1 ≤ step → 3600 / step + 1 < 10000
columns_below step h = omega (arith, h)

-- ---- its length
pub header_length : (square : Square) (level : CellLevel) → length (header_text square level) ≡ 3428
unfolding header_text user_label data_set accuracy
header_length square Zero = refl
header_length square One = refl
header_length square Two = refl

-- ---- the steps, and the labels behind the first
pub step_range : (square : Square) (level : CellLevel) → (1 ≤ lon_step_of square level) × (lon_step_of square level ≤ 180)
step_range square Zero = let f = factor_range (degrees_from_equator square.lat) in (omega (arith, f), omega (arith, f))
step_range square One = let f = factor_range (degrees_from_equator square.lat) in (omega (arith, f), omega (arith, f))
step_range square Two = let f = factor_range (degrees_from_equator square.lat) in (omega (arith, f), omega (arith, f))

lat_below : (level : CellLevel) → 10 * lat_step_of level < 10000
lat_below Zero = omega arith
lat_below One = omega arith
lat_below Two = omega arith

rows_below : (level : CellLevel) → rows_of level < 10000
rows_below Zero = omega arith
rows_below One = omega arith
rows_below Two = omega arith

labels_there : (square : Square) (level : CellLevel) (rest : List ℕ) → Spells (header_text square level ++ rest) 80 (codes "DSI") × Spells (header_text square level ++ rest) 139 (series_of level) × Spells (header_text square level ++ rest) 224 (codes "WGS84") × Spells (header_text square level ++ rest) 728 (codes "ACC")
unfolding header_text user_label data_set accuracy spells
labels_there square Zero rest = (refl, refl, refl, refl)
labels_there square One rest = (refl, refl, refl, refl)
labels_there square Two rest = (refl, refl, refl, refl)

-- ---- the fields
module _ (square : Square) (level : CellLevel) (rest : List ℕ) where
  lon_angle : IsAngle (header_text square level ++ rest) 4 180 (degrees_of_lon square.lon) (letter_of_lon square.lon)
  unfolding header_text user_label number_of
  lon_angle =
      let most : degrees_of_lon square.lon ≤ 180 = lon_most square.lon square.lon_in_range in
      record { degrees_field = three_say (degrees_of_lon square.lon) (omega arith); in_range = most; minutes = refl; seconds = refl; hemisphere = refl }
    where
      lon_most : (lon : ℕ) → lon < 360 → degrees_of_lon lon ≤ 180
      lon_most lon h = grind (arith, nat_tests)

  lat_angle : IsAngle (header_text square level ++ rest) 12 90 (degrees_of_lat square.lat) (letter_of_lat square.lat)
  unfolding header_text user_label number_of
  lat_angle =
      let most : degrees_of_lat square.lat ≤ 90 = lat_most square.lat square.lat_in_range in
      record { degrees_field = three_say (degrees_of_lat square.lat) (omega arith); in_range = most; minutes = refl; seconds = refl; hemisphere = refl }
    where
      lat_most : (lat : ℕ) → lat < 180 → degrees_of_lat lat ≤ 90
      lat_most lat h = grind (arith, nat_tests)

  pub lon_there : IsLongitude (header_text square level ++ rest) square.lon
  lon_there = elim (cases_lt square.lon 180) [
    | inl less ↦
        let t : nat_le 180 square.lon ≡ false = grind (arith, nat_tests) in
        let angle = rw t at lon_angle in
        inr (180 - square.lon, angle, omega arith)
    | inr fine ↦
        let t : nat_le 180 square.lon ≡ true = grind (arith, nat_tests) in
        let angle = rw t at lon_angle in
        inl (square.lon - 180, angle, omega (arith, square.lon_in_range))
  ]

  pub lat_there : IsLatitude (header_text square level ++ rest) square.lat
  lat_there = elim (cases_lt square.lat 90) [
    | inl less ↦
        let t : nat_le 90 square.lat ≡ false = grind (arith, nat_tests) in
        let angle = rw t at lat_angle in
        inr (90 - square.lat, angle, omega arith)
    | inr fine ↦
        let t : nat_le 90 square.lat ≡ true = grind (arith, nat_tests) in
        let angle = rw t at lat_angle in
        inl (square.lat - 90, angle, omega (arith, square.lat_in_range))
  ]

  pub header_is : IsHeader (header_text square level ++ rest) square level
  unfolding header_text user_label spells
  header_is =
      let step = step_range square level in
      record {
        user_label = refl;
        longitude = lon_there;
        latitude = lat_there;
        lon_interval = four_say (10 * lon_step_of square level) (omega (arith, step));
        lat_interval = four_say (10 * lat_step_of level) (lat_below level);
        columns = four_say (columns_of square level) (columns_below (lon_step_of square level) step.0);
        rows = four_say (rows_of level) (rows_below level);
        data_set_label = (labels_there square level rest).0;
        series = (labels_there square level rest).1;
        datum = (labels_there square level rest).2;
        accuracy_label = (labels_there square level rest).3;
      }
