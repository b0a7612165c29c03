-- The origin's fields, by positions and without a refusal.
use Rattle.std.proofs.Common.{◌≡◌, ℕ, ◌+◌, ◌-◌, ◌%◌, ◌<◌, ◌≤◌, ◌⊎◌, true, ◌==◌, ◌||◌, List, slice_index, is_some, unwrap_or, Option, Some, None, refl, sym, ap, ◌∙◌, inl, inr, arith}
use Rattle.std.proofs.Math.Nat.{mod-eq_of_lt}
use Rattle.std.proofs.lemmas.Bool.{not-false, and_parts, or_cases, eqb-true, leb-true, le-leb}
use Rattle.common_laws.specs.First.{first_of}
use Rattle.common_laws.proofs.First.{neither, not_when}
use Rattle.dted_cell.specs.Field.{number_at, is_number, HasNumber}
use Rattle.dted_cell.specs.Header.{east, west, north, south, degrees_east, degrees_north, is_whole, IsAngle, IsLongitude, IsLatitude}
use Rattle.dted_cell.specs.Refusal.{angle_conditions}
use Rattle.dted_cell.proofs.Numbers.{number_is}

-- ---- a number field
pub value_of : (o : Option ℕ) (n : ℕ) → o ≡ Some n → unwrap_or o 0 ≡ n
value_of o n e = rw e refl

some_is : (o : Option ℕ) → is_some o ≡ true → o ≡ Some (unwrap_or o 0)
some_is None e = cc
some_is (Some n) e = refl

-- ---- an angle without a refusal
pub record FoundAngle (text : List ℕ) (at half one other : ℕ) : Type 0 where
  pub degrees : HasNumber text at (at + 3) (number_at text at (at + 3))
  pub in_range : number_at text at (at + 3) ≤ half
  pub minutes : HasNumber text (at + 3) (at + 5) (number_at text (at + 3) (at + 5))
  pub seconds : HasNumber text (at + 5) (at + 7) (number_at text (at + 5) (at + 7))
  pub letter : (slice_index text (at + 7) ≡ one) ⊎ (slice_index text (at + 7) ≡ other)

letter_is : (b one other : ℕ) → (b == one || b == other) ≡ true → (b ≡ one) ⊎ (b ≡ other)
letter_is b one other e = elim (or_cases (b == one) (b == other) e) [ inl l ↦ inl (eqb-true b one l) | inr r ↦ inr (eqb-true b other r) ]

pub found_angle : (text : List ℕ) (at half one other : ℕ) → first_of (angle_conditions text at half one other) ≡ None → FoundAngle text at half one other
unfolding angle_conditions
found_angle text at half one other e =
    let degrees = neither _ _ e in
    let minutes = neither _ _ degrees.1 in
    let seconds = neither _ _ minutes.1 in
    let letter = neither _ _ seconds.1 in
    let in_range = and_parts (is_number text at (at + 3)) _ (not-false _ (not_when _ _ degrees.0)) in
    record {
      degrees = some_is _ in_range.0;
      in_range = leb-true _ _ in_range.1;
      minutes = number_is _ (not_when _ _ minutes.0);
      seconds = number_is _ (not_when _ _ seconds.0);
      letter = letter_is _ one other (not-false _ (not_when _ _ letter.0));
    }

-- ---- and by positions
pub angle_passes : (text : List ℕ) (at half degrees letter one other : ℕ) → IsAngle text at half degrees letter → (letter == one || letter == other) ≡ true → first_of (angle_conditions text at half one other) ≡ None
unfolding angle_conditions
angle_passes text at half degrees letter one other angle letter_passes =
    rw (angle.degrees_field, le-leb degrees half angle.in_range, angle.minutes, angle.seconds, angle.hemisphere, letter_passes) refl

pub angle_whole : (text : List ℕ) (at half degrees letter : ℕ) → IsAngle text at half degrees letter → is_whole text at ≡ true
angle_whole text at half degrees letter angle = rw (angle.minutes, angle.seconds) refl

whole_angle : (text : List ℕ) (at half one other letter : ℕ) → FoundAngle text at half one other → is_whole text at ≡ true → slice_index text (at + 7) ≡ letter → IsAngle text at half (number_at text at (at + 3)) letter
whole_angle text at half one other letter found whole is_letter =
    let both = and_parts (number_at text (at + 3) (at + 5) == 0) (number_at text (at + 5) (at + 7) == 0) whole in
    record {
      degrees_field = found.degrees;
      in_range = found.in_range;
      minutes = found.minutes ∙ ap Some (eqb-true _ 0 both.0);
      seconds = found.seconds ∙ ap Some (eqb-true _ 0 both.1);
      hemisphere = is_letter;
    }

-- ---- longitude
east_by : (text : List ℕ) → slice_index text 11 ≡ east → degrees_east text ≡ 180 + number_at text 4 7
east_by text e = rw e refl

west_by : (text : List ℕ) → slice_index text 11 ≡ west → degrees_east text ≡ 180 - number_at text 4 7
west_by text e = rw e refl

small_lon : (n : ℕ) → (180 - n) % 360 ≡ 180 - n
small_lon n = let below : 180 - n < 360 = omega arith in mod-eq_of_lt below

pub longitude_by : (text : List ℕ) → FoundAngle text 4 180 east west → is_whole text 4 ≡ true → IsLongitude text (degrees_east text % 360)
longitude_by text found whole = elim found.letter [
  | inl is_east ↦ inl (number_at text 4 7, whole_angle text 4 180 east west east found whole is_east, ap (λ n. n % 360) (east_by text is_east))
  | inr is_west ↦ inr (number_at text 4 7, whole_angle text 4 180 east west west found whole is_west, ap (λ n. n % 360) (west_by text is_west) ∙ small_lon (number_at text 4 7))
]

pub by_longitude : (text : List ℕ) (lon : ℕ) → IsLongitude text lon → (lon ≡ degrees_east text % 360) × (first_of (angle_conditions text 4 180 east west) ≡ None) × (is_whole text 4 ≡ true)
by_longitude text lon (inl (d, angle, is)) =
    let value : number_at text 4 7 ≡ d = value_of _ d angle.degrees_field in
    (is ∙ sym (ap (λ n. n % 360) (east_by text angle.hemisphere ∙ ap (λ n. 180 + n) value)), angle_passes text 4 180 d east east west angle refl, angle_whole text 4 180 d east angle)
by_longitude text lon (inr (d, angle, is)) =
    let value : number_at text 4 7 ≡ d = value_of _ d angle.degrees_field in
    (is ∙ sym (ap (λ n. n % 360) (west_by text angle.hemisphere ∙ ap (λ n. 180 - n) value) ∙ small_lon d), angle_passes text 4 180 d west east west angle refl, angle_whole text 4 180 d west angle)

-- ---- latitude
north_by : (text : List ℕ) → slice_index text 19 ≡ north → degrees_north text ≡ 90 + number_at text 12 15
north_by text e = rw e refl

south_by : (text : List ℕ) → slice_index text 19 ≡ south → degrees_north text ≡ 90 - number_at text 12 15
south_by text e = rw e refl

pub north_most : (text : List ℕ) → FoundAngle text 12 90 north south → degrees_north text ≤ 180
north_most text found = elim found.letter [
  | inl is_north ↦ omega (arith, north_by text is_north, found.in_range)
  | inr is_south ↦ omega (arith, south_by text is_south)
]

pub latitude_by : (text : List ℕ) → FoundAngle text 12 90 north south → is_whole text 12 ≡ true → IsLatitude text (degrees_north text)
latitude_by text found whole = elim found.letter [
  | inl is_north ↦ inl (number_at text 12 15, whole_angle text 12 90 north south north found whole is_north, north_by text is_north)
  | inr is_south ↦ inr (number_at text 12 15, whole_angle text 12 90 north south south found whole is_south, south_by text is_south)
]

pub by_latitude : (text : List ℕ) (lat : ℕ) → IsLatitude text lat → (lat ≡ degrees_north text) × (first_of (angle_conditions text 12 90 north south) ≡ None) × (is_whole text 12 ≡ true)
by_latitude text lat (inl (d, angle, is)) =
    let value : number_at text 12 15 ≡ d = value_of _ d angle.degrees_field in
    (is ∙ sym (north_by text angle.hemisphere ∙ ap (λ n. 90 + n) value), angle_passes text 12 90 d north north south angle refl, angle_whole text 12 90 d north angle)
by_latitude text lat (inr (d, angle, is)) =
    let value : number_at text 12 15 ≡ d = value_of _ d angle.degrees_field in
    (is ∙ sym (south_by text angle.hemisphere ∙ ap (λ n. 90 - n) value), angle_passes text 12 90 d south north south angle refl, angle_whole text 12 90 d south angle)
