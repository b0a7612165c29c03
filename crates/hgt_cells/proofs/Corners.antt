-- The squares of corners.
use Rattle.std.proofs.Common.{
  ◌≡◌,
  ℕ,
  ◌<◌,
  ◌≤◌,
  ◌==◌,
  true,
  cond,
  List,
  length,
  Option,
  Some,
  None,
  refl,
  ap,
  ◌∙◌,
  arith,
}
use Rattle.std.specs.Prelude.{◌↔◌, ◌%◌, IsSome, IfSome, nat_le, ◌&&◌}
use Rattle.std.proofs.lemmas.Bool.{and_parts}
use Rattle.std.proofs.lemmas.Bool.Decides.{nat_tests}
use Rattle.terrain_base.specs.declared.square.Square.{Square}
use Rattle.dted_cell.specs.Header.{square_of}
use Rattle.dted_cell.proofs.Squares.{square_found}
use Rattle.hgt_cells.specs.Name.{
  spells_latitude,
  spells_longitude,
  has_suffix,
  is_on_earth,
  spells_corner,
  degrees_of_latitude,
  degrees_of_longitude,
  latitude_of,
  longitude_of,
  square_at,
}

-- what is known of a part that spells a corner
pub record Corner (part : List ℕ) : Type 0 where
  pub long : length part ≡ 11
  pub lat : degrees_of_latitude part ≤ 90
  pub lon : degrees_of_longitude part ≤ 180

pub corner_is : (part : List ℕ) → spells_corner part ≡ true → Corner part
unfolding spells_corner
corner_is part h =
    let at_latitude = length part == 11 && spells_latitude part in
    let at_longitude = at_latitude && spells_longitude part in
    let at_suffix = at_longitude && has_suffix part in
    let earth = and_parts at_suffix (is_on_earth part) h in
    let within = and_parts (nat_le (degrees_of_latitude part) 90) (nat_le (degrees_of_longitude part) 180) earth.1 in
    let suffix = and_parts at_longitude (has_suffix part) earth.0 in
    let longitude = and_parts at_latitude (spells_longitude part) suffix.0 in
    let long = and_parts (length part == 11) (spells_latitude part) longitude.0 in
    record {
      long = grind (arith, nat_tests, long.0);
      lat = grind (arith, nat_tests, within.0);
      lon = grind (arith, nat_tests, within.1);
    }

-- the square of these degrees, or none at the north pole
pub found_at : (found : Option Square) (lon lat : ℕ) → lat ≤ 180 → (IsSome found ↔ ((lon % 360 < 360) × (lat < 180)))
    → IfSome found (λ square. (square.lon ≡ lon % 360) × (square.lat ≡ lat))
    → found ≡ cond (lat == 180) None (Some (square_of lon lat))
found_at None lon lat most some value =
    let pole : (lat == 180) ≡ true = grind (arith, nat_tests, some) in
    rw pole refl
found_at (Some square) lon lat most some value =
    let below = (some.0 refl).1 in
    square_found square lon lat most (omega (arith, below)) value.0 value.1

pub found_along : (found : Option Square) (part : List ℕ) (lon lat : ℕ) → lon ≡ longitude_of part
    → lat ≡ latitude_of part → lat ≤ 180 → (IsSome found ↔ ((lon % 360 < 360) × (lat < 180)))
    → IfSome found (λ square. (square.lon ≡ lon % 360) × (square.lat ≡ lat)) → found ≡ square_at part
found_along found part lon lat at_lon at_lat most some value =
    found_at found lon lat most some value ∙ ap (λ n. cond (n == 180) None (Some (square_of lon n))) at_lat
    ∙ ap (λ n. cond (latitude_of part == 180) None (Some (square_of n (latitude_of part)))) at_lon
