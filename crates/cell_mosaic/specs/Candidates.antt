-- The squares whose closed rectangle holds a place, by the whole degrees of the place.
use Rattle.std.specs.Prelude.{◌↔◌, ℕ, ◌+◌, ◌-◌, ◌*◌, ◌/◌, ◌%◌, ◌==◌, Bool, ◌&&◌, nat_lt, List, [], ◌∷◌, ◌++◌, Contains, if◌then◌else◌}
use Rattle.terrain_base.specs.declared.square.Square.{Square}
use Rattle.tms_tree.specs.declared.place.Place.{Place}
use Rattle.tms_tree.specs.Degrees.{RectangleHolds, square_rectangle}
use Rattle.tms_tree.specs.Place.{IsPlace, point_of}
use Rattle.dted_cell.specs.Header.{square_of}

-- whole degrees east of 180 degrees west, and north of the south pole, rounded down
abbrev pub degrees_east : Place → ℕ
degrees_east place = 180 * place.p / place.d

abbrev pub degrees_north : Place → ℕ
degrees_north place = 180 * place.q / place.d

-- the place's longitude, and its latitude, is a whole number of degrees
abbrev pub is_on_meridian : Place → Bool
is_on_meridian place = 180 * place.p % place.d == 0

abbrev pub is_on_parallel : Place → Bool
is_on_parallel place = 180 * place.q % place.d == 0

-- the square at these degrees, longitudes modulo 360, where it is a candidate
abbrev pub where_it_is : Bool → ℕ → ℕ → List Square
where_it_is is_candidate lon lat = if is_candidate then square_of lon lat ∷ [] else []

-- the square of the degrees rounded down; where the longitude is whole the one west of it (359 degrees on, modulo 360);
-- where the latitude is whole the one south of it; where both are whole the one south-west of it: each where there is
-- such a square
unfoldable pub candidates_of : Place → List Square
candidates_of place =
    let lon = degrees_east place in
    let lat = degrees_north place in
    let meridian = is_on_meridian place in
    let parallel = is_on_parallel place in
    where_it_is (nat_lt lat 180) lon lat
    ++ where_it_is (meridian && nat_lt lat 180) (lon + 359) lat
    ++ where_it_is (parallel && nat_lt 0 lat) lon (lat - 1)
    ++ where_it_is ((meridian && parallel) && nat_lt 0 lat) (lon + 359) (lat - 1)

-- a square is a candidate exactly where its closed rectangle holds the place, longitudes modulo 360
abbrev pub AreHolders : Type 0
AreHolders = (place : Place) (square : Square) → IsPlace place
    → Contains (candidates_of place) square ↔ RectangleHolds (square_rectangle square) (point_of place)
