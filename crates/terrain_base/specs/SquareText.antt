-- The text of a square: hemisphere and whole degrees of its south-west corner, latitude first.
use Rattle.std.specs.Prelude.{ℕ, ◌+◌, ◌-◌, ◌/◌, ◌%◌, List, [], ◌∷◌, ◌++◌, codes, nat_le, if◌then◌else◌}
use Rattle.terrain_base.specs.declared.square.Square.{Square}

-- the last decimal digit, in ASCII
abbrev pub digit_of : ℕ → ℕ
digit_of n = 48 + n % 10

abbrev pub two_digits : ℕ → List ℕ
two_digits n = digit_of (n / 10) ∷ digit_of n ∷ []

abbrev pub three_digits : ℕ → List ℕ
three_digits n = digit_of (n / 100) ∷ digit_of (n / 10) ∷ digit_of n ∷ []

-- north of the equator `n` and the degrees north of it, else `s` and the degrees south of it
abbrev pub lat_text : ℕ → List ℕ
lat_text lat =
    if nat_le 90 lat then codes "n" ++ two_digits (lat - 90) else (codes "s" ++ two_digits (90 - lat))

-- east of Greenwich `e` and the degrees east of it, else `w` and the degrees west of it
abbrev pub lon_text : ℕ → List ℕ
lon_text lon =
    if nat_le 180 lon then codes "e" ++ three_digits (lon - 180) else (codes "w" ++ three_digits (180 - lon))

abbrev pub square_text : Square → List ℕ
square_text square = lat_text square.lat ++ lon_text square.lon
