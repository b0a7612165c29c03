-- Squares by their degrees.
use Rattle.std.proofs.Common.{◌≡◌, ◌≢◌, ℕ, ◌<◌, ◌≤◌, ◌%◌, ◌==◌, false, cond, Some, None, sym, ap, ◌∙◌, subst, arith}
use Rattle.std.proofs.Math.Nat.{mod-eq_of_lt}
use Rattle.std.proofs.lemmas.Bool.Decides.{nat_tests}
use Rattle.std.proofs.Props.{props}
use Rattle.terrain_base.specs.declared.square.Square.{Square}
use Rattle.dted_cell.specs.Header.{square_of}

make : (lat lon : ℕ) → lat < 180 → lon < 360 → Square
make lat lon h k = record { lat = lat; lon = lon; lat_in_range = h; lon_in_range = k }

make_same : (lat lon : ℕ) (h h' : lat < 180) (k k' : lon < 360) → make lat lon h k ≡ make lat lon h' k'
unfolding make
make_same lat lon h h' k k' =
    let lat_prop : IsProp (lat < 180) = hlevel props in
    let lon_prop : IsProp (lon < 360) = hlevel props in
    λ i. record { lat = lat; lon = lon; lat_in_range = lat_prop h h' i; lon_in_range = lon_prop k k' i }

make_along : (lat lon lat' lon' : ℕ) (h : lat < 180) (k : lon < 360) → lat ≡ lat' → lon ≡ lon' → (h' : lat' < 180) (k' : lon' < 360) → make lat lon h k ≡ make lat' lon' h' k'
make_along lat lon lat' lon' h k p q =
    let LatFamily : ℕ → Type 0 = λ n. (h' : n < 180) (k' : lon' < 360) → make lat lon h k ≡ make n lon' h' k' in
    let LonFamily : ℕ → Type 0 = λ n. (h' : lat < 180) (k' : n < 360) → make lat lon h k ≡ make lat n h' k' in
    subst LatFamily p (subst LonFamily q (λ h' k'. make_same lat lon h h' k k'))

-- squares of the same degrees are the same
pub square_path : (s t : Square) → s.lat ≡ t.lat → s.lon ≡ t.lon → s ≡ t
unfolding make
square_path s t p q = make_along s.lat s.lon t.lat t.lon s.lat_in_range s.lon_in_range p q t.lat_in_range t.lon_in_range

-- the square of these degrees is the one that has them
pub square_of_is : (s : Square) (lon lat : ℕ) → lat < 180 → s.lon ≡ lon % 360 → s.lat ≡ lat → s ≡ square_of lon lat
unfolding square_of
square_of_is s lon lat h p q = square_path s (square_of lon lat) (q ∙ sym (mod-eq_of_lt h)) p

-- the square of degrees that are not those of the north pole
pub square_found : (s : Square) (lon lat : ℕ) → lat ≤ 180 → lat ≢ 180 → s.lon ≡ lon % 360 → s.lat ≡ lat → Some s ≡ cond (lat == 180) None (Some (square_of lon lat))
square_found s lon lat h n p q =
    let below : lat < 180 = omega arith in
    let other : (lat == 180) ≡ false = grind (arith, nat_tests) in
    rw other (ap Some (square_of_is s lon lat below p q))
