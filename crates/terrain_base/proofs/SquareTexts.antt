-- A square and its text can be told from each other.
use Rattle.std.specs.Prelude.{◌≡◌, ◌≢◌, ◌↔◌, ℕ, ◌+◌, ◌-◌, ◌*◌, ◌/◌, ◌<◌, ◌≤◌, Bool, true, false, nat_le, if◌then◌else◌, List, ◌++◌, Option, Some, None, IsSome, IfSome, codes, refl}
use Rattle.std.proofs.Common.{arith, ap, sym, ◌∙◌, get_or, append_assoc}
use Rattle.std.proofs.lemmas.Bool.{leb-true, leb-false}
use Rattle.std.specs.Coded.{le_prop}
use mathlib.Core.HLevel.{is_prop→PathP}
use Rattle.terrain_base.specs.declared.square.Square.{Square}
use Rattle.terrain_base.specs.SquareText.{digit_of, two_digits, three_digits, lat_text, lon_text, square_text}

-- squares of the same degrees are the same
pub same_square : (s t : Square) → s.lat ≡ t.lat → s.lon ≡ t.lon → s ≡ t
same_square s t p q = λ i. record {
  lat = p i;
  lon = q i;
  lat_in_range = is_prop→PathP (λ j. p j < 180) (λ j. le_prop) s.lat_in_range t.lat_in_range i;
  lon_in_range = is_prop→PathP (λ j. q j < 360) (λ j. le_prop) s.lon_in_range t.lon_in_range i;
}

-- ---- the two halves of a text, by the hemisphere

abbrev pub lat_case : Bool → ℕ → List ℕ
lat_case north lat = if north then codes "n" ++ two_digits (lat - 90) else (codes "s" ++ two_digits (90 - lat))

abbrev pub lon_case : Bool → ℕ → List ℕ
lon_case east lon = if east then codes "e" ++ three_digits (lon - 180) else (codes "w" ++ three_digits (180 - lon))

-- ---- a square is found again in its text

abbrev two_at : List ℕ → ℕ → ℕ
two_at bytes i = 10 * (get_or bytes i 0 - 48) + (get_or bytes (i + 1) 0 - 48)

north_case : (a b : Bool) (m n : ℕ) → m < 180 → nat_le 90 m ≡ a → get_or (lat_case a m ++ lon_case b n) 0 0 ≡ 110
    → 90 + two_at (lat_case a m ++ lon_case b n) 1 ≡ m
north_case true b m n h p is = let le : 90 ≤ m = leb-true _ _ p in omega arith
north_case false b m n h p is = absurd (omega arith)

south_case : (a b : Bool) (m n : ℕ) → m < 180 → nat_le 90 m ≡ a → get_or (lat_case a m ++ lon_case b n) 0 0 ≢ 110
    → 90 - two_at (lat_case a m ++ lon_case b n) 1 ≡ m
south_case true b m n h p is = absurd (is refl)
south_case false b m n h p is = let lt : m < 90 = leb-false _ _ p in omega arith

abbrev three_at : List ℕ → ℕ
three_at bytes = 100 * (get_or bytes 4 0 - 48) + 10 * (get_or bytes 5 0 - 48) + (get_or bytes 6 0 - 48)

east_case : (a b : Bool) (m n : ℕ) → n < 360 → nat_le 180 n ≡ b → get_or (lat_case a m ++ lon_case b n) 3 0 ≡ 101
    → 180 + three_at (lat_case a m ++ lon_case b n) ≡ n
east_case true true m n h p is = let le : 180 ≤ n = leb-true _ _ p in omega arith
east_case false true m n h p is = let le : 180 ≤ n = leb-true _ _ p in omega arith
east_case true false m n h p is = absurd (omega arith)
east_case false false m n h p is = absurd (omega arith)

west_case : (a b : Bool) (m n : ℕ) → n < 360 → nat_le 180 n ≡ b → get_or (lat_case a m ++ lon_case b n) 3 0 ≢ 101
    → 180 - three_at (lat_case a m ++ lon_case b n) ≡ n
west_case true true m n h p is = absurd (is refl)
west_case false true m n h p is = absurd (is refl)
west_case true false m n h p is = let lt : n < 180 = leb-false _ _ p in omega arith
west_case false false m n h p is = let lt : n < 180 = leb-false _ _ p in omega arith

pub north_of : (bytes : List ℕ) (s : Square) → bytes ≡ square_text s → get_or bytes 0 0 ≡ 110 → 90 + two_at bytes 1 ≡ s.lat
north_of bytes s e is = rw e (north_case _ _ s.lat s.lon s.lat_in_range refl (rw e at is))

pub south_of : (bytes : List ℕ) (s : Square) → bytes ≡ square_text s → get_or bytes 0 0 ≢ 110 → 90 - two_at bytes 1 ≡ s.lat
south_of bytes s e is = rw e (south_case _ _ s.lat s.lon s.lat_in_range refl (rw e at is))

pub east_of : (bytes : List ℕ) (s : Square) → bytes ≡ square_text s → get_or bytes 3 0 ≡ 101 → 180 + three_at bytes ≡ s.lon
east_of bytes s e is = rw e (east_case _ _ s.lat s.lon s.lon_in_range refl (rw e at is))

pub west_of : (bytes : List ℕ) (s : Square) → bytes ≡ square_text s → get_or bytes 3 0 ≢ 101 → 180 - three_at bytes ≡ s.lon
west_of bytes s e is = rw e (west_case _ _ s.lat s.lon s.lon_in_range refl (rw e at is))

pub square_found : (o : Option Square) (lat lon : ℕ) (s : Square) → (IsSome o ↔ ((lon < 360) × (lat < 180)))
    → IfSome o (λ square. (square.lon ≡ lon) × (square.lat ≡ lat)) → lat ≡ s.lat → lon ≡ s.lon → o ≡ Some s
square_found None lat lon s some value p q = let none : ◌≡◌ {A = Bool} false true = some.1 (omega (arith, s.lon_in_range), omega (arith, s.lat_in_range)) in absurd (cc)
square_found (Some t) lat lon s some value p q = ap Some (same_square t s (value.1 ∙ p) (value.0 ∙ q))

-- ---- different squares have different texts

lat_cut : (a b : Bool) (m n : ℕ) (r s : List ℕ) → m < 180 → n < 180 → nat_le 90 m ≡ a → nat_le 90 n ≡ b
    → lat_case a m ++ r ≡ lat_case b n ++ s → (m ≡ n) × (r ≡ s)
lat_cut true true m n r s hm hn p q e =
    let tens : digit_of ((m - 90) / 10) ≡ digit_of ((n - 90) / 10) = cc in
    let units : digit_of (m - 90) ≡ digit_of (n - 90) = cc in
    let lm : 90 ≤ m = leb-true _ _ p in
    let ln : 90 ≤ n = leb-true _ _ q in
    (omega arith, cc)
lat_cut true false m n r s hm hn p q e = absurd (let h : ◌≡◌ {A = ℕ} 110 115 = ap (λ xs. get_or xs 0 0) e in omega arith)
lat_cut false true m n r s hm hn p q e = absurd (let h : ◌≡◌ {A = ℕ} 115 110 = ap (λ xs. get_or xs 0 0) e in omega arith)
lat_cut false false m n r s hm hn p q e =
    let tens : digit_of ((90 - m) / 10) ≡ digit_of ((90 - n) / 10) = cc in
    let units : digit_of (90 - m) ≡ digit_of (90 - n) = cc in
    let lm : m < 90 = leb-false _ _ p in
    let ln : n < 90 = leb-false _ _ q in
    (omega arith, cc)

lon_cut : (a b : Bool) (m n : ℕ) (r s : List ℕ) → m < 360 → n < 360 → nat_le 180 m ≡ a → nat_le 180 n ≡ b
    → lon_case a m ++ r ≡ lon_case b n ++ s → (m ≡ n) × (r ≡ s)
lon_cut true true m n r s hm hn p q e =
    let hundreds : digit_of ((m - 180) / 100) ≡ digit_of ((n - 180) / 100) = cc in
    let tens : digit_of ((m - 180) / 10) ≡ digit_of ((n - 180) / 10) = cc in
    let units : digit_of (m - 180) ≡ digit_of (n - 180) = cc in
    let lm : 180 ≤ m = leb-true _ _ p in
    let ln : 180 ≤ n = leb-true _ _ q in
    (omega arith, cc)
lon_cut true false m n r s hm hn p q e = absurd (let h : ◌≡◌ {A = ℕ} 101 119 = ap (λ xs. get_or xs 0 0) e in omega arith)
lon_cut false true m n r s hm hn p q e = absurd (let h : ◌≡◌ {A = ℕ} 119 101 = ap (λ xs. get_or xs 0 0) e in omega arith)
lon_cut false false m n r s hm hn p q e =
    let hundreds : digit_of ((180 - m) / 100) ≡ digit_of ((180 - n) / 100) = cc in
    let tens : digit_of ((180 - m) / 10) ≡ digit_of ((180 - n) / 10) = cc in
    let units : digit_of (180 - m) ≡ digit_of (180 - n) = cc in
    let lm : m < 180 = leb-false _ _ p in
    let ln : n < 180 = leb-false _ _ q in
    (omega arith, cc)

-- a square's text can be told apart from what follows it
pub square_cut : (s t : Square) (xs ys : List ℕ) → square_text s ++ xs ≡ square_text t ++ ys → s ≡ t
square_cut s t xs ys e =
    let lat = lat_cut _ _ s.lat t.lat (lon_text s.lon ++ xs) (lon_text t.lon ++ ys) s.lat_in_range t.lat_in_range refl refl
    (sym (append_assoc (lat_text s.lat) (lon_text s.lon) xs) ∙ e ∙ append_assoc (lat_text t.lat) (lon_text t.lon) ys) in
    let lon = lon_cut _ _ s.lon t.lon xs ys s.lon_in_range t.lon_in_range refl refl lat.1 in
    same_square s t lat.0 lon.0
