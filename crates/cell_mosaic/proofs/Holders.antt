-- The candidates are the squares that hold the place.
use Rattle.std.proofs.Common.{◌≡◌, ◌⊎◌, ℕ, zero, suc, ◌+◌, ◌-◌, ◌*◌, ◌/◌, ◌%◌, ◌<◌, ◌≤◌, ◌==◌, nat_lt, Bool, true, false, ◌&&◌, List, ◌++◌, Contains, inl, inr, refl, sym, ap, ◌∙◌, arith}
use Rattle.std.proofs.lemmas.Bool.{and_parts, and_from, eqb-true, eq-eqb, ltb-true, lt-ltb, cases_order}
use Rattle.std.proofs.lemmas.List.Elements.{Contains-append_left, Contains-append_right, Contains-append_cases}
use Rattle.std.proofs.lemmas.Nat.{div-add-mod'}
use Rattle.std.proofs.Math.Nat.{mod-lt, mul-le-mul_right}
use Rattle.terrain_base.specs.declared.square.Square.{Square}
use Rattle.terrain_base.proofs.SquareTexts.{same_square}
use Rattle.tms_tree.specs.declared.place.Place.{Place}
use Rattle.tms_tree.specs.Degrees.{IsWithin, degree_span, turned}
use Rattle.tms_tree.specs.Place.{IsPlace}
use Rattle.dted_cell.specs.Header.{square_of}
use Rattle.cell_mosaic.specs.Candidates.{AreHolders, candidates_of, where_it_is, degrees_east, degrees_north, is_on_meridian, is_on_parallel}

-- the degrees, rounded down, are the square's; or they are whole, and the square's are the ones before
abbrev pub IsLon : Place → ℕ → Type 0
IsLon place lon = (lon ≡ degrees_east place % 360) ⊎ ((is_on_meridian place ≡ true) × (lon ≡ (degrees_east place + 359) % 360))

abbrev pub IsLat : Place → ℕ → Type 0
IsLat place lat = (lat ≡ degrees_north place) ⊎ ((is_on_parallel place ≡ true) × (lat + 1 ≡ degrees_north place))

-- ---- members of the list

in_where : (is : Bool) (lon lat : ℕ) (square : Square) → Contains (where_it_is is lon lat) square → (is ≡ true) × (square ≡ square_of lon lat)
in_where true lon lat square (zero, below, at) = (refl, sym at)
in_where true lon lat square (suc k, below, at) = absurd (omega arith)
in_where false lon lat square (k, below, at) = absurd (omega arith)

where_in : (is : Bool) (lon lat : ℕ) (square : Square) → is ≡ true → square ≡ square_of lon lat → Contains (where_it_is is lon lat) square
where_in true lon lat square e at = (0, omega arith, sym at)
where_in false lon lat square e at = absurd (cc)

lon_of : (lon lat : ℕ) (square : Square) → square ≡ square_of lon lat → square.lon ≡ lon % 360
unfolding square_of
lon_of lon lat square e = ap (λ (s : Square). s.lon) e

lat_of : (lon lat : ℕ) (square : Square) → lat < 180 → square ≡ square_of lon lat → square.lat ≡ lat
unfolding square_of
lat_of lon lat square h e = ap (λ (s : Square). s.lat) e ∙ omega (arith, h)

is_square : (lon lat : ℕ) (square : Square) → square.lon ≡ lon % 360 → square.lat ≡ lat → square ≡ square_of lon lat
unfolding square_of
is_square lon lat square e f = same_square _ _ (omega (arith, f, square.lat_in_range)) e

most : (q d : ℕ) → 0 < d → q ≤ d → 180 * q / d ≤ 180
most q d p h = let e = div-add-mod' (180 * q) d in elim (cases_order (180 * q / d) 180) [
  | inl e ↦ omega arith
  | inr s ↦ elim s [
    | inl less ↦ omega arith
    | inr more ↦ absurd (let up : 181 * d ≤ 180 * q / d * d = mul-le-mul_right d (omega arith) in omega arith)
  ]
]

-- the four parts of the list
abbrev pub part_here : Place → List Square
part_here place = where_it_is (nat_lt (degrees_north place) 180) (degrees_east place) (degrees_north place)

abbrev pub part_west : Place → List Square
part_west place = where_it_is (is_on_meridian place && nat_lt (degrees_north place) 180) (degrees_east place + 359) (degrees_north place)

abbrev pub part_south : Place → List Square
part_south place = where_it_is (is_on_parallel place && nat_lt 0 (degrees_north place)) (degrees_east place) (degrees_north place - 1)

abbrev pub part_corner : Place → List Square
part_corner place = where_it_is ((is_on_meridian place && is_on_parallel place) && nat_lt 0 (degrees_north place)) (degrees_east place + 359) (degrees_north place - 1)

module _ (place : Place) (square : Square) (fit : IsPlace place) where
  from_list : Contains (candidates_of place) square → IsLon place square.lon × IsLat place square.lat
  unfolding candidates_of
  from_list c =
      let f = degrees_east place in
      let g = degrees_north place in
      let m = is_on_meridian place in
      let l = is_on_parallel place in
      let top = most place.q place.d fit.positive fit.pole in
      elim (Contains-append_cases _ (where_it_is ((m && l) && nat_lt 0 g) (f + 359) (g - 1)) square c) [
        | inr d ↦
            let both = in_where _ _ _ square d in
            let tests = and_parts (m && l) (nat_lt 0 g) both.0 in
            let sides = and_parts m l tests.0 in
            let above = ltb-true 0 g tests.1 in
            (inr (sides.0, lon_of _ _ square both.1), inr (sides.1, let e = lat_of (f + 359) (g - 1) square (omega arith) both.1 in omega arith))
        | inl c ↦ elim (Contains-append_cases _ (where_it_is (l && nat_lt 0 g) f (g - 1)) square c) [
          | inr d ↦
              let both = in_where _ _ _ square d in
              let tests = and_parts l (nat_lt 0 g) both.0 in
              let above = ltb-true 0 g tests.1 in
              (inl (lon_of _ _ square both.1), inr (tests.0, let e = lat_of f (g - 1) square (omega arith) both.1 in omega arith))
          | inl c ↦ elim (Contains-append_cases _ (where_it_is (m && nat_lt g 180) (f + 359) g) square c) [
            | inr d ↦
                let both = in_where _ _ _ square d in
                let tests = and_parts m (nat_lt g 180) both.0 in
                (inr (tests.0, lon_of _ _ square both.1), inl (lat_of (f + 359) g square (ltb-true g 180 tests.1) both.1))
            | inl d ↦
                let both = in_where _ _ _ square d in
                (inl (lon_of _ _ square both.1), inl (lat_of f g square (ltb-true g 180 both.0) both.1))
          ]
        ]
      ]

  to_list : IsLon place square.lon → IsLat place square.lat → Contains (candidates_of place) square
  unfolding candidates_of
  to_list (inl lon) (inl lat) =
      let below = square.lat_in_range in
      Contains-append_left ((part_here place ++ part_west place) ++ part_south place) (part_corner place) square
      (Contains-append_left (part_here place ++ part_west place) (part_south place) square
      (Contains-append_left (part_here place) (part_west place) square
      (where_in _ _ _ square (lt-ltb (degrees_north place) 180 (omega arith)) (is_square _ _ square lon lat))))
  to_list (inr west) (inl lat) =
      let below = square.lat_in_range in
      Contains-append_left ((part_here place ++ part_west place) ++ part_south place) (part_corner place) square
      (Contains-append_left (part_here place ++ part_west place) (part_south place) square
      (Contains-append_right (part_here place) (part_west place) square
      (where_in _ _ _ square (and_from _ _ west.0 (lt-ltb (degrees_north place) 180 (omega arith))) (is_square _ _ square west.1 lat))))
  to_list (inl lon) (inr south) =
      Contains-append_left ((part_here place ++ part_west place) ++ part_south place) (part_corner place) square
      (Contains-append_right (part_here place ++ part_west place) (part_south place) square
      (where_in _ _ _ square (and_from _ _ south.0 (lt-ltb 0 (degrees_north place) (omega (arith, south.1)))) (is_square (degrees_east place) (degrees_north place - 1) square lon (omega (arith, south.1)))))
  to_list (inr west) (inr south) =
      Contains-append_right ((part_here place ++ part_west place) ++ part_south place) (part_corner place) square
      (where_in _ _ _ square (and_from _ _ (and_from _ _ west.0 south.0) (lt-ltb 0 (degrees_north place) (omega (arith, south.1)))) (is_square (degrees_east place + 359) (degrees_north place - 1) square west.1 (omega (arith, south.1))))

-- ---- the rectangle

-- F degrees and r parts more lie between L and L + 1 degrees
between : (L F d r : ℕ) → r < d → L * d ≤ F * d + r → F * d + r ≤ (L + 1) * d → (F ≡ L) ⊎ ((r ≡ 0) × (F ≡ L + 1))
between L F d r small low high = elim (cases_order F L) [
  | inl e ↦ inl e
  | inr s ↦ elim s [
    | inl less ↦ absurd (let up : (F + 1) * d ≤ L * d = mul-le-mul_right d (omega arith) in omega arith)
    | inr more ↦ elim (cases_order F (L + 1)) [
      | inl e ↦ inr (let same : F * d ≡ (L + 1) * d = ap (λ (n : ℕ). n * d) e in omega arith, e)
      | inr s ↦ elim s [
        | inl less ↦ absurd (omega arith)
        | inr far ↦ absurd (let up : (L + 2) * d ≤ F * d = mul-le-mul_right d (omega arith) in omega arith)
      ]
    ]
  ]
]

lon_from : (n d lon a b : ℕ) → 0 < d → lon < 360 → IsWithin (n + 360 * b * d) d (turned a (degree_span lon)) → (lon ≡ n / d % 360) ⊎ ((n % d == 0 ≡ true) × (lon ≡ (n / d + 359) % 360))
lon_from n d lon a b p h w =
    let e = div-add-mod' n d in
    elim (between (lon + 360 * a) (n / d + 360 * b) d (n % d) (mod-lt n p) (omega (arith, w.above)) (omega (arith, w.below))) [
      | inl same ↦ inl (omega arith)
      | inr next ↦ inr (eq-eqb _ _ next.0, let f = next.1 in omega arith)
    ]

lat_from : (n d lat : ℕ) → 0 < d → IsWithin n d (degree_span lat) → (lat ≡ n / d) ⊎ ((n % d == 0 ≡ true) × (lat + 1 ≡ n / d))
lat_from n d lat p w =
    let e = div-add-mod' n d in
    elim (between lat (n / d) d (n % d) (mod-lt n p) (omega (arith, w.above)) (omega (arith, w.below))) [
      | inl same ↦ inl (sym same)
      | inr next ↦ inr (eq-eqb _ _ next.0, sym next.1)
    ]

pub record LonWithin (n d lon : ℕ) : Type 0 where
  pub turns : ℕ
  pub point_turns : ℕ
  pub within : IsWithin (n + 360 * point_turns * d) d (turned turns (degree_span lon))

lon_to : (n d lon : ℕ) → 0 < d → (lon ≡ n / d % 360) ⊎ ((n % d == 0 ≡ true) × (lon ≡ (n / d + 359) % 360)) → LonWithin n d lon
lon_to n d lon p (inl is) =
    let e = div-add-mod' n d in
    let small = mod-lt n p in
    let t = n / d / 360 in
    let parts : lon + 360 * t ≡ n / d = omega (arith, is) in
    let times : (lon + 360 * t) * d ≡ n / d * d = ap (λ (k : ℕ). k * d) parts in
    record { turns = t; point_turns = 0; within = record { above = omega (arith, times, e); below = omega (arith, times, e, small) } }
lon_to n d lon p (inr is) =
    let e = div-add-mod' n d in
    let whole = eqb-true _ _ is.0 in
    let t = (n / d + 359) / 360 in
    let parts : lon + 360 * t ≡ n / d + 359 = omega (arith, is.1) in
    let times : (lon + 360 * t) * d ≡ (n / d + 359) * d = ap (λ (k : ℕ). k * d) parts in
    record { turns = t; point_turns = 1; within = record { above = omega (arith, times, e, whole); below = omega (arith, times, e, whole) } }

lat_to : (n d lat : ℕ) → 0 < d → (lat ≡ n / d) ⊎ ((n % d == 0 ≡ true) × (lat + 1 ≡ n / d)) → IsWithin n d (degree_span lat)
lat_to n d lat p (inl is) =
    let e = div-add-mod' n d in
    let small = mod-lt n p in
    let times : lat * d ≡ n / d * d = ap (λ (k : ℕ). k * d) is in
    record { above = omega (arith, times, e); below = omega (arith, times, e, small) }
lat_to n d lat p (inr is) =
    let e = div-add-mod' n d in
    let whole = eqb-true _ _ is.0 in
    let times : (lat + 1) * d ≡ n / d * d = ap (λ (k : ℕ). k * d) is.1 in
    record { above = omega (arith, times, e, whole); below = omega (arith, times, e, whole) }

pub are_holders : AreHolders
are_holders place square fit = (
  λ c.
      let parts = from_list place square fit c in
      let lon = lon_to (180 * place.p) place.d square.lon fit.positive parts.0 in
      record { turns = lon.turns; point_turns = lon.point_turns; longitude = lon.within; latitude = lat_to (180 * place.q) place.d square.lat fit.positive parts.1 },
  λ h.
      to_list place square fit
      (lon_from (180 * place.p) place.d square.lon h.turns h.point_turns fit.positive square.lon_in_range h.longitude)
      (lat_from (180 * place.q) place.d square.lat fit.positive h.latitude),
)
