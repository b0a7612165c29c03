-- The value at a place in a cell, by the posts of the mesh round the place.
use Rattle.std.proofs.Common.{◌≡◌, ◌≢◌, ◌⊎◌, ℕ, zero, suc, ◌+◌, ◌-◌, ◌*◌, ◌/◌, ◌%◌, ◌<◌, ◌≤◌, ◌==◌, nat_lt, Bool, true, false, ◌||◌, cond, List, [], ◌∷◌, ◌++◌, Contains, inl, inr, refl, sym, ap, ◌∙◌, subst, arith}
use Rattle.std.specs.Prelude.{ℤ, pos, ◌+ℤ◌, ◌*ℤ◌, ◌≤ℤ◌}
use Rattle.std.specs.List.{AllByRecursion, list_any}
use Rattle.std.proofs.lemmas.Int.{ints, by_lt_z}
use Rattle.std.proofs.lemmas.Bool.{lt-ltb, cases_lt}
use Rattle.std.proofs.lemmas.Bool.Decides.{nat_tests}
use Rattle.std.proofs.lemmas.Nat.{div-add-mod', div-mul-add, le-div}
use Rattle.std.proofs.Math.Nat.{mul-le-mul_right}
use Rattle.terrain_base.specs.declared.square.Square.{Square}
use Rattle.terrain_base.specs.declared.level.CellLevel.{CellLevel}
use Rattle.terrain_base.specs.declared.level.CellLevel.TheVariants.{Zero, One, Two}
use Rattle.terrain_base.specs.declared.post.Post.{Post}
use Rattle.terrain_base.specs.declared.post.Post.TheVariants.{Void, Metres}
use Rattle.terrain_base.specs.Division.{IsFloor}
use Rattle.terrain_base.specs.Level.{rows_of, columns_of, lat_step_of, lon_step_of, factor_at, degrees_from_equator}
use Rattle.terrain_base.proofs.Quotients.{floor_is, floor_once, mul_mono, apart}
use Rattle.tms_tree.specs.declared.place.Place.{Place}
use Rattle.dted_cell.specs.Cell.{is_void_post}
use Rattle.cell_mosaic.specs.declared.weighted.Weighted.{Weighted}
use Rattle.cell_mosaic.specs.Blend.{weighted, counted, known, has_no_height, heaviest, times, weighted_sum, rounded, blend_of}
use Rattle.cell_mosaic.specs.Value.{steps_east, steps_north, unless_ignored, quad_at, value_in_cell}
use Rattle.cell_mosaic.specs.ValueLaws.{ValueAtPost, MeshSpot, LiesAt, PlacesHaveMeshes, sw_weight, se_weight, nw_weight, ne_weight, corners, sum_by_weights, ValueIsBlend, IsUsable, IsNearest, AreVoid, ValueBesideVoid, ValueByCorners, ValueOnColumn, ValueOnRow, IsBetween, ValueIsBetween}
use Rattle.cell_mosaic.proofs.BlendLaws.{first_is_heaviest, rounds_half_up}
use Rattle.cell_mosaic.proofs.Heaviest.{kept}
use Rattle.cell_mosaic.proofs.Ranges.{some_product, north_within}
use Rattle.cell_mosaic.proofs.Sums.{sum_counted, average_is}
use Rattle.cell_mosaic.proofs.Values.{east_within}

-- ---- which of four posts count

abbrev weighing : Post → ℕ → Weighted
weighing post weight = record { post = post; weight = weight }

-- four posts by the spot's distances from the east, the west, the north and the south side
abbrev four : Post → Post → Post → Post → ℕ → ℕ → ℕ → ℕ → List Weighted
four sw se nw ne east west north south =
    weighing sw (east * north) ∷ weighing se (west * north) ∷ weighing nw (east * south) ∷ weighing ne (west * south) ∷ []

same_next : (post other : Post) (weight : ℕ) (posts others : List Weighted) → (0 < weight → post ≡ other) → counted posts ≡ counted others
    → counted (weighing post weight ∷ posts) ≡ counted (weighing other weight ∷ others)
same_next post other zero posts others same rest = rest
same_next post other (suc weight) posts others same rest =
    let is : post ≡ other = same (omega arith) in
    rw (lt-ltb 0 (suc weight) (omega arith)) (λ i. weighing (is i) (suc weight) ∷ rest i)

left_out : (post : Post) (weight : ℕ) (posts : List Weighted) → weight ≡ 0 → counted (weighing post weight ∷ posts) ≡ counted posts
left_out post zero posts none = refl
left_out post (suc weight) posts none = absurd (omega arith)

factors : (m n : ℕ) → 0 < m * n → (0 < m) × (0 < n)
factors zero n h = absurd (omega (arith, h))
factors (suc m) zero h = absurd (omega (arith, h))
factors (suc m) (suc n) h = (omega arith, omega arith)

-- posts may differ where they have no weight
same_four : (sw se nw ne sw' se' nw' ne' : Post) (east west north south : ℕ)
    → (0 < east * north → sw ≡ sw') → (0 < west * north → se ≡ se') → (0 < east * south → nw ≡ nw') → (0 < west * south → ne ≡ ne')
    → counted (four sw se nw ne east west north south) ≡ counted (four sw' se' nw' ne' east west north south)
same_four sw se nw ne sw' se' nw' ne' east west north south hsw hse hnw hne =
    let last = weighing ne (west * south) ∷ [] in
    let last' = weighing ne' (west * south) ∷ [] in
    let north_two = weighing nw (east * south) ∷ last in
    let north_two' = weighing nw' (east * south) ∷ last' in
    same_next sw sw' (east * north) (weighing se (west * north) ∷ north_two) (weighing se' (west * north) ∷ north_two') hsw
    (same_next se se' (west * north) north_two north_two' hse
    (same_next nw nw' (east * south) last last' hnw
    (same_next ne ne' (west * south) [] [] hne refl)))

-- on the eastern side the eastern posts are the western ones of the next mesh
next_east : (sw se nw ne x y : Post) (west north south : ℕ) → counted (four sw se nw ne 0 west north south) ≡ counted (four se x ne y west 0 north south)
next_east sw se nw ne x y west north south =
    let last = weighing ne (west * south) ∷ [] in
    let beyond = weighing y (0 * south) ∷ [] in
    left_out sw (0 * north) (weighing se (west * north) ∷ weighing nw (0 * south) ∷ last) (omega arith)
    ∙ same_next se se (west * north) (weighing nw (0 * south) ∷ last) (weighing x (0 * north) ∷ weighing ne (west * south) ∷ beyond) (λ h. refl)
    (left_out nw (0 * south) last (omega arith)
    ∙ same_next ne ne (west * south) [] beyond (λ h. refl) (sym (left_out y (0 * south) [] (omega arith)))
    ∙ sym (left_out x (0 * north) (weighing ne (west * south) ∷ beyond) (omega arith)))

-- and on the northern side the northern ones the southern ones
next_north : (sw se nw ne x y : Post) (east west south : ℕ) → counted (four sw se nw ne east west 0 south) ≡ counted (four nw ne x y east west south 0)
next_north sw se nw ne x y east west south =
    let last = weighing ne (west * south) ∷ [] in
    let beyond = weighing x (east * 0) ∷ weighing y (west * 0) ∷ [] in
    left_out sw (east * 0) (weighing se (west * 0) ∷ weighing nw (east * south) ∷ last) (omega arith)
    ∙ left_out se (west * 0) (weighing nw (east * south) ∷ last) (omega arith)
    ∙ same_next nw nw (east * south) last (weighing ne (west * south) ∷ beyond) (λ h. refl)
    (same_next ne ne (west * south) [] beyond (λ h. refl)
    (sym (left_out x (east * 0) (weighing y (west * 0) ∷ []) (omega arith) ∙ left_out y (west * 0) [] (omega arith))))

-- ---- the mesh that begins at the place's whole steps

record IsParted (x d whole part : ℕ) : Type 0 where
  quotient : whole ≡ x / d
  remainder : part ≡ x % d

parted : (x d whole part : ℕ) → part < d → x ≡ whole * d + part → IsParted x d whole part
parted x d whole part less is =
    let quotient : x / d ≡ whole = ap (λ n. n / d) is ∙ div-mul-add whole d part less in
    let product : x / d * d ≡ whole * d = ap (λ n. n * d) quotient in
    record { quotient = sym quotient; remainder = omega (arith, div-add-mod' x d, product, is) }

east_side : (posts : ℕ → ℕ → Post) (x d col part rest low up north south : ℕ) → 0 < d → part + rest ≡ d → x ≡ col * d + part
    → counted (four (posts col low) (posts (col + 1) low) (posts col up) (posts (col + 1) up) rest part north south)
    ≡ counted (four (posts (x / d) low) (posts (x / d + 1) low) (posts (x / d) up) (posts (x / d + 1) up) (d - x % d) (x % d) north south)
east_side posts x d col part zero low up north south p whole is =
    let at = parted x d (col + 1) 0 p (omega (arith, is, whole)) in
    let col_is = at.quotient in
    let part_is = at.remainder in
    let rest_is : part ≡ d - x % d = omega (arith, part_is, whole) in
    next_east (posts col low) (posts (col + 1) low) (posts col up) (posts (col + 1) up) (posts (col + 1 + 1) low) (posts (col + 1 + 1) up) part north south
    ∙ (λ i. counted (four (posts (col_is i) low) (posts (col_is i + 1) low) (posts (col_is i) up) (posts (col_is i + 1) up) (rest_is i) (part_is i) north south))
east_side posts x d col part (suc rest) low up north south p whole is =
    let at = parted x d col part (omega (arith, whole)) is in
    let col_is = at.quotient in
    let part_is = at.remainder in
    let rest_is : suc rest ≡ d - x % d = omega (arith, part_is, whole) in
    λ i. counted (four (posts (col_is i) low) (posts (col_is i + 1) low) (posts (col_is i) up) (posts (col_is i + 1) up) (rest_is i) (part_is i) north south)

north_side : (posts : ℕ → ℕ → Post) (y d row part rest left right east west : ℕ) → 0 < d → part + rest ≡ d → y ≡ row * d + part
    → counted (four (posts left row) (posts right row) (posts left (row + 1)) (posts right (row + 1)) east west rest part)
    ≡ counted (four (posts left (y / d)) (posts right (y / d)) (posts left (y / d + 1)) (posts right (y / d + 1)) east west (d - y % d) (y % d))
north_side posts y d row part zero left right east west p whole is =
    let at = parted y d (row + 1) 0 p (omega (arith, is, whole)) in
    let row_is = at.quotient in
    let part_is = at.remainder in
    let rest_is : part ≡ d - y % d = omega (arith, part_is, whole) in
    next_north (posts left row) (posts right row) (posts left (row + 1)) (posts right (row + 1)) (posts left (row + 1 + 1)) (posts right (row + 1 + 1)) east west part
    ∙ (λ i. counted (four (posts left (row_is i)) (posts right (row_is i)) (posts left (row_is i + 1)) (posts right (row_is i + 1)) east west (rest_is i) (part_is i)))
north_side posts y d row part (suc rest) left right east west p whole is =
    let at = parted y d row part (omega (arith, whole)) is in
    let row_is = at.quotient in
    let part_is = at.remainder in
    let rest_is : suc rest ≡ d - y % d = omega (arith, part_is, whole) in
    λ i. counted (four (posts left (row_is i)) (posts right (row_is i)) (posts left (row_is i + 1)) (posts right (row_is i + 1)) east west (rest_is i) (part_is i))

-- a post that is not ignored
not_zero : (n : ℕ) → 0 < n → (n == 0) ≡ false
not_zero n h = grind (arith, nat_tests)

stays : (part : ℕ) (post : Post) → 0 < part → post ≡ unless_ignored (part == 0) post
stays part post h = rw (not_zero part h) refl

both_stay : (part more : ℕ) (post : Post) → 0 < part → 0 < more → post ≡ unless_ignored ((part == 0) || (more == 0)) post
both_stay part more post h k = rw (not_zero part h, not_zero more k) refl

-- those that the code asks for are those of the mesh, as far as they count
same_posts : (posts : ℕ → ℕ → Post) (x y d : ℕ) (spot : MeshSpot) → 0 < d → spot.from_west + spot.from_east ≡ d → spot.from_south + spot.from_north ≡ d
    → x ≡ spot.col * d + spot.from_west → y ≡ spot.row * d + spot.from_south
    → counted (weighted (quad_at posts x y d) (x % d) d (y % d) d) ≡ counted (corners posts spot)
same_posts posts x y d spot p width height longitude latitude = sym (
    east_side posts x d spot.col spot.from_west spot.from_east spot.row (spot.row + 1) spot.from_north spot.from_south p width longitude
    ∙ north_side posts y d spot.row spot.from_south spot.from_north (x / d) (x / d + 1) (d - x % d) (x % d) p height latitude
    ∙ same_four (posts (x / d) (y / d)) (posts (x / d + 1) (y / d)) (posts (x / d) (y / d + 1)) (posts (x / d + 1) (y / d + 1)) _ _ _ _ (d - x % d) (x % d) (d - y % d) (y % d)
    (λ h. refl)
    (λ h. let parts = factors (x % d) (d - y % d) h in stays (x % d) _ parts.0)
    (λ h. let parts = factors (d - x % d) (y % d) h in stays (y % d) _ parts.1)
    (λ h. let parts = factors (x % d) (y % d) h in both_stay (x % d) (y % d) _ parts.0 parts.1))

-- the value by the posts that count
abbrev pub value_by_counted : List Weighted → ℕ → Post
value_by_counted posts unit = cond (list_any has_no_height posts) (heaviest (known posts)) (Metres (rounded (weighted_sum posts) unit))

pub value_by_mesh : (posts : ℕ → ℕ → Post) (square : Square) (level : CellLevel) (place : Place) (spot : MeshSpot) → 0 < place.d → LiesAt square level place spot
    → value_in_cell posts square level place ≡ value_by_counted (counted (corners posts spot)) (place.d * place.d)
unfolding value_in_cell blend_of
value_by_mesh posts square level place spot p there =
    ap (λ ones. value_by_counted ones (place.d * place.d))
    (same_posts posts (steps_east square level place) (steps_north square level place) place.d spot p there.width there.height there.longitude there.latitude)

pub value_by_corners : ValueByCorners
value_by_corners posts others square level place spot p there same =
    value_by_mesh posts square level place spot p there
    ∙ ap (λ ones. value_by_counted ones (place.d * place.d))
    (same_four _ _ _ _ _ _ _ _ spot.from_east spot.from_west spot.from_north spot.from_south same.sw same.se same.nw same.ne)
    ∙ sym (value_by_mesh others square level place spot p there)

pub value_on_column : ValueOnColumn
value_on_column posts others square level place spot p there none south north =
    value_by_corners posts others square level place spot p there (record {
      sw = λ h. south;
      se = λ h. let parts = factors spot.from_west spot.from_north h in absurd (omega (arith, none, parts.0));
      nw = λ h. north;
      ne = λ h. let parts = factors spot.from_west spot.from_south h in absurd (omega (arith, none, parts.0));
    })

pub value_on_row : ValueOnRow
value_on_row posts others square level place spot p there none west east =
    value_by_corners posts others square level place spot p there (record {
      sw = λ h. west;
      se = λ h. east;
      nw = λ h. let parts = factors spot.from_east spot.from_south h in absurd (omega (arith, none, parts.1));
      ne = λ h. let parts = factors spot.from_west spot.from_south h in absurd (omega (arith, none, parts.1));
    })

-- ---- at a post

whole_floor : (metres : ℤ) (unit : ℕ) → 0 < unit → IsFloor ((((metres *ℤ pos unit) +ℤ pos 0) *ℤ pos 2) +ℤ pos unit) (pos (2 * unit)) metres
whole_floor metres unit p = record { low = omega (arith, ints, p); high = omega (arith, ints, p) }

-- a post that has the whole weight is the value
alone : (post : Post) (unit : ℕ) → 0 < unit → value_by_counted (record { post = post; weight = unit } ∷ []) unit ≡ post
alone Void unit p = refl
alone (Metres metres) unit p =
    ap Metres (floor_once _ (pos (2 * unit)) _ metres (omega (arith, ints, p)) (floor_is _ (pos (2 * unit)) (omega (arith, ints, p))) (whole_floor metres unit p))

abbrev spot_of : ℕ → ℕ → ℕ → MeshSpot
spot_of col row d = record { col = col; row = row; from_west = 0; from_east = d; from_south = 0; from_north = d }

one_counts : (sw se nw ne : Post) (d : ℕ) → 0 < d * d → counted (four sw se nw ne d 0 d 0) ≡ record { post = sw; weight = d * d } ∷ []
one_counts sw se nw ne d p =
    let last = weighing ne (0 * 0) ∷ [] in
    let north_two = weighing nw (d * 0) ∷ last in
    same_next sw sw (d * d) (weighing se (0 * d) ∷ north_two) [] (λ h. refl)
    (left_out se (0 * d) north_two (omega arith) ∙ left_out nw (d * 0) last (omega arith) ∙ left_out ne (0 * 0) [] (omega arith))
    ∙ rw (lt-ltb 0 (d * d) p) refl

pub value_at_post : ValueAtPost
value_at_post posts square level place col row p at =
    let some = some_product place.d place.d p p in
    value_by_mesh posts square level place (spot_of col row place.d) p
    (record { width = omega arith; height = omega arith; longitude = omega (arith, at.longitude); latitude = omega (arith, at.latitude) })
    ∙ ap (λ ones. value_by_counted ones (place.d * place.d))
    (one_counts (posts col row) (posts (col + 1) row) (posts col (row + 1)) (posts (col + 1) (row + 1)) place.d some)
    ∙ alone (posts col row) (place.d * place.d) some

-- ---- each place of a square has a mesh

factor_small : (degrees : ℕ) → (0 < factor_at degrees) × (factor_at degrees ≤ 6)
factor_small degrees =
    elim (nat_lt degrees 50) as (λ a. (0 < cond a 1 (cond (nat_lt degrees 70) 2 (cond (nat_lt degrees 75) 3 (cond (nat_lt degrees 80) 4 6))))
    × (cond a 1 (cond (nat_lt degrees 70) 2 (cond (nat_lt degrees 75) 3 (cond (nat_lt degrees 80) 4 6))) ≤ 6)) [
      | true ↦ (omega arith, omega arith)
      | false ↦ elim (nat_lt degrees 70) as (λ b. (0 < cond b 2 (cond (nat_lt degrees 75) 3 (cond (nat_lt degrees 80) 4 6)))
          × (cond b 2 (cond (nat_lt degrees 75) 3 (cond (nat_lt degrees 80) 4 6)) ≤ 6)) [
            | true ↦ (omega arith, omega arith)
            | false ↦ elim (nat_lt degrees 75) as (λ c. (0 < cond c 3 (cond (nat_lt degrees 80) 4 6)) × (cond c 3 (cond (nat_lt degrees 80) 4 6) ≤ 6)) [
              | true ↦ (omega arith, omega arith)
              | false ↦ elim (nat_lt degrees 80) as (λ d. (0 < cond d 4 6) × (cond d 4 6 ≤ 6)) [
                | true ↦ (omega arith, omega arith)
                | false ↦ (omega arith, omega arith)
              ]
            ]
          ]
    ]

seconds_fit : (level : CellLevel) (factor : ℕ) → 0 < factor → factor ≤ 6 → (0 < lat_step_of level * factor) × (1 * (lat_step_of level * factor) ≤ 3600)
seconds_fit Zero factor h k = (omega arith, omega arith)
seconds_fit One factor h k = (omega arith, omega arith)
seconds_fit Two factor h k = (omega arith, omega arith)

some_columns : (square : Square) (level : CellLevel) → 0 < columns_of square level - 1
some_columns square level =
    let factor = factor_small (degrees_from_equator square.lat) in
    let fit = seconds_fit level (factor_at (degrees_from_equator square.lat)) factor.0 factor.1 in
    let one : 1 ≤ 3600 / lon_step_of square level = le-div 1 3600 (lon_step_of square level) fit.0 fit.1 in
    omega (arith, one)

some_rows : (level : CellLevel) → 0 < rows_of level - 1
some_rows Zero = omega arith
some_rows One = omega arith
some_rows Two = omega arith

-- so many steps lie between two neighbours among meshes + 1 posts
record HasNeighbours (x meshes d : ℕ) : Type 0 where
  before : ℕ
  part : ℕ
  rest : ℕ
  whole : part + rest ≡ d
  steps : x ≡ before * d + part
  behind : before < meshes

has_neighbours : (x meshes d : ℕ) → 0 < d → 0 < meshes → x ≤ d * meshes → HasNeighbours x meshes d
has_neighbours x zero d p some few = absurd (omega (arith, some))
has_neighbours x (suc meshes) d p some few =
    let parts = div-add-mod' x d in
    elim (cases_lt (x / d) (suc meshes)) [
      | inl fine ↦ record { before = x / d; part = x % d; rest = d - x % d; whole = omega (arith, p); steps = sym parts; behind = fine }
      | inr far ↦
          let more : suc meshes * d ≤ x / d * d = mul-le-mul_right d far in
          record { before = meshes; part = d; rest = 0; whole = omega arith; steps = omega (arith, parts, more, few); behind = omega arith }
    ]

pub places_have_meshes : PlacesHaveMeshes
places_have_meshes square level place fit holds =
    let d = place.d in
    let p = fit.positive in
    let east = east_within (180 * place.p) d square.lon holds.turns holds.point_turns p square.lon_in_range holds.longitude in
    let latitude = holds.latitude in
    let above = latitude.above in
    let below = latitude.below in
    let north = north_within (180 * place.q) d square.lat (omega (arith, above)) (omega (arith, below)) in
    let across = has_neighbours (steps_east square level place) (columns_of square level - 1) d p (some_columns square level) (mul-le-mul_right (columns_of square level - 1) east) in
    let along = has_neighbours (steps_north square level place) (rows_of level - 1) d p (some_rows level) (mul-le-mul_right (rows_of level - 1) north) in
    record {
      spot = record {
        col = across.before;
        row = along.before;
        from_west = across.part;
        from_east = across.rest;
        from_south = along.part;
        from_north = along.rest;
      };
      there = record { width = across.whole; height = along.whole; longitude = across.steps; latitude = along.steps };
      columns = omega (arith, across.behind);
      rows = omega (arith, along.behind);
    }

-- ---- the blend

none_void : (posts : List Weighted) → AllByRecursion (λ one. has_no_height one ≡ false) posts → list_any has_no_height (counted posts) ≡ false
none_void [] all = refl
none_void (one ∷ posts) all = elim (nat_lt 0 one.weight) as (λ b. list_any has_no_height (cond b (one ∷ counted posts) (counted posts)) ≡ false) [
  | true ↦ rw (all.0) (none_void posts all.1)
  | false ↦ none_void posts all.1
]

four_weights : (east west north south : ℕ) → (east * north + west * north) + (east * south + west * south) ≡ (west + east) * (south + north)
four_weights east west north south = omega arith

in_a_row : (a b c d : ℤ) → (a +ℤ b) +ℤ (c +ℤ d) ≡ a +ℤ (b +ℤ (c +ℤ (d +ℤ pos 0)))
in_a_row a b c d = omega (arith, ints)

pub value_is_blend : ValueIsBlend
value_is_blend posts square level place spot sw se nw ne p there are =
    let unit = place.d * place.d in
    let heights = four (Metres sw) (Metres se) (Metres nw) (Metres ne) spot.from_east spot.from_west spot.from_north spot.from_south in
    let known_all = none_void heights (refl, (refl, (refl, (refl, tt)))) in
    let sum = sum_by_weights spot sw se nw ne in
    let width = there.width in
    let height = there.height in
    record {
      metres = rounded sum unit;
      value_is =
          value_by_mesh posts square level place spot p there
          ∙ ap (λ ones. value_by_counted ones unit)
          (same_four (posts spot.col spot.row) (posts (spot.col + 1) spot.row) (posts spot.col (spot.row + 1)) (posts (spot.col + 1) (spot.row + 1)) (Metres sw) (Metres se) (Metres nw) (Metres ne)
          spot.from_east spot.from_west spot.from_north spot.from_south are.sw_is are.se_is are.nw_is are.ne_is)
          ∙ sym (average_is heights unit sum known_all
          (in_a_row (sw *ℤ pos (sw_weight spot)) (se *ℤ pos (se_weight spot)) (nw *ℤ pos (nw_weight spot)) (ne *ℤ pos (ne_weight spot))));
      weights = four_weights spot.from_east spot.from_west spot.from_north spot.from_south ∙ (λ i. width i * height i);
      rounded_down = rounds_half_up sum unit (some_product place.d place.d p p);
    }

-- ---- beside a void

later : (b rest : Bool) → rest ≡ true → (b || rest) ≡ true
later true rest e = refl
later false rest e = e

has_gap : (posts : List Weighted) (gap : Weighted) → Contains posts gap → 0 < gap.weight → gap.post ≡ Void → list_any has_no_height (counted posts) ≡ true
has_gap [] gap (k, below, at) counts void = absurd (omega arith)
has_gap (one ∷ posts) gap (zero, below, at) counts void =
    let weight : 0 < one.weight = subst (λ (o : Weighted). 0 < o.weight) (sym at) counts in
    let none : is_void_post one.post ≡ true = ap (λ (o : Weighted). is_void_post o.post) at ∙ ap is_void_post void in
    rw (lt-ltb 0 one.weight weight, none) refl
has_gap (one ∷ posts) gap (suc k, below, at) counts void =
    let rest = has_gap posts gap (k, omega (arith, below), at) counts void in
    elim (nat_lt 0 one.weight) as (λ b. list_any has_no_height (cond b (one ∷ counted posts) (counted posts)) ≡ true) [
      | true ↦ later (has_no_height one) (list_any has_no_height (counted posts)) rest
      | false ↦ rest
    ]

record IsKept (one : Weighted) : Type 0 where
  usable : IsUsable one
  stays_first : (posts : List Weighted) → kept (one ∷ posts) ≡ one ∷ kept posts

record IsDropped (one : Weighted) : Type 0 where
  void : 0 < one.weight → one.post ≡ Void
  goes : (posts : List Weighted) → kept (one ∷ posts) ≡ kept posts

kept_or_dropped : (post : Post) (weight : ℕ) → IsKept (weighing post weight) ⊎ IsDropped (weighing post weight)
kept_or_dropped Void weight = inr (record {
  void = λ h. refl;
  goes = λ posts. elim (nat_lt 0 weight) as (λ b. known (cond b (weighing Void weight ∷ counted posts) (counted posts)) ≡ kept posts) [ true ↦ refl | false ↦ refl ];
})
kept_or_dropped (Metres metres) zero = inr (record { void = λ h. absurd (omega (arith, h)); goes = λ posts. refl })
kept_or_dropped (Metres metres) (suc weight) = inl (record {
  usable = record { counts = omega arith; is_known = λ e. absurd (cc) };
  stays_first = λ posts. rw (lt-ltb 0 (suc weight) (omega arith)) refl;
})

unusable : (one : Weighted) → IsDropped one → IsUsable one → ⊥
unusable one d u = u.is_known (d.void u.counts)

-- ---- the nearest is the heaviest of the kept

kept_all : (P : Weighted → Type 0) (posts : List Weighted) → AllByRecursion (λ one. IsUsable one → P one) posts → AllByRecursion P (kept posts)
kept_all P [] all = tt
kept_all P (one ∷ posts) all = elim (kept_or_dropped one.post one.weight) [
  | inl k ↦ subst (AllByRecursion P) (sym (k.stays_first posts)) (all.0 k.usable, kept_all P posts all.1)
  | inr d ↦ subst (AllByRecursion P) (sym (d.goes posts)) (kept_all P posts all.1)
]

kept_split : (before after : List Weighted) (one : Weighted) → IsUsable one → kept (before ++ one ∷ after) ≡ kept before ++ one ∷ kept after
kept_split [] after one usable = elim (kept_or_dropped one.post one.weight) [
  | inl k ↦ k.stays_first after
  | inr d ↦ absurd (unusable one d usable)
]
kept_split (first ∷ before) after one usable =
    let rest = kept_split before after one usable in
    elim (kept_or_dropped first.post first.weight) [
      | inl k ↦ k.stays_first (before ++ one ∷ after) ∙ ap (λ l. first ∷ l) rest ∙ ap (λ l. l ++ one ∷ kept after) (sym (k.stays_first before))
      | inr d ↦ d.goes (before ++ one ∷ after) ∙ rest ∙ ap (λ l. l ++ one ∷ kept after) (sym (d.goes before))
    ]

nearest_is : (posts : List Weighted) (one : Weighted) → IsNearest posts one → heaviest (kept posts) ≡ one.post
nearest_is posts one n =
    ap (λ l. heaviest (kept l)) n.order
    ∙ ap heaviest (kept_split n.before n.after one n.usable)
    ∙ first_is_heaviest (kept n.before) (kept n.after) one
    (kept_all (λ other. other.weight < one.weight) n.before n.less) (kept_all (λ other. other.weight ≤ one.weight) n.after n.no_more)

none_kept : (posts : List Weighted) → AreVoid posts → kept posts ≡ []
none_kept [] void = refl
none_kept (one ∷ posts) void = elim (kept_or_dropped one.post one.weight) [
  | inl k ↦ let u = k.usable in absurd (u.is_known (void.0 u.counts))
  | inr d ↦ d.goes posts ∙ none_kept posts void.1
]

-- ---- there is a nearest, or all are void

none_usable : (m : ℕ) (posts : List Weighted) → AreVoid posts → AllByRecursion (λ one. IsUsable one → one.weight ≤ m) posts
none_usable m [] void = tt
none_usable m (one ∷ posts) void = (λ u. absurd (u.is_known (void.0 u.counts)), none_usable m posts void.1)

weaker : (m n : ℕ) (posts : List Weighted) → m ≤ n → AllByRecursion (λ one. IsUsable one → one.weight ≤ m) posts → AllByRecursion (λ one. IsUsable one → one.weight ≤ n) posts
weaker m n [] h all = tt
weaker m n (one ∷ posts) h all = (λ u. let w = all.0 u in omega (arith, h, w), weaker m n posts h all.1)

no_heavier : (m : ℕ) (before after : List Weighted) (one : Weighted) → one.weight ≤ m → AllByRecursion (λ other. IsUsable other → other.weight < one.weight) before
    → AllByRecursion (λ other. IsUsable other → other.weight ≤ one.weight) after → AllByRecursion (λ other. IsUsable other → other.weight ≤ m) (before ++ one ∷ after)
no_heavier m [] after one h less more = (λ u. h, weaker one.weight m after h more)
no_heavier m (first ∷ before) after one h less more = (λ u. let w = less.0 u in omega (arith, h, w), no_heavier m before after one h less.1 more)

behind_one : (first : Weighted) (posts : List Weighted) (one : Weighted) → (IsUsable first → first.weight < one.weight) → IsNearest posts one → IsNearest (first ∷ posts) one
behind_one first posts one h n = record {
  before = first ∷ n.before;
  after = n.after;
  order = ap (λ l. first ∷ l) n.order;
  usable = n.usable;
  less = (h, n.less);
  no_more = n.no_more;
}

in_front : (first : Weighted) (posts : List Weighted) → IsUsable first → AllByRecursion (λ other. IsUsable other → other.weight ≤ first.weight) posts → IsNearest (first ∷ posts) first
in_front first posts usable all = record { before = []; after = posts; order = refl; usable = usable; less = tt; no_more = all }

lighter_behind : (first : Weighted) (posts : List Weighted) (one : Weighted) → one.weight ≤ first.weight → IsNearest posts one
    → AllByRecursion (λ other. IsUsable other → other.weight ≤ first.weight) posts
lighter_behind first posts one h n = subst (AllByRecursion (λ other. IsUsable other → other.weight ≤ first.weight)) (sym n.order) (no_heavier first.weight n.before n.after one h n.less n.no_more)

abbrev HasNearest : List Weighted → Type 0
HasNearest posts = ((one : Weighted) × IsNearest posts one) ⊎ AreVoid posts

nearest_next : (first : Weighted) (posts : List Weighted) → HasNearest posts → HasNearest (first ∷ posts)
nearest_next first posts (inl (one, n)) = elim (kept_or_dropped first.post first.weight) [
  | inl k ↦ elim (cases_lt first.weight one.weight) [
    | inl less ↦ inl (one, behind_one first posts one (λ u. less) n)
    | inr fine ↦ inl (first, in_front first posts k.usable (lighter_behind first posts one fine n))
  ]
  | inr d ↦ inl (one, behind_one first posts one (λ u. absurd (unusable first d u)) n)
]
nearest_next first posts (inr void) = elim (kept_or_dropped first.post first.weight) [
  | inl k ↦ inl (first, in_front first posts k.usable (none_usable first.weight posts void))
  | inr d ↦ inr (d.void, void)
]

has_nearest : (posts : List Weighted) → HasNearest posts
has_nearest [] = inr tt
has_nearest (first ∷ posts) = nearest_next first posts (has_nearest posts)

abbrev IsNearestOrVoid : List Weighted → Post → Type 0
IsNearestOrVoid posts value = ((one : Weighted) × IsNearest posts one × (value ≡ one.post)) ⊎ (AreVoid posts × (value ≡ Void))

nearest_or_void : (posts : List Weighted) (value : Post) → value ≡ heaviest (kept posts) → HasNearest posts → IsNearestOrVoid posts value
nearest_or_void posts value is (inl (one, n)) = inl (one, n, is ∙ nearest_is posts one n)
nearest_or_void posts value is (inr void) = inr (void, is ∙ ap heaviest (none_kept posts void))

by_heaviest : (posts : List Weighted) (unit : ℕ) → list_any has_no_height posts ≡ true → value_by_counted posts unit ≡ heaviest (known posts)
by_heaviest posts unit some = rw some refl

pub value_beside_void : ValueBesideVoid
value_beside_void posts square level place spot gap p there has counts void =
    nearest_or_void (corners posts spot) (value_in_cell posts square level place)
    (value_by_mesh posts square level place spot p there ∙ by_heaviest (counted (corners posts spot)) (place.d * place.d) (has_gap (corners posts spot) gap has counts void))
    (has_nearest (corners posts spot))

-- ---- between the least and the greatest

abbrev weight_of_all : List Weighted → ℕ
weight_of_all [] = 0
weight_of_all (one ∷ posts) = one.weight + weight_of_all posts

record IsSumBetween (least greatest : ℤ) (weight : ℕ) (sum : ℤ) : Type 0 where
  low : (least *ℤ pos weight) ≤ℤ sum
  high : sum ≤ℤ (greatest *ℤ pos weight)

sum_next : (least greatest : ℤ) (post : Post) (weight rest : ℕ) (sum : ℤ) → (0 < weight → IsBetween least greatest post) → (0 < weight → post ≢ Void)
    → IsSumBetween least greatest rest sum → IsSumBetween least greatest (weight + rest) (times post weight +ℤ sum)
sum_next least greatest Void zero rest sum between is_known h = record { low = omega (arith, ints, h.low); high = omega (arith, ints, h.high) }
sum_next least greatest Void (suc weight) rest sum between is_known h = absurd (is_known (omega arith) refl)
sum_next least greatest (Metres metres) zero rest sum between is_known h = record { low = omega (arith, ints, h.low); high = omega (arith, ints, h.high) }
sum_next least greatest (Metres metres) (suc weight) rest sum between is_known h =
    let here = between (omega arith) in
    record {
      low = omega (arith, ints, h.low, mul_mono (suc weight) least metres here.0);
      high = omega (arith, ints, h.high, mul_mono (suc weight) metres greatest here.1);
    }

none_here : (post : Post) (weight : ℕ) (posts : List Weighted) → list_any has_no_height (counted (weighing post weight ∷ posts)) ≡ false
    → (0 < weight → post ≢ Void) × (list_any has_no_height (counted posts) ≡ false)
none_here post zero posts none = (λ h. absurd (omega (arith, h)), none)
none_here Void (suc weight) posts none =
    let some : true ≡ false = rw (lt-ltb 0 (suc weight) (omega arith)) at none in
    absurd (cc)
none_here (Metres metres) (suc weight) posts none = (λ h e. absurd (cc), rw (lt-ltb 0 (suc weight) (omega arith)) at none)

sum_between : (least greatest : ℤ) (posts : List Weighted) → AllByRecursion (λ one. 0 < one.weight → IsBetween least greatest one.post) posts → list_any has_no_height (counted posts) ≡ false
    → IsSumBetween least greatest (weight_of_all posts) (weighted_sum posts)
sum_between least greatest [] all none = record { low = omega (arith, ints); high = omega (arith, ints) }
sum_between least greatest (one ∷ posts) all none =
    let here = none_here one.post one.weight posts none in
    sum_next least greatest one.post one.weight (weight_of_all posts) (weighted_sum posts) all.0 here.0 (sum_between least greatest posts all.1 here.1)

rounded_between : (least greatest sum metres : ℤ) (unit : ℕ) → 0 < unit → IsSumBetween least greatest unit sum → IsFloor ((sum *ℤ pos 2) +ℤ pos unit) (pos (2 * unit)) metres
    → (least ≤ℤ metres) × (metres ≤ℤ greatest)
rounded_between least greatest sum metres unit p between floor = (
  by_lt_z metres least
      (λ less. absurd (omega (arith, ints, p, apart (2 * unit) metres least less, floor.high, between.low)))
      (λ fine. fine),
  by_lt_z greatest metres
      (λ less. absurd (omega (arith, ints, p, apart (2 * unit) greatest metres less, floor.low, between.high)))
      (λ fine. fine),
)

all_at : (P : Weighted → Type 0) (before after : List Weighted) (one : Weighted) → AllByRecursion P (before ++ one ∷ after) → P one
all_at P [] after one all = all.0
all_at P (first ∷ before) after one all = all_at P before after one all.1

nearest_between : (least greatest : ℤ) (posts : List Weighted) (value : Post) → AllByRecursion (λ one. 0 < one.weight → IsBetween least greatest one.post) posts
    → IsNearestOrVoid posts value → IsBetween least greatest value
nearest_between least greatest posts value all (inl (one, n, is)) =
    let u = n.usable in
    let here = all_at (λ other. 0 < other.weight → IsBetween least greatest other.post) n.before n.after one (subst (AllByRecursion (λ other. 0 < other.weight → IsBetween least greatest other.post)) n.order all) in
    subst (IsBetween least greatest) (sym is) (here u.counts)
nearest_between least greatest posts value all (inr (void, is)) = subst (IsBetween least greatest) (sym is) tt

value_between : (least greatest : ℤ) (posts : List Weighted) (unit : ℕ) → 0 < unit → weight_of_all posts ≡ unit → AllByRecursion (λ one. 0 < one.weight → IsBetween least greatest one.post) posts
    → IsBetween least greatest (value_by_counted (counted posts) unit)
value_between least greatest posts unit p whole all = elim (list_any has_no_height (counted posts)) as
    (λ b. list_any has_no_height (counted posts) ≡ b → IsBetween least greatest (cond b (heaviest (kept posts)) (Metres (rounded (weighted_sum (counted posts)) unit)))) [
      | true ↦ λ some. nearest_between least greatest posts (heaviest (kept posts)) all (nearest_or_void posts (heaviest (kept posts)) refl (has_nearest posts))
      | false ↦ λ none.
          let sum = subst (λ w. IsSumBetween least greatest w (weighted_sum posts)) whole (sum_between least greatest posts all none) in
          rounded_between least greatest (weighted_sum (counted posts)) (rounded (weighted_sum (counted posts)) unit) unit p
          (subst (IsSumBetween least greatest unit) (sym (sum_counted posts)) sum) (rounds_half_up (weighted_sum (counted posts)) unit p)
    ] refl

weights_in_a_row : (a b c d : ℕ) → a + (b + (c + (d + 0))) ≡ (a + b) + (c + d)
weights_in_a_row a b c d = omega arith

pub value_is_between : ValueIsBetween
value_is_between posts square level place spot least greatest p there all =
    let width = there.width in
    let height = there.height in
    let whole : weight_of_all (corners posts spot) ≡ place.d * place.d =
    weights_in_a_row (sw_weight spot) (se_weight spot) (nw_weight spot) (ne_weight spot)
    ∙ four_weights spot.from_east spot.from_west spot.from_north spot.from_south ∙ (λ i. width i * height i) in
    subst (IsBetween least greatest) (sym (value_by_mesh posts square level place spot p there))
    (value_between least greatest (corners posts spot) (place.d * place.d) (some_product place.d place.d p p) whole all)
