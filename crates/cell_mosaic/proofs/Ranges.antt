-- Values in cells are void or heights, where the posts of all cells are.
use Rattle.std.proofs.Common.{◌≡◌, ℕ, zero, suc, ◌+◌, ◌-◌, ◌*◌, ◌/◌, ◌%◌, ◌<◌, ◌≤◌, ◌==◌, arith, Bool, true, false, ◌||◌, refl, sym, subst, List, [], ◌∷◌, map, take, drop, Option, Some, None, nat_eq, inl, inr, cond}
use Rattle.std.specs.Prelude.{ℤ, pos, ◌+ℤ◌, ◌*ℤ◌, slice_index}
use Rattle.std.specs.FinMap.{get}
use Rattle.std.specs.List.{list_any, find}
use Rattle.std.proofs.lemmas.Int.{ints}
use Rattle.std.proofs.lemmas.Nat.{div-add-mod'}
use Rattle.std.proofs.lemmas.Bool.{cases_lt}
use Rattle.std.proofs.lemmas.Bool.Decides.{nat_tests}
use Rattle.std.proofs.Math.Nat.{mul-le-mul, mul-le-mul_right}
use Rattle.terrain_base.specs.declared.square.Square.{Square}
use Rattle.terrain_base.specs.declared.level.CellLevel.{CellLevel}
use Rattle.terrain_base.specs.declared.cell_key.CellKey.{CellKey}
use Rattle.terrain_base.specs.CellKey.{key_at, all_levels}
use Rattle.terrain_base.specs.declared.post.Post.{Post}
use Rattle.terrain_base.specs.declared.post.Post.TheVariants.{Void, Metres}
use Rattle.terrain_base.specs.Level.{rows_of, columns_of}
use Rattle.terrain_base.proofs.Quotients.{floor_is}
use Rattle.tms_tree.specs.declared.place.Place.{Place}
use Rattle.tms_tree.specs.Degrees.{RectangleHolds, square_rectangle}
use Rattle.tms_tree.specs.Place.{IsPlace, point_of}
use Rattle.dted_cell.specs.Cell.{columns_in, rows_in, level_in, post_in, profile_in}
use Rattle.dted_cell.specs.Field.{word_at}
use Rattle.dted_cell.specs.Lead.{lead_of, text_behind_lead}
use Rattle.dted_cell.specs.Record.{elevation_at}
use Rattle.cell_mosaic.specs.declared.quad.Quad.{Quad}
use Rattle.cell_mosaic.specs.declared.weighted.Weighted.{Weighted}
use Rattle.cell_mosaic.specs.Blend.{weighted, times, weighted_sum, counted, known, heaviest, rounded, has_no_height, value_of, blend_of, IsWithinWeight}
use Rattle.dted_cell.specs.Elevation.{IsPost}
use Rattle.cell_mosaic.specs.Cells.{Cells, AreSound, IsSoundCell}
use Rattle.cell_mosaic.specs.Value.{ArePosts, east_of, north_of, steps_east, steps_north, quad_at, unless_ignored, value_in_cell, value_or_void, value_in_key, is_known, known_or_void, value_at}
use Rattle.cell_mosaic.proofs.Heaviest as heaviest
use Rattle.cell_mosaic.proofs.Heaviest.{heaviest_is_post}
use Rattle.cell_mosaic.proofs.Heights.{post_is_height}
use Rattle.cell_mosaic.proofs.Sums.{scaled_within, sum_counted, sum_within, rounded_height}
use Rattle.cell_mosaic.proofs.Values.{east_within}

-- ---- the blend
times_within : (post : Post) (weight : ℕ) → IsPost post → IsWithinWeight weight (times post weight)
times_within Void weight h = record { above = omega (arith, ints); below = omega (arith, ints) }
times_within (Metres metres) weight h = scaled_within metres weight h

rounded_is : (s : ℤ) (u : ℕ) → 0 < u → IsWithinWeight u s → IsPost (Metres (rounded s u))
rounded_is s u p w = rounded_height s u (rounded s u) p (floor_is ((s *ℤ pos 2) +ℤ pos u) (pos (2 * u)) (omega (arith, ints, p))) w

value_is_post : (posts : List Weighted) (unit : ℕ) → heaviest.ArePosts posts → 0 < unit → IsWithinWeight unit (weighted_sum posts) → IsPost (value_of posts unit)
value_is_post posts unit are p w = elim (list_any has_no_height (counted posts)) as (λ b. IsPost (cond b (heaviest (known (counted posts))) (Metres (rounded (weighted_sum (counted posts)) unit)))) [
  | true ↦ heaviest_is_post posts are
  | false ↦ rounded_is (weighted_sum (counted posts)) unit p (subst (IsWithinWeight unit) (sym (sum_counted posts)) w)
]

pub some_product : (m n : ℕ) → 0 < m → 0 < n → 0 < m * n
some_product m n p q = let one : 1 * 1 ≤ m * n = mul-le-mul p q in omega (arith, one)

pub blend_is_post : (quad : Quad) (east east_unit north north_unit : ℕ) → ArePosts quad → east ≤ east_unit → north ≤ north_unit → 0 < east_unit → 0 < north_unit
    → IsPost (blend_of quad east east_unit north north_unit)
unfolding blend_of
blend_is_post quad e eu n nu h p q s t =
    value_is_post (weighted quad e eu n nu) (eu * nu) (h.sw, (h.se, (h.nw, (h.ne, tt)))) (some_product eu nu s t)
    (sum_within e eu n nu (times quad.sw ((eu - e) * (nu - n))) (times quad.se (e * (nu - n))) (times quad.nw ((eu - e) * n)) (times quad.ne (e * n)) p q
    (times_within quad.sw _ h.sw) (times_within quad.se _ h.se) (times_within quad.nw _ h.nw) (times_within quad.ne _ h.ne))

-- ---- places of posts
record IsSpot (steps d count : ℕ) : Type 0 where
  here : steps / d < suc count
  next : (steps % d ≡ 0 → ⊥) → steps / d + 1 < suc count

is_spot : (units count d : ℕ) → 0 < d → units ≤ d → IsSpot (units * count) d count
is_spot units count d p h =
    let s = units * count in
    let few : s ≤ d * count = mul-le-mul_right count h in
    let whole : s / d * d + s % d ≡ s = div-add-mod' s d in
    record {
      here = elim (cases_lt (s / d) (suc count)) [
        | inl fine ↦ fine
        | inr far ↦ absurd (
            let more : suc count * d ≤ s / d * d = mul-le-mul_right d far in
            omega (arith, few, whole, more, p))
      ];
      next = λ some. elim (cases_lt (s / d + 1) (suc count)) [
        | inl fine ↦ fine
        | inr far ↦ absurd (
            let near : count ≤ s / d = omega (arith, far) in
            let more : count * d ≤ s / d * d = mul-le-mul_right d near in
            some (omega (arith, few, whole, more)))
      ];
    }

-- ---- posts of a cell
abbrev HasPosts : (ℕ → ℕ → Post) → ℕ → ℕ → Type 0
HasPosts posts columns rows = (col row : ℕ) → col < suc columns → row < suc rows → IsPost (posts col row)

ignored : (b : Bool) (post : Post) → (b ≡ false → IsPost post) → IsPost (unless_ignored b post)
ignored true post h = tt
ignored false post h = h refl

neither : (a b : Bool) → (a || b) ≡ false → (a ≡ false) × (b ≡ false)
neither true b e = absurd (let z = e in cc)
neither false b e = (refl, e)

not_zero : (n : ℕ) → nat_eq n 0 ≡ false → n ≡ 0 → ⊥
not_zero n e f = grind (arith, nat_tests)

quad_is : (posts : ℕ → ℕ → Post) (east north d columns rows : ℕ) → HasPosts posts columns rows → IsSpot east d columns → IsSpot north d rows → ArePosts (quad_at posts east north d)
quad_is posts east north d columns rows h e n = record {
  sw = h (east / d) (north / d) e.here n.here;
  se = ignored (east % d == 0) _ (λ x. h (east / d + 1) (north / d) (e.next (not_zero (east % d) x)) n.here);
  nw = ignored (north % d == 0) _ (λ y. h (east / d) (north / d + 1) e.here (n.next (not_zero (north % d) y)));
  ne = ignored ((east % d == 0) || (north % d == 0)) _ (λ z.
      let b = neither (east % d == 0) (north % d == 0) z in
      h (east / d + 1) (north / d + 1) (e.next (not_zero (east % d) b.0)) (n.next (not_zero (north % d) b.1)));
}

below : (n d : ℕ) → 0 < d → n % d < d
below n d p = omega (arith, p)

pub north_within : (q d lat : ℕ) → lat * d ≤ q → q ≤ (lat + 1) * d → q - lat * d ≤ d
north_within q d lat h k = omega (arith, h, k)

pub value_in_cell_is : (posts : ℕ → ℕ → Post) (square : Square) (level : CellLevel) (place : Place) → IsPlace place → RectangleHolds (square_rectangle square) (point_of place)
    → ((col row : ℕ) → col < columns_of square level → row < rows_of level → IsPost (posts col row)) → IsPost (value_in_cell posts square level place)
unfolding value_in_cell
value_in_cell_is posts square level place fit holds all =
    let d = place.d in
    let cs = columns_of square level - 1 in
    let rs = rows_of level - 1 in
    let has : HasPosts posts cs rs = λ col row a b. all col row (omega (arith, a)) (omega (arith, b)) in
    let east = is_spot (east_of square place) cs d fit.positive (east_within (180 * place.p) d square.lon holds.turns holds.point_turns fit.positive square.lon_in_range holds.longitude) in
    let north = is_spot (north_of square place) rs d fit.positive
    (let w = holds.latitude in let a = w.above in let b = w.below in north_within (180 * place.q) d square.lat (omega (arith, a)) (omega (arith, b))) in
    blend_is_post (quad_at posts (steps_east square level place) (steps_north square level place) d) (steps_east square level place % d) d (steps_north square level place % d) d
    (quad_is posts (steps_east square level place) (steps_north square level place) d cs rs has east north)
    (let l = below (steps_east square level place) d fit.positive in omega (arith, l)) (let l = below (steps_north square level place) d fit.positive in omega (arith, l))
    fit.positive fit.positive

-- ---- the posts of sound cells
abbrev AreBytes : List ℕ → Type 0
AreBytes bytes = (k : ℕ) → slice_index bytes k < 256

rest_of : (b : ℕ) (bytes : List ℕ) → AreBytes (b ∷ bytes) → AreBytes bytes
rest_of b bytes h k = h (suc k)

dropped : (n : ℕ) (bytes : List ℕ) → AreBytes bytes → AreBytes (drop n bytes)
dropped zero bytes h = h
dropped (suc n) [] h = h
dropped (suc n) (b ∷ bytes) h = dropped n bytes (rest_of b bytes h)

taken : (n : ℕ) (bytes : List ℕ) → AreBytes bytes → AreBytes (take n bytes)
taken zero bytes h k = omega arith
taken (suc n) [] h k = omega arith
taken (suc n) (b ∷ bytes) h zero = h 0
taken (suc n) (b ∷ bytes) h (suc k) = taken n bytes (rest_of b bytes h) k

word_small : (bytes : List ℕ) (at : ℕ) → AreBytes bytes → word_at bytes at < 65536
word_small bytes at h =
    let a = h at in
    let b = h (at + 1) in
    omega (arith, a, b)

profile_bytes : (bytes : List ℕ) (col : ℕ) → AreBytes bytes → AreBytes (profile_in bytes col)
unfolding profile_in text_behind_lead
profile_bytes bytes col h =
    let rows = rows_in bytes in
    let from = elevation_at rows col 0 in
    taken (elevation_at rows col rows - from) (drop from (text_behind_lead bytes)) (dropped from (text_behind_lead bytes) (dropped (lead_of bytes) bytes h))

post_is : (key : CellKey) (bytes : List ℕ) (col row : ℕ) → IsSoundCell key bytes → col < columns_of key.square (level_in bytes) → row < rows_of (level_in bytes) → IsPost (post_in bytes col row)
unfolding columns_in rows_in
post_is key bytes col row sound h k =
    post_is_height bytes col row (word_at (profile_in bytes col) (2 * row)) sound.cell.accepted
    (subst (λ (s : Square). col < columns_of s (level_in bytes)) (sym sound.cell.square) h) k (word_small (profile_in bytes col) (2 * row) (profile_bytes bytes col sound.each)) refl

value_in : (o : Option (List ℕ)) (key : CellKey) (place : Place) → IsPlace place → RectangleHolds (square_rectangle key.square) (point_of place)
    → ((bytes : List ℕ) → o ≡ Some bytes → IsSoundCell key bytes) → IsPost (value_or_void o key.square place)
value_in None key place fit holds all = tt
value_in (Some bytes) key place fit holds all =
    value_in_cell_is (post_in bytes) key.square (level_in bytes) place fit holds (λ col row h k. post_is key bytes col row (all bytes refl) h k)

one_in_front : (post : Post) (posts : List Post) → IsPost post → IsPost (known_or_void (find is_known posts)) → IsPost (known_or_void (find is_known (post ∷ posts)))
one_in_front Void posts here rest = rest
one_in_front (Metres metres) posts here rest = here

first_is : (cells : Cells) (square : Square) (place : Place) → ((key : CellKey) → key.square ≡ square → IsPost (value_in_key cells key place)) → (levels : List CellLevel)
    → IsPost (known_or_void (find is_known (map (λ level. value_in_key cells (key_at square level) place) levels)))
first_is cells square place each [] = tt
first_is cells square place each (level ∷ levels) = one_in_front (value_in_key cells (key_at square level) place) (map (λ l. value_in_key cells (key_at square l) place) levels) (each (key_at square level) refl) (first_is cells square place each levels)

-- the law
pub values_are_posts : (cells : Cells) (square : Square) (place : Place) → AreSound cells → IsPlace place → RectangleHolds (square_rectangle square) (point_of place) → IsPost (value_at cells square place)
unfolding value_at
values_are_posts cells square place sound fit holds =
    first_is cells square place (λ key same. value_in (get cells key) key place fit (subst (λ s. RectangleHolds (square_rectangle s) (point_of place)) (sym same) holds) (sound key)) all_levels
