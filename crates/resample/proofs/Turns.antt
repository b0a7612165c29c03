-- A whole turn of longitude changes no height.
use Rattle.std.proofs.Common.{◌≡◌, ℕ, ◌+◌, ◌-◌, ◌*◌, ◌/◌, ◌%◌, ◌<◌, ◌≤◌, ◌==◌, ℤ, Bool, true, ◌&&◌, nat_lt, List, [], ◌∷◌, ◌++◌, map, Option, Some, None, inl, inr, refl, sym, ap, ◌∙◌, arith}
use Rattle.std.specs.Prelude.{if◌then◌else◌}
use Rattle.std.specs.List.{filter, find}
use Rattle.std.specs.FinMap.{get}
use Rattle.std.proofs.lemmas.Bool.{cases_order}
use Rattle.std.proofs.Math.Nat.{add-mod_left, mod-eq_of_lt, mul-mod_left, mul-div_cancel, mod_self, zero-div, zero-mod}
use Rattle.terrain_base.specs.declared.square.Square.{Square}
use Rattle.terrain_base.specs.declared.level.CellLevel.{CellLevel}
use Rattle.terrain_base.specs.declared.post.Post.{Post}
use Rattle.terrain_base.specs.Level.{rows_of, columns_of}
use Rattle.terrain_base.proofs.SquareTexts.{same_square}
use Rattle.tms_tree.specs.declared.place.Place.{Place}
use Rattle.tms_tree.specs.Place.{IsPlace, SamePlace}
use Rattle.dted_cell.specs.Header.{square_of}
use Rattle.dted_cell.specs.Cell.{level_in, post_in}
use Rattle.terrain_base.specs.CellKey.{key_at, all_levels}
use Rattle.cell_mosaic.specs.Cells.{Cells, has_cell}
use Rattle.cell_mosaic.specs.Blend.{blend_of}
use Rattle.cell_mosaic.specs.Candidates.{candidates_of, where_it_is}
use Rattle.cell_mosaic.specs.Value.{east_of, north_of, quad_at, value_in_cell, value_or_void, is_known, known_or_void, value_at}
use Rattle.resample.specs.Height.{first_height, height_at}
use Rattle.resample.specs.HeightLaws.{TurnChangesNothing}

-- the candidates by whole degrees
abbrev pub listed : ℕ → ℕ → Bool → Bool → List Square
listed lon lat meridian parallel =
    where_it_is (nat_lt lat 180) lon lat
    ++ where_it_is (meridian && nat_lt lat 180) (lon + 359) lat
    ++ where_it_is (parallel && nat_lt 0 lat) lon (lat - 1)
    ++ where_it_is ((meridian && parallel) && nat_lt 0 lat) (lon + 359) (lat - 1)

pub by_degrees : (place : Place) → candidates_of place ≡ listed (180 * place.p / place.d) (180 * place.q / place.d) (180 * place.p % place.d == 0) (180 * place.q % place.d == 0)
unfolding candidates_of
by_degrees place = refl

turned_square : (lon lat : ℕ) → square_of lon lat ≡ square_of (lon + 360) lat
unfolding square_of
turned_square lon lat = same_square _ _ refl (omega arith)

part : Bool → Square → List Square
part is square = if is then square ∷ [] else []

turned_list : (lat : ℕ) (m l : Bool) → listed 0 lat m l ≡ listed 360 lat m l
unfolding part
turned_list lat m l = λ i.
    part (nat_lt lat 180) (turned_square 0 lat i)
    ++ part (m && nat_lt lat 180) (turned_square 359 lat i)
    ++ part (l && nat_lt 0 lat) (turned_square 0 (lat - 1) i)
    ++ part ((m && l) && nat_lt 0 lat) (turned_square 359 (lat - 1) i)

abbrev pub at : ℕ → ℕ → ℕ → Place
at p q d = record { p = p; q = q; d = d }

-- the meridian 180, from its two sides
same_list : (q d : ℕ) → 0 < d → candidates_of (at 0 q d) ≡ candidates_of (at (2 * d) q d)
same_list q d p =
    let twice : 180 * (2 * d) ≡ 360 * d = omega arith in
    let none : 0 / d ≡ 0 = zero-div d in
    let all : 180 * (2 * d) / d ≡ 360 = ap (λ (n : ℕ). n / d) twice ∙ mul-div_cancel 360 p in
    let whole : 0 % d ≡ 0 = zero-mod d in
    let whole' : 180 * (2 * d) % d ≡ 0 = ap (λ (n : ℕ). n % d) twice ∙ mul-mod_left 360 d in
    by_degrees (at 0 q d)
    ∙ (λ i. listed (none i) (180 * q / d) (whole i == 0) (180 * q % d == 0))
    ∙ turned_list (180 * q / d) true (180 * q % d == 0)
    ∙ sym (by_degrees (at (2 * d) q d) ∙ (λ i. listed (all i) (180 * q / d) (whole' i == 0) (180 * q % d == 0)))

same_east : (q d : ℕ) (square : Square) → east_of square (at 0 q d) ≡ east_of square (at (2 * d) q d)
same_east q d square =
    let twice : 180 * (2 * d) ≡ 360 * d = omega arith in
    let none : 0 + (360 - square.lon) * d ≡ (360 - square.lon) * d = omega arith in
    ap (λ (n : ℕ). n % (360 * d)) none
    ∙ sym (ap (λ (n : ℕ). (n + (360 - square.lon) * d) % (360 * d)) twice ∙ add-mod_left (360 * d) ((360 - square.lon) * d))

same_in_cell : (posts : ℕ → ℕ → Post) (square : Square) (level : CellLevel) (q d : ℕ) → value_in_cell posts square level (at 0 q d) ≡ value_in_cell posts square level (at (2 * d) q d)
unfolding value_in_cell
same_in_cell posts square level q d =
    ap (λ (e : ℕ).
    let east = e * (columns_of square level - 1) in
    let north = north_of square (at 0 q d) * (rows_of level - 1) in
    blend_of (quad_at posts east north d) (east % d) d (north % d) d)
    (same_east q d square)

same_value : (o : Option (List ℕ)) (square : Square) (q d : ℕ) → value_or_void o square (at 0 q d) ≡ value_or_void o square (at (2 * d) q d)
same_value None square q d = refl
same_value (Some bytes) square q d = same_in_cell (post_in bytes) square (level_in bytes) q d

same_at : (cells : Cells) (square : Square) (q d : ℕ) → value_at cells square (at 0 q d) ≡ value_at cells square (at (2 * d) q d)
unfolding value_at
same_at cells square q d = λ i. known_or_void (find is_known (map (λ level. same_value (get cells (key_at square level)) square q d i) all_levels))

turned : (fill : ℤ) (cells : Cells) (q d : ℕ) → 0 < d → height_at fill cells (at 0 q d) ≡ height_at fill cells (at (2 * d) q d)
unfolding height_at
turned fill cells q d p = λ i. first_height fill (map (λ square. same_at cells square q d i) (filter (has_cell cells) (same_list q d p i)))

same_place : (a b : Place) → a.p ≡ b.p → a.q ≡ b.q → a.d ≡ b.d → a ≡ b
same_place a b p q d = λ i. record { p = p i; q = q i; d = d i }

-- two longitudes of one turn that are the same but for a whole turn
ends : (p r m : ℕ) → p < r → r ≤ m → p % m ≡ r % m → (p ≡ 0) × (r ≡ m)
ends p r m less most same = elim (cases_order r m) [
  | inl e ↦ (sym (mod-eq_of_lt (omega arith)) ∙ same ∙ ap (λ (n : ℕ). n % m) e ∙ mod_self m, e)
  | inr s ↦ elim s [
    | inl below ↦ absurd (let e = sym (mod-eq_of_lt {n = p} {m = m} (omega arith)) ∙ same ∙ mod-eq_of_lt below in omega arith)
    | inr above ↦ absurd (omega arith)
  ]
]

far : (fill : ℤ) (cells : Cells) (a b : Place) → IsPlace a → IsPlace b → SamePlace a b → a.p < b.p → height_at fill cells a ≡ height_at fill cells b
far fill cells a b fa fb same less =
    let turn = ap (λ (d : ℕ). b.p % (2 * d)) same.units in
    let both = ends a.p b.p (2 * a.d) less (let t = fb.turn in let u = same.units in omega arith) (same.longitude ∙ sym turn) in
    ap (height_at fill cells) (same_place a (at 0 a.q a.d) both.0 refl refl)
    ∙ turned fill cells a.q a.d fa.positive
    ∙ ap (height_at fill cells) (same_place (at (2 * a.d) a.q a.d) b (sym both.1) same.latitude same.units)

back : (a b : Place) → SamePlace a b → SamePlace b a
back a b same = record { units = sym same.units; latitude = sym same.latitude; longitude = sym same.longitude }

pub turn_changes_nothing : TurnChangesNothing
turn_changes_nothing fill cells a b fa fb same = elim (cases_order a.p b.p) [
  | inl e ↦ ap (height_at fill cells) (same_place a b e same.latitude same.units)
  | inr s ↦ elim s [
    | inl less ↦ far fill cells a b fa fb same less
    | inr more ↦ sym (far fill cells b a fb fa (back a b same) more)
  ]
]
