-- The tests of existence are the relation, and see the cells alone that touch.
use Rattle.std.specs.Prelude.{◌≡◌, ℕ, ◌+◌, ◌*◌, ◌^◌, ◌<◌, ◌==◌, nat_le, nat_lt, ◌↔◌, Bool, true, false, ◌||◌, IsTrue, List, ◌∷◌, ◌++◌, get_or}
use Rattle.std.specs.List.{list_any, Contains}
use Rattle.std.proofs.Common.{arith, inl, inr, ap, refl, sym, ◌∙◌}
use Rattle.std.proofs.lemmas.Bool.{and_parts, and_from, and_left, or_cases, or_left, or_right, or_from, leb-true, le-leb, lt-leb, lt-ltb, ltb-true, eqb-true, eq-eqb, ne_eqb, false_from_ne_true, both_ways}
use Rattle.std.proofs.lemmas.List.Folds.{Any-from_list_any, list_any_at, list_any_none, list_any-append}
use Rattle.common_laws.proofs.Booleans.{same_from_both}
use Rattle.terrain_base.specs.declared.summary.Summary.{Summary}
use Rattle.terrain_base.specs.declared.square.Square.{Square}
use Rattle.terrain_base.specs.declared.tile.TileId.{TileId}
use Rattle.tms_tree.specs.Touch.{crosses_at, meets_at, wraps_at, overlaps_of, touches_of}
use Rattle.tms_tree.proofs.Overlapping.{overlaps_law}
use Rattle.availability.specs.Existence.{reach_of, Makes, Exists, makes_of, exists_of, is_tile, makes_at, exists_at, HasNear}

-- ---- the test is the relation

makes_to : (cap : ℕ) (tile : TileId) (cell : Summary) → makes_of cap tile cell ≡ true → Makes cap tile cell
makes_to cap tile cell h =
    let both = and_parts (nat_le tile.z (reach_of cap cell)) (overlaps_of tile cell.square) h in
    record { deep = leb-true _ _ both.0; overlaps = (overlaps_law tile cell.square).0 both.1 }

makes_from : (cap : ℕ) (tile : TileId) (cell : Summary) → Makes cap tile cell → makes_of cap tile cell ≡ true
makes_from cap tile cell h = and_from _ _ (le-leb _ _ h.deep) ((overlaps_law tile cell.square).1 h.overlaps)

exists_to : (cap : ℕ) (cells : List Summary) (tile : TileId) → exists_of cap cells tile ≡ true → Exists cap cells tile
unfolding exists_of
exists_to cap cells tile h =
    elim (or_cases (tile.z == 0) (list_any (makes_of cap tile) cells) h) [
      | inl e ↦ inl (eqb-true _ _ e)
      | inr e ↦
          let one = Any-from_list_any (makes_of cap tile) cells e in
          inr (one.1, (one.0, one.2, one.3), makes_to cap tile one.1 one.4)
    ]

pub any_from : {X : Type 0} (p : X → Bool) (xs : List X) (x : X) → Contains xs x → p x ≡ true → list_any p xs ≡ true
any_from p xs x h e = list_any_at p xs h.0 x h.1 (ap p h.2 ∙ e)

exists_from : (cap : ℕ) (cells : List Summary) (tile : TileId) → Exists cap cells tile → exists_of cap cells tile ≡ true
unfolding exists_of
exists_from cap cells tile (inl e) = or_left _ _ (eq-eqb _ _ e)
exists_from cap cells tile (inr h) = or_right (tile.z == 0) _ (any_from (makes_of cap tile) cells h.0 h.1 (makes_from cap tile h.0 h.2))

pub exists_law : (cap : ℕ) (cells : List Summary) (tile : TileId) → IsTrue (exists_of cap cells tile) ↔ Exists cap cells tile
exists_law cap cells tile = (exists_to cap cells tile, exists_from cap cells tile)

-- ---- above the cap

pub above_cap : (cap : ℕ) (cells : List Summary) (tile : TileId) → cap < tile.z → exists_of cap cells tile ≡ false
unfolding exists_of
above_cap cap cells tile h =
    or_from (tile.z == 0) _ (ne_eqb tile.z 0 (λ e. omega arith))
    (list_any_none (makes_of cap tile) cells (λ k d in_range. and_left _ _ (lt-leb tile.z (reach_of cap (get_or cells k d)) (omega arith))))

-- ---- what overlaps touches

meets_since : (z stripe degree : ℕ) → crosses_at z stripe degree ≡ true → meets_at z stripe degree ≡ true
meets_since z stripe degree h =
    let both = and_parts (nat_lt (180 * stripe) ((degree + 1) * 2 ^ z)) (nat_lt (degree * 2 ^ z) (180 * (stripe + 1))) h in
    let low = ltb-true (180 * stripe) ((degree + 1) * 2 ^ z) both.0 in
    let high = ltb-true (degree * 2 ^ z) (180 * (stripe + 1)) both.1 in
    and_from _ _ (le-leb (180 * stripe) ((degree + 1) * 2 ^ z) (omega (arith, low))) (le-leb (degree * 2 ^ z) (180 * (stripe + 1)) (omega (arith, high)))

touches_since : (tile : TileId) (square : Square) → overlaps_of tile square ≡ true → touches_of tile square ≡ true
unfolding overlaps_of touches_of
touches_since tile square h =
    let both = and_parts (crosses_at tile.z tile.y square.lat) (crosses_at tile.z tile.x square.lon) h in
    and_from _ _ (meets_since tile.z tile.y square.lat both.0) (or_left _ (wraps_at tile.z tile.x square.lon) (meets_since tile.z tile.x square.lon both.1))

pub makes_touches : (cap : ℕ) (tile : TileId) (cell : Summary) → makes_of cap tile cell ≡ true → touches_of tile cell.square ≡ true
makes_touches cap tile cell h = touches_since tile cell.square (and_parts (nat_le tile.z (reach_of cap cell)) (overlaps_of tile cell.square) h).1

pub far_makes_none : (cap : ℕ) (tile : TileId) (cell : Summary) → touches_of tile cell.square ≡ false → makes_of cap tile cell ≡ false
far_makes_none cap tile cell h = false_from_ne_true _ (λ e. both_ways (touches_of tile cell.square) h (makes_touches cap tile cell e))

-- ---- locality

more_exists : (cap : ℕ) (cells others : List Summary) (tile : TileId) → HasNear tile cells others → exists_of cap cells tile ≡ true → exists_of cap others tile ≡ true
unfolding exists_of
more_exists cap cells others tile near h =
    elim (or_cases (tile.z == 0) (list_any (makes_of cap tile) cells) h) [
      | inl e ↦ or_left _ _ e
      | inr e ↦
          let one = Any-from_list_any (makes_of cap tile) cells e in
          or_right (tile.z == 0) _ (any_from (makes_of cap tile) others one.1 (near one.1 (makes_touches cap tile one.1 one.4) (one.0, one.2, one.3)) one.4)
    ]

pub same_near : (cap : ℕ) (cells others : List Summary) (tile : TileId) → HasNear tile cells others → HasNear tile others cells → exists_of cap cells tile ≡ exists_of cap others tile
same_near cap cells others tile f g = same_from_both _ _ (more_exists cap cells others tile f) (more_exists cap others cells tile g)

any_without : {X : Type 0} (p : X → Bool) (front back : List X) (x : X) → p x ≡ false → list_any p (front ++ x ∷ back) ≡ list_any p (front ++ back)
any_without p front back x h = list_any-append p front (x ∷ back) ∙ rw h (sym (list_any-append p front back))

pub far_added : (cap : ℕ) (front back : List Summary) (cell : Summary) (tile : TileId) → touches_of tile cell.square ≡ false
    → exists_of cap (front ++ cell ∷ back) tile ≡ exists_of cap (front ++ back) tile
unfolding exists_of
far_added cap front back cell tile h = ap (λ t. (tile.z == 0) || t) (any_without (makes_of cap tile) front back cell (far_makes_none cap tile cell h))

pub far_replaced : (cap : ℕ) (front back : List Summary) (cell other : Summary) (tile : TileId) → touches_of tile cell.square ≡ false → touches_of tile other.square ≡ false
    → exists_of cap (front ++ cell ∷ back) tile ≡ exists_of cap (front ++ other ∷ back) tile
far_replaced cap front back cell other tile h g = far_added cap front back cell tile h ∙ sym (far_added cap front back other tile g)

-- ---- by numbers

makes_same : (cap : ℕ) (tile : TileId) (cells : List Summary) → list_any (makes_at cap tile.z tile.y tile.x) cells ≡ list_any (makes_of cap tile) cells
unfolding overlaps_of
makes_same cap tile cells = refl

is_tile_of : (tile : TileId) → is_tile tile.z tile.y tile.x ≡ true
is_tile_of tile = and_from _ _ (le-leb _ _ tile.z_in_range) (and_from _ _ (lt-ltb _ _ tile.y_in_range) (lt-ltb _ _ tile.x_in_range))

pub exists_at_tile : (cap : ℕ) (cells : List Summary) (tile : TileId) → exists_at cap cells tile.z tile.y tile.x ≡ exists_of cap cells tile
unfolding exists_of
exists_at_tile cap cells tile = rw (is_tile_of tile, makes_same cap tile cells)

-- the law at an answer of the test
pub exists_at_answer : (cap : ℕ) (cells : List Summary) (tile : TileId) (b : Bool) → b ≡ exists_of cap cells tile → IsTrue b ↔ Exists cap cells tile
exists_at_answer cap cells tile b e = rw e (exists_law cap cells tile)
