-- The deepest level is the greatest one with an existing tile, and the layer text is a function of the tiles.
use Rattle.std.specs.Prelude.{◌≡◌, ℕ, ◌+◌, ◌*◌, ◌/◌, ◌^◌, ◌<◌, ◌≤◌, ◌==◌, nat_le, nat_lt, ◌⊎◌, true, ◌&&◌, List, [], ◌∷◌, map}
use Rattle.std.specs.List.{list_any, range_with_len}
use Rattle.std.proofs.Common.{arith, inl, inr, refl, sym, ap, ◌∙◌}
use Rattle.std.proofs.lemmas.Bool.{and_parts, and_from, or_cases, or_left, or_right, leb-true, le-leb, ltb-true, lt-ltb, eqb-true, eq-eqb, and_left, cases_Bool, cases_lt}
use Rattle.std.proofs.lemmas.List.Folds.{Any-from_list_any}
use Rattle.std.proofs.lemmas.Nat.{pow_pos}
use Rattle.common_laws.proofs.Lists.{map_same}
use Rattle.terrain_base.specs.declared.summary.Summary.{Summary}
use Rattle.terrain_base.specs.declared.tile.TileId.{TileId}
use Rattle.tms_tree.specs.Touch.{crosses_at, overlaps_of}
use Rattle.availability.specs.Existence.{reach_of, makes_of, makes_at, is_tile, exists_of, exists_at}
use Rattle.availability.specs.Layer.{deepest_of, layer_text_from, layer_text_of}
use Rattle.availability.specs.Runs.{runs_of}
use Rattle.availability.proofs.Existing.{exists_at_tile}
use Rattle.availability.proofs.Levels.{made_is_tile}
use Rattle.availability.proofs.Scans.{runs_are, only_runs}

-- ---- no tile is deeper

made_within : (cap : ℕ) (cells : List Summary) (tile : TileId) → list_any (makes_of cap tile) cells ≡ true → tile.z ≤ deepest_of cap cells
made_within cap [] tile h = absurd (cc)
made_within cap (cell ∷ cells) tile h =
    elim (or_cases (makes_of cap tile cell) (list_any (makes_of cap tile) cells) h) [
      | inl e ↦ let deep = leb-true tile.z (reach_of cap cell) (and_parts (nat_le tile.z (reach_of cap cell)) (overlaps_of tile cell.square) e).0 in omega (arith, deep)
      | inr e ↦ let rest = made_within cap cells tile e in omega (arith, rest)
    ]

pub none_deeper : (cap : ℕ) (cells : List Summary) (tile : TileId) → exists_of cap cells tile ≡ true → tile.z ≤ deepest_of cap cells
unfolding exists_of
none_deeper cap cells tile h =
    elim (or_cases (tile.z == 0) (list_any (makes_of cap tile) cells) h) [
      | inl e ↦ let top = eqb-true tile.z 0 e in omega (arith, top)
      | inr e ↦ made_within cap cells tile e
    ]

-- ---- a tile is as deep

-- the stripe that the degree's lower end lies in, or begins
crosses_first : (z degree : ℕ) → crosses_at z (degree * 2 ^ z / 180) degree ≡ true
crosses_first z degree =
    let p : 0 < 2 ^ z = pow_pos z in
    let low : 180 * (degree * 2 ^ z / 180) < (degree + 1) * 2 ^ z = omega (arith, p) in
    let high : degree * 2 ^ z < 180 * (degree * 2 ^ z / 180 + 1) = omega (arith, p) in
    and_from _ _ (lt-ltb (180 * (degree * 2 ^ z / 180)) ((degree + 1) * 2 ^ z) low) (lt-ltb (degree * 2 ^ z) (180 * (degree * 2 ^ z / 180 + 1)) high)

pub tile_of : (z r c : ℕ) → is_tile z r c ≡ true → (tile : TileId) × (tile.z ≡ z) × (tile.y ≡ r) × (tile.x ≡ c)
tile_of z r c h =
    let both = and_parts (nat_le z 14) (nat_lt r (2 ^ z) && nat_lt c (2 ^ (z + 1))) h in
    let places = and_parts (nat_lt r (2 ^ z)) (nat_lt c (2 ^ (z + 1))) both.1 in (
      record {
        z = z;
        y = r;
        x = c;
        z_in_range = leb-true z 14 both.0;
        y_in_range = ltb-true r (2 ^ z) places.0;
        x_in_range = ltb-true c (2 ^ (z + 1)) places.1;
      },
      refl,
      refl,
      refl,
    )

-- a cell makes a tile at each level that it reaches
cell_makes : (cap z : ℕ) (cell : Summary) → z ≤ reach_of cap cell → makes_at cap z (cell.square.lat * 2 ^ z / 180) (cell.square.lon * 2 ^ z / 180) cell ≡ true
cell_makes cap z cell h = and_from _ _ (le-leb z (reach_of cap cell) h) (and_from _ _ (crosses_first z cell.square.lat) (crosses_first z cell.square.lon))

-- the deepest of the levels that cells reach has a tile that one of them makes, or is 0
place_at : (cap : ℕ) (cells : List Summary) (z : ℕ) → z ≡ deepest_of cap cells → (z ≡ 0) ⊎ ((r : ℕ) × (c : ℕ) × (list_any (makes_at cap z r c) cells ≡ true))
place_at cap [] z e = inl e
place_at cap (cell ∷ cells) z e =
    elim (cases_lt (deepest_of cap cells) (reach_of cap cell)) [
      | inl h ↦
          inr (
            cell.square.lat * 2 ^ z / 180,
            cell.square.lon * 2 ^ z / 180,
            or_left _ (list_any (makes_at cap z (cell.square.lat * 2 ^ z / 180) (cell.square.lon * 2 ^ z / 180)) cells) (cell_makes cap z cell (omega (arith, e))),
          )
      | inr h ↦
          let rest = place_at cap cells z (omega (arith, e)) in
          elim rest [
            | inl g ↦ inl g
            | inr p ↦ inr (p.0, p.1, or_right (makes_at cap z p.0 p.1 cell) _ p.2)
          ]
    ]

pub at_numbers : (cap : ℕ) (cells : List Summary) (tile : TileId) (z r c : ℕ) → tile.z ≡ z → tile.y ≡ r → tile.x ≡ c → exists_at cap cells z r c ≡ exists_of cap cells tile
at_numbers cap cells tile z r c e f g =
    sym (ap (λ n. exists_at cap cells n r c) e) ∙ sym (ap (λ n. exists_at cap cells tile.z n c) f) ∙ sym (ap (λ n. exists_at cap cells tile.z tile.y n) g) ∙ exists_at_tile cap cells tile

top_tile : (tile : TileId) × (tile.z ≡ 0)
top_tile = (record { z = 0; y = 0; x = 0; z_in_range = omega arith; y_in_range = omega arith; x_in_range = omega arith }, refl)

-- the cells that make a tile there make it a tile that exists
tile_there : (cap : ℕ) (cells : List Summary) (z r c : ℕ) → list_any (makes_at cap z r c) cells ≡ true → (tile : TileId) × (tile.z ≡ z) × (exists_of cap cells tile ≡ true)
tile_there cap cells z r c h =
    let one = Any-from_list_any (makes_at cap z r c) cells h in
    let is = made_is_tile cap z r c one.1 one.4 in
    let tile = tile_of z r c is in
    (tile.0, tile.1, sym (at_numbers cap cells tile.0 z r c tile.1 tile.2 tile.3) ∙ and_from _ _ is (or_right (z == 0) _ h))

pub one_as_deep : (cap : ℕ) (cells : List Summary) → (tile : TileId) × (tile.z ≡ deepest_of cap cells) × (exists_of cap cells tile ≡ true)
unfolding exists_of
one_as_deep cap cells =
    elim (place_at cap cells (deepest_of cap cells) refl) [
      | inl e ↦ (top_tile.0, top_tile.1 ∙ sym e, or_left _ _ (eq-eqb _ _ top_tile.1))
      | inr p ↦ tile_there cap cells (deepest_of cap cells) p.0 p.1 p.2
    ]

-- ---- the same tiles

abbrev pub SameTiles : ℕ → ℕ → List Summary → List Summary → Type 0
SameTiles cap top cells others = (tile : TileId) → exists_of cap cells tile ≡ exists_of top others tile

same_deepest : (cap top : ℕ) (cells others : List Summary) → SameTiles cap top cells others → deepest_of cap cells ≡ deepest_of top others
same_deepest cap top cells others same =
    let one = one_as_deep cap cells in
    let two = one_as_deep top others in
    let low = none_deeper top others one.0 (sym (same one.0) ∙ one.2) in
    let high = none_deeper cap cells two.0 (same two.0 ∙ two.2) in
    let e = one.1 in
    let f = two.1 in
    omega (arith, low, high, e, f)

same_places : (cap top : ℕ) (cells others : List Summary) → SameTiles cap top cells others → (z r c : ℕ) → exists_at cap cells z r c ≡ exists_at top others z r c
same_places cap top cells others same z r c =
    elim (cases_Bool (is_tile z r c)) [
      | inl e ↦
          let tile = tile_of z r c e in
          at_numbers cap cells tile.0 z r c tile.1 tile.2 tile.3 ∙ same tile.0 ∙ sym (at_numbers top others tile.0 z r c tile.1 tile.2 tile.3)
      | inr e ↦ and_left _ _ e ∙ sym (and_left (is_tile z r c) _ e)
    ]

same_runs : (cap top : ℕ) (cells others : List Summary) → SameTiles cap top cells others → (z : ℕ) → runs_of cap cells z ≡ runs_of top others z
same_runs cap top cells others same z =
    let runs = runs_are cap z cells in
    only_runs top z others (runs_of cap cells z)
    (record { nonempty = runs.nonempty; apart = runs.apart; exact = λ r c. runs.exact r c ∙ same_places cap top cells others same z r c })

pub same_text : (cap top : ℕ) (cells others : List Summary) → SameTiles cap top cells others → layer_text_of cap cells ≡ layer_text_of top others
unfolding layer_text_of
same_text cap top cells others same =
    ap (λ levels. layer_text_from levels (deepest_of cap cells))
    (map_same (runs_of cap cells) (runs_of top others) (same_runs cap top cells others same) (range_with_len 0 (deepest_of cap cells + 1)))
    ∙ ap (λ n. layer_text_from (map (runs_of top others) (range_with_len 0 (n + 1))) n) (same_deepest cap top cells others same)
