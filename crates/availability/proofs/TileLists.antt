-- A list of the existing tiles is as long as their count.
use Rattle.std.specs.Prelude.{◌≡◌, ◌≢◌, ℕ, ◌+◌, ◌-◌, ◌^◌, ◌<◌, ◌==◌, Bool, true, false, cond, ◌&&◌, ◌||◌, List, [], ◌∷◌, length, suc}
use Rattle.std.specs.List.{list_any, AllPairs, Contains}
use Rattle.std.proofs.Common.{arith, inl, inr, refl, sym, ap, subst, ◌∙◌}
use Rattle.std.proofs.lemmas.Bool.{and_parts, and_from, eqb-true, eq-eqb, lt-ltb, cases_Bool, cases_lt, both_ways, false_from_ne_true}
use Rattle.std.proofs.lemmas.List.Folds.{Any-from_list_any}
use Rattle.common_laws.proofs.Booleans.{same_from_both}
use Rattle.terrain_base.specs.declared.summary.Summary.{Summary}
use Rattle.terrain_base.specs.declared.tile.TileId.{TileId}
use Rattle.terrain_base.proofs.TileNumbers.{same_tile}
use Rattle.availability.specs.Count.{sum_below, count_of, tile_count_of, ListsTiles}
use Rattle.availability.specs.Existence.{is_tile, exists_of, exists_at}
use Rattle.availability.specs.Runs.{has_at}
use Rattle.availability.proofs.Ascending.{has_parts, has_from}
use Rattle.availability.proofs.Counts.{sum_plus, sum_same, sum_none, sum_one, count_same, run_count, one_or}
use Rattle.availability.proofs.Deepest.{tile_of, at_numbers}
use Rattle.availability.proofs.Existing.{exists_law, any_from, above_cap}

-- the tile has these numbers
abbrev at_place : ℕ → ℕ → ℕ → TileId → Bool
at_place z r c tile = (tile.z == z) && has_at r c (record { row = tile.y; start = tile.x; end = tile.x })

-- how many places pass on the levels below n
abbrev volume : (ℕ → ℕ → ℕ → Bool) → ℕ → ℕ
volume test n = sum_below (λ z. count_of (test z) (2 ^ (z + 1)) (2 ^ z)) n

record At (z r c : ℕ) (tile : TileId) : Type 0 where
  z_is : tile.z ≡ z
  y_is : tile.y ≡ r
  x_is : tile.x ≡ c

at_parts : (z r c : ℕ) (tile : TileId) → at_place z r c tile ≡ true → At z r c tile
at_parts z r c tile h =
    let both = and_parts (tile.z == z) (has_at r c (record { row = tile.y; start = tile.x; end = tile.x })) h in
    let has = has_parts (record { row = tile.y; start = tile.x; end = tile.x }) r c both.1 in
    record { z_is = eqb-true _ _ both.0; y_is = has.row_is; x_is = omega (arith, has.above, has.below) }

at_from : (z r c : ℕ) (tile : TileId) → At z r c tile → at_place z r c tile ≡ true
at_from z r c tile h =
    and_from _ _ (eq-eqb _ _ h.z_is)
    (has_from (record { row = tile.y; start = tile.x; end = tile.x }) r c (record { row_is = h.y_is; above = omega (arith, h.x_is); below = omega (arith, h.x_is) }))

-- ---- one tile

just_one : (x : ℕ) → x + 1 - x ≡ 1
just_one x = omega arith

one_level : (tile : TileId) (z : ℕ) → count_of (λ r c. at_place z r c tile) (2 ^ (z + 1)) (2 ^ z) ≡ cond (tile.z == z) 1 0
one_level tile z =
    elim (cases_Bool (tile.z == z)) [
      | inl e ↦
          let same = eqb-true tile.z z e in
          let x : tile.x < 2 ^ (z + 1) = subst (λ n. tile.x < 2 ^ (n + 1)) same tile.x_in_range in
          let y : tile.y < 2 ^ z = subst (λ n. tile.y < 2 ^ n) same tile.y_in_range in
          rw e (run_count (record { row = tile.y; start = tile.x; end = tile.x }) (2 ^ (z + 1)) (2 ^ z) x y ∙ just_one tile.x)
      | inr e ↦ rw e (sum_none (λ r. sum_below (λ c. 0) (2 ^ (z + 1))) (λ r. sum_none (λ c. 0) (λ c. refl) (2 ^ (z + 1))) (2 ^ z))
    ]

one_tile : (tile : TileId) (n : ℕ) → tile.z < n → volume (λ z r c. at_place z r c tile) n ≡ 1
one_tile tile n h =
    sum_same (λ z. count_of (λ r c. at_place z r c tile) (2 ^ (z + 1)) (2 ^ z)) (λ z. cond (tile.z == z) 1 0) (one_level tile) n
    ∙ sum_one tile.z 1 n ∙ ap (λ b. cond b 1 0) (lt-ltb tile.z n h)

-- ---- all of them

-- another tile of the list has other numbers
other_place : (tile : TileId) (tiles : List TileId) (z r c : ℕ) → AllPairs (λ a b. a ≢ b) (tile ∷ tiles) → at_place z r c tile ≡ true → list_any (at_place z r c) tiles ≡ false
other_place tile tiles z r c once h =
    false_from_ne_true _ (λ g.
    let one = Any-from_list_any (at_place z r c) tiles g in
    let here = at_parts z r c tile h in
    let there = at_parts z r c one.1 one.4 in
    let same : tile ≡ one.1 = same_tile tile one.1 (here.z_is ∙ sym there.z_is) (here.y_is ∙ sym there.y_is) (here.x_is ∙ sym there.x_is) in
    once 0 (suc one.0) one.1 (omega arith) (omega (arith, one.2)) (same ∙ sym one.3))

both_counts : (a b : ℕ → ℕ → Bool) (columns rows : ℕ) → ((r c : ℕ) → a r c ≡ true → b r c ≡ false)
    → count_of (λ r c. a r c || b r c) columns rows ≡ count_of a columns rows + count_of b columns rows
both_counts a b columns rows h =
    sum_plus (λ r. sum_below (λ c. cond (a r c) 1 0) columns) (λ r. sum_below (λ c. cond (b r c) 1 0) columns) (λ r. sum_below (λ c. cond (a r c || b r c) 1 0) columns)
    (λ r. sum_plus (λ c. cond (a r c) 1 0) (λ c. cond (b r c) 1 0) (λ c. cond (a r c || b r c) 1 0) (λ c. one_or (a r c) (b r c) (h r c)) columns) rows

list_volume : (tiles : List TileId) (n : ℕ) → AllPairs (λ a b. a ≢ b) tiles → ((tile : TileId) → Contains tiles tile → tile.z < n)
    → volume (λ z r c. list_any (at_place z r c) tiles) n ≡ length tiles
list_volume [] n once within =
    sum_none (λ z. count_of (λ r c. false) (2 ^ (z + 1)) (2 ^ z))
    (λ z. sum_none (λ r. sum_below (λ c. 0) (2 ^ (z + 1))) (λ r. sum_none (λ c. 0) (λ c. refl) (2 ^ (z + 1))) (2 ^ z)) n
list_volume (tile ∷ tiles) n once within =
    let rest = list_volume tiles n (λ i j d lt inside. once (suc i) (suc j) d (omega arith) (omega arith)) (λ u h. within u (suc h.0, omega (arith, h.1), h.2)) in
    let one = one_tile tile n (within tile (0, omega arith, refl)) in
    let both = sum_plus (λ z. count_of (λ r c. at_place z r c tile) (2 ^ (z + 1)) (2 ^ z)) (λ z. count_of (λ r c. list_any (at_place z r c) tiles) (2 ^ (z + 1)) (2 ^ z))
    (λ z. count_of (λ r c. at_place z r c tile || list_any (at_place z r c) tiles) (2 ^ (z + 1)) (2 ^ z))
    (λ z. both_counts (λ r c. at_place z r c tile) (λ r c. list_any (at_place z r c) tiles) (2 ^ (z + 1)) (2 ^ z) (λ r c e. other_place tile tiles z r c once e)) n in
    omega (arith, rest, one, both)

listed_places : (cap : ℕ) (cells : List Summary) (tiles : List TileId) → ListsTiles cap cells tiles → (z r c : ℕ) → list_any (at_place z r c) tiles ≡ exists_at cap cells z r c
listed_places cap cells tiles h z r c =
    same_from_both _ _
    (λ e.
    let one = Any-from_list_any (at_place z r c) tiles e in
    let here = at_parts z r c one.1 one.4 in
    at_numbers cap cells one.1 z r c here.z_is here.y_is here.x_is ∙ (exists_law cap cells one.1).1 ((h.exact one.1).0 (one.0, one.2, one.3)))
    (λ e.
    let tile = tile_of z r c (and_parts (is_tile z r c) _ e).0 in
    let there = (exists_law cap cells tile.0).0 (sym (at_numbers cap cells tile.0 z r c tile.1 tile.2 tile.3) ∙ e) in
    any_from (at_place z r c) tiles tile.0 ((h.exact tile.0).1 there) (at_from z r c tile.0 (record { z_is = tile.1; y_is = tile.2; x_is = tile.3 })))

listed_within : (cap : ℕ) (cells : List Summary) (tiles : List TileId) → ListsTiles cap cells tiles → (tile : TileId) → Contains tiles tile → tile.z < cap + 1
listed_within cap cells tiles h tile there =
    elim (cases_lt cap tile.z) [
      | inl e ↦ absurd (both_ways (exists_of cap cells tile) (above_cap cap cells tile e) ((exists_law cap cells tile).1 ((h.exact tile).0 there)))
      | inr e ↦ omega arith
    ]

pub list_count : (cap : ℕ) (cells : List Summary) (tiles : List TileId) → ListsTiles cap cells tiles → length tiles ≡ tile_count_of cap cells
unfolding tile_count_of
list_count cap cells tiles h =
    sym (list_volume tiles (cap + 1) h.once (listed_within cap cells tiles h))
    ∙ sum_same (λ z. count_of (λ r c. list_any (at_place z r c) tiles) (2 ^ (z + 1)) (2 ^ z)) (λ z. count_of (exists_at cap cells z) (2 ^ (z + 1)) (2 ^ z))
    (λ z. count_same (λ r c. list_any (at_place z r c) tiles) (exists_at cap cells z) (2 ^ (z + 1)) (2 ^ z) (listed_places cap cells tiles h z)) (cap + 1)
