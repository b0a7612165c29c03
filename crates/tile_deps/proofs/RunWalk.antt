-- A walk over the runs of all levels gives the existing tiles.
use Rattle.std.specs.Prelude.{◌≡◌, ◌≢◌, ℕ, zero, suc, ◌+◌, ◌-◌, ◌^◌, ◌<◌, ◌≤◌, ◌==◌, nat_le, nat_lt, true, List, [], ◌∷◌, ◌++◌, flat_map, get_or, length, take}
use Rattle.std.specs.List.{filter, range_with_len, cons_option}
use Rattle.std.proofs.Common.{arith, add-one, refl, sym, ap, ap₂, subst, ◌∙◌}
use Rattle.std.proofs.lemmas.Bool.{and_from, and_parts, eq-eqb, le-leb, ltb-true}
use Rattle.std.proofs.lemmas.List.{append-nil, flat_map_more, take_more, take_all}
use Rattle.std.proofs.lemmas.List.Elements.{filter-append}
use Rattle.std.proofs.lemmas.List.Folds.{list_any_at}
use Rattle.terrain_base.specs.declared.summary.Summary.{Summary}
use Rattle.terrain_base.specs.declared.tile.TileId.{TileId}
use Rattle.availability.specs.declared.row_run.RowRun.{RowRun}
use Rattle.availability.specs.Existence.{exists_of, is_tile}
use Rattle.availability.specs.Runs.{AreRuns, has_at, is_in_runs, runs_of}
use Rattle.tile_deps.specs.declared.level_run.LevelRun.{LevelRun}
use Rattle.tile_deps.specs.Tiles.{row_tiles, level_tiles, existing, all_tiles}
use Rattle.tile_deps.specs.Walk.{run_tiles, runs_tiles}
use Rattle.tile_deps.proofs.AllTiles.{tile_found}
use Rattle.tile_deps.proofs.Runs.{level_runs_tiles, row_run_tiles, row_runs_tiles}

-- ---- a level

-- a run lies on its level
pub record LiesOn (z : ℕ) (run : RowRun) : Type 0 where
  pub row : run.row < 2 ^ z
  pub ordered : run.start ≤ run.end
  pub end : run.end < 2 ^ (z + 1)

pub lies_on : (cap : ℕ) (cells : List Summary) (z : ℕ) (runs : List RowRun) (i : ℕ) (d : RowRun) → AreRuns cap cells z runs → i < length runs → LiesOn z (get_or runs i d)
lies_on cap cells z runs i d h inside =
    let run = get_or runs i d in
    let ordered : run.start ≤ run.end = h.nonempty i d inside in
    let here : has_at run.row run.end run ≡ true = and_from (run.row == run.row) _ (eq-eqb run.row run.row refl) (and_from (nat_le run.start run.end) _ (le-leb run.start run.end ordered) (le-leb run.end run.end (omega arith))) in
    let among : is_in_runs runs run.row run.end ≡ true = list_any_at (has_at run.row run.end) runs i d inside here in
    let tile = and_parts (is_tile z run.row run.end) _ (sym (h.exact run.row run.end) ∙ among) in
    let place = and_parts (nat_lt run.row (2 ^ z)) (nat_lt run.end (2 ^ (z + 1))) (and_parts (nat_le z 14) _ tile.0).1 in
    record { row = ltb-true run.row (2 ^ z) place.0; ordered = ordered; end = ltb-true run.end (2 ^ (z + 1)) place.1 }

-- one run more
pub run_more : (list : List LevelRun) (run : LevelRun) (before : List TileId) (z : ℕ) (runs : List RowRun) (i : ℕ) (d : RowRun) → i < length runs → run_tiles run ≡ row_run_tiles z (get_or runs i d)
    → runs_tiles list ≡ before ++ row_runs_tiles z (take i runs) → runs_tiles (list ++ run ∷ []) ≡ before ++ row_runs_tiles z (take (i + 1) runs)
run_more list run before z runs i d inside same so_far =
    sym (flat_map_more run_tiles [] list run)
    ∙ ap₂ ◌++◌ so_far same
    ∙ flat_map_more (row_run_tiles z) before (take i runs) (get_or runs i d)
    ∙ ap (λ taken. before ++ row_runs_tiles z taken) (sym (take_more runs i d inside))

pub level_done : (list : List LevelRun) (before : List TileId) (cap : ℕ) (cells : List Summary) (z : ℕ) (runs : List RowRun) (i : ℕ) → length runs ≤ i → runs ≡ runs_of cap cells z
    → runs_tiles list ≡ before ++ row_runs_tiles z (take i runs) → runs_tiles list ≡ before ++ filter (exists_of cap cells) (level_tiles z)
level_done list before cap cells z runs i all is so_far =
    so_far
    ∙ ap (λ taken. before ++ row_runs_tiles z taken) (take_all i runs all ∙ is)
    ∙ ap (λ tiles. before ++ tiles) (level_runs_tiles cap cells z)

-- ---- the levels

pub range_more : (m n : ℕ) → range_with_len m (suc n) ≡ range_with_len m n ++ ((m + n) ∷ [])
range_more m zero = let same : m + 0 ≡ m = omega arith in rw same refl
range_more m (suc n) = let same : m + suc n ≡ m + 1 + n = omega arith in rw same (ap (λ rest. m ∷ rest) (range_more (m + 1) n))

-- the tiles that exist of the levels below z
abbrev pub existing_below : ℕ → List Summary → ℕ → List TileId
existing_below cap cells z = filter (exists_of cap cells) (flat_map level_tiles (range_with_len 0 z))

zero_more : (z : ℕ) → 0 + z ≡ z
zero_more z = omega arith

level_more : (z : ℕ) → flat_map level_tiles (range_with_len 0 (z + 1)) ≡ flat_map level_tiles (range_with_len 0 z) ++ level_tiles z
level_more z =
    ap (λ n. flat_map level_tiles (range_with_len 0 n)) (add-one z)
    ∙ ap (flat_map level_tiles) (range_more 0 z ∙ ap (λ n. range_with_len 0 z ++ n ∷ []) (zero_more z))
    ∙ sym (flat_map_more level_tiles [] (range_with_len 0 z) z)

pub below_more : (cap : ℕ) (cells : List Summary) (z : ℕ) → existing_below cap cells (z + 1) ≡ existing_below cap cells z ++ filter (exists_of cap cells) (level_tiles z)
below_more cap cells z = ap (filter (exists_of cap cells)) (level_more z) ∙ filter-append (exists_of cap cells) (flat_map level_tiles (range_with_len 0 z)) (level_tiles z)

pub below_all : (cap : ℕ) (cells : List Summary) (z : ℕ) → cap + 1 ≤ z → z ≤ cap + 1 → existing_below cap cells z ≡ existing cap cells
unfolding existing all_tiles
below_all cap cells z low high = let same : z ≡ cap + 1 = omega (arith, low, high) in rw same refl

-- ---- the first tile of a run

first_of_row : (tile : TileId) (count : ℕ) → row_tiles tile.z tile.y tile.x (suc count) ≡ tile ∷ row_tiles tile.z tile.y (tile.x + 1) count
first_of_row tile count = ap (λ o. cons_option o (row_tiles tile.z tile.y (tile.x + 1) count)) (tile_found tile)

row_begins : (tile : TileId) (z row column count : ℕ) → tile.z ≡ z → tile.y ≡ row → tile.x ≡ column → row_tiles z row column (suc count) ≡ tile ∷ row_tiles z row (column + 1) count
row_begins tile z row column count z_is y_is x_is =
    subst (λ n. row_tiles n row column (suc count) ≡ tile ∷ row_tiles n row (column + 1) count) z_is
    (subst (λ n. row_tiles tile.z n column (suc count) ≡ tile ∷ row_tiles tile.z n (column + 1) count) y_is
    (subst (λ n. row_tiles tile.z tile.y n (suc count) ≡ tile ∷ row_tiles tile.z tile.y (n + 1) count) x_is (first_of_row tile count)))

pub last_of_run : (run : LevelRun) (tile : TileId) → tile.z ≡ run.z → tile.y ≡ run.row → tile.x ≡ run.start → run.start ≡ run.end → run_tiles run ≡ tile ∷ []
last_of_run run tile z_is y_is x_is only =
    let count : run.end + 1 - run.start ≡ suc 0 = omega (arith, only) in
    ap (row_tiles run.z run.row run.start) count ∙ row_begins tile run.z run.row run.start 0 z_is y_is x_is

pub rest_of_run : (run : LevelRun) (tile : TileId) → tile.z ≡ run.z → tile.y ≡ run.row → tile.x ≡ run.start → run.start ≢ run.end
    → run_tiles run ≡ tile ∷ (row_tiles run.z run.row (run.start + 1) (run.end + 1 - (run.start + 1)) ++ [])
rest_of_run run tile z_is y_is x_is more =
    let ordered = run.ordered in
    let count : run.end + 1 - run.start ≡ suc (run.end + 1 - (run.start + 1)) = omega (arith, ordered, more) in
    ap (row_tiles run.z run.row run.start) count
    ∙ row_begins tile run.z run.row run.start (run.end + 1 - (run.start + 1)) z_is y_is x_is
    ∙ ap (λ rest. tile ∷ rest) (sym (append-nil (row_tiles run.z run.row (run.start + 1) (run.end + 1 - (run.start + 1)))))
