-- The tiles of a level's runs are its tiles that exist.
use Rattle.std.specs.Prelude.{◌≡◌, ℕ, zero, suc, ◌+◌, ◌-◌, ◌^◌, ◌≤◌, ◌==◌, ◌&&◌, Bool, true, false, if◌then◌else◌, List, [], ◌∷◌, ◌++◌, flat_map, Option, Some, None}
use Rattle.std.specs.List.{filter, range_with_len, cons_option}
use Rattle.std.proofs.Common.{arith, refl, sym, ap, ◌∙◌}
use Rattle.std.proofs.lemmas.Bool.{and_parts, eqb-true, both_ways}
use Rattle.terrain_base.specs.declared.summary.Summary.{Summary}
use Rattle.terrain_base.specs.declared.tile.TileId.{TileId}
use Rattle.availability.specs.declared.row_run.RowRun.{RowRun}
use Rattle.availability.specs.Existence.{exists_at, exists_of}
use Rattle.availability.specs.Runs.{with_column, row_runs, rows_runs, runs_of}
use Rattle.availability.proofs.Deepest.{at_numbers}
use Rattle.tile_deps.specs.Tiles.{tile_at, row_tiles, level_tiles}
use Rattle.tile_deps.proofs.AllTiles.{MayHaveNumbers, numbers_of}
use Rattle.tile_deps.proofs.Listed.{filter_flat}

-- the tiles of a run of a level
abbrev pub row_run_tiles : ℕ → RowRun → List TileId
row_run_tiles z run = row_tiles z run.row run.start (run.end + 1 - run.start)

abbrev pub row_runs_tiles : ℕ → List RowRun → List TileId
row_runs_tiles z runs = flat_map (row_run_tiles z) runs

-- the first of the runs is not empty
abbrev pub BeginsWell : List RowRun → Type 0
BeginsWell [] = Unit {0}
BeginsWell (run ∷ runs) = run.start ≤ run.end

option_first : (o : Option TileId) (ts us : List TileId) → cons_option o ts ++ us ≡ cons_option o (ts ++ us)
option_first None ts us = refl
option_first (Some t) ts us = refl

-- ---- one column more

one_column : (z row column : ℕ) (rest : List TileId) → row_tiles z row column (column + 1 - column) ++ rest ≡ cons_option (tile_at z row column) rest
one_column z row column rest =
    let one : column + 1 - column ≡ 1 = omega arith in
    rw one (option_first (tile_at z row column) [] rest)

longer : (z row column : ℕ) (run : RowRun) → run.row ≡ row → run.start ≡ column + 1 → run.start ≤ run.end
    → row_tiles z row column (run.end + 1 - column) ≡ cons_option (tile_at z row column) (row_run_tiles z run)
longer z row column run same next ordered =
    let count : run.end + 1 - column ≡ suc (run.end + 1 - run.start) = omega (arith, next, ordered) in
    rw (count, same, next) refl

joined : (z row column : ℕ) (run : RowRun) (later : List RowRun) (b : Bool) → ((run.row == row) && (run.start == column + 1)) ≡ b → run.start ≤ run.end
    → row_runs_tiles z (if b then record { row = row; start = column; end = run.end } ∷ later else record { row = row; start = column; end = column } ∷ run ∷ later)
    ≡ cons_option (tile_at z row column) (row_runs_tiles z (run ∷ later))
joined z row column run later true e ordered =
    let both = and_parts (run.row == row) (run.start == column + 1) e in
    ap (λ ts. ts ++ row_runs_tiles z later) (longer z row column run (eqb-true run.row row both.0) (eqb-true run.start (column + 1) both.1) ordered)
    ∙ option_first (tile_at z row column) (row_run_tiles z run) (row_runs_tiles z later)
joined z row column run later false e ordered = one_column z row column (row_runs_tiles z (run ∷ later))

pub with_column_tiles : (z row column : ℕ) (runs : List RowRun) → BeginsWell runs → row_runs_tiles z (with_column row column runs) ≡ cons_option (tile_at z row column) (row_runs_tiles z runs)
with_column_tiles z row column [] h = one_column z row column []
with_column_tiles z row column (run ∷ later) h = joined z row column run later ((run.row == row) && (run.start == column + 1)) refl h

joined_well : (row column : ℕ) (run : RowRun) (later : List RowRun) (b : Bool) → ((run.row == row) && (run.start == column + 1)) ≡ b → run.start ≤ run.end
    → BeginsWell (if b then record { row = row; start = column; end = run.end } ∷ later else record { row = row; start = column; end = column } ∷ run ∷ later)
joined_well row column run later true e ordered =
    let next = eqb-true run.start (column + 1) (and_parts (run.row == row) (run.start == column + 1) e).1 in
    omega (arith, next, ordered)
joined_well row column run later false e ordered = omega arith

with_column_well : (row column : ℕ) (runs : List RowRun) → BeginsWell runs → BeginsWell (with_column row column runs)
with_column_well row column [] h = omega arith
with_column_well row column (run ∷ later) h = joined_well row column run later ((run.row == row) && (run.start == column + 1)) refl h

-- ---- a row

-- the test at a column is that of the tile there, and fails where there is none
abbrev AgreesAt : (TileId → Bool) → Bool → Option TileId → Type 0
AgreesAt passes test None = test ≡ false
AgreesAt passes test (Some t) = test ≡ passes t

-- the runs' tiles are these, and their first run is not empty
record Spells (z : ℕ) (runs : List RowRun) (ts : List TileId) : Type 0 where
  tiles : row_runs_tiles z runs ≡ ts
  well : BeginsWell runs

tile_passes : (passes : TileId → Bool) (test : Bool) (o : Option TileId) (ts : List TileId) → AgreesAt passes test o → test ≡ true → cons_option o (filter passes ts) ≡ filter passes (cons_option o ts)
tile_passes passes test None ts agrees holds = absurd (both_ways test agrees holds)
tile_passes passes test (Some t) ts agrees holds = let is : passes t ≡ true = sym agrees ∙ holds in rw is refl

tile_fails : (passes : TileId → Bool) (test : Bool) (o : Option TileId) (ts : List TileId) → AgreesAt passes test o → test ≡ false → filter passes ts ≡ filter passes (cons_option o ts)
tile_fails passes test None ts agrees fails = refl
tile_fails passes test (Some t) ts agrees fails = let is : passes t ≡ false = sym agrees ∙ fails in rw is refl

column_spells : (passes : TileId → Bool) (z row column : ℕ) (test : Bool) (east : List RowRun) (ts rest : List TileId) (b : Bool) → test ≡ b → AgreesAt passes test (tile_at z row column)
    → Spells z east (filter passes ts ++ rest)
    → Spells z (if b then with_column row column east else east) (filter passes (cons_option (tile_at z row column) ts) ++ rest)
column_spells passes z row column test east ts rest true e agrees h = record {
  tiles = with_column_tiles z row column east h.well
      ∙ ap (cons_option (tile_at z row column)) h.tiles
      ∙ sym (option_first (tile_at z row column) (filter passes ts) rest)
      ∙ ap (λ us. us ++ rest) (tile_passes passes test (tile_at z row column) ts agrees e);
  well = with_column_well row column east h.well;
}
column_spells passes z row column test east ts rest false e agrees h = record {
  tiles = h.tiles ∙ ap (λ us. us ++ rest) (tile_fails passes test (tile_at z row column) ts agrees e);
  well = h.well;
}

row_spells : (passes : TileId → Bool) (test : ℕ → ℕ → Bool) (z row column left : ℕ) (later : List RowRun) → ((column : ℕ) → AgreesAt passes (test row column) (tile_at z row column)) → BeginsWell later
    → Spells z (row_runs test row column left later) (filter passes (row_tiles z row column left) ++ row_runs_tiles z later)
unfolding row_runs
row_spells passes test z row column zero later agrees well = record { tiles = refl; well = well }
row_spells passes test z row column (suc left) later agrees well =
    column_spells passes z row column (test row column) (row_runs test row (column + 1) left later) (row_tiles z row (column + 1) left) (row_runs_tiles z later) (test row column) refl (agrees column)
    (row_spells passes test z row (column + 1) left later agrees well)

-- ---- a level

rows_spell : (passes : TileId → Bool) (test : ℕ → ℕ → Bool) (z columns row left : ℕ) → ((row column : ℕ) → AgreesAt passes (test row column) (tile_at z row column))
    → Spells z (rows_runs test columns row left) (flat_map (λ row. filter passes (row_tiles z row 0 columns)) (range_with_len row left))
unfolding rows_runs
rows_spell passes test z columns row zero agrees = record { tiles = refl; well = tt }
rows_spell passes test z columns row (suc left) agrees =
    let north = rows_spell passes test z columns (row + 1) left agrees in
    let here = row_spells passes test z row 0 columns (rows_runs test columns (row + 1) left) (agrees row) north.well in
    record { tiles = here.tiles ∙ ap (λ us. filter passes (row_tiles z row 0 columns) ++ us) north.tiles; well = here.well }

exists_there : (cap : ℕ) (cells : List Summary) (z row column : ℕ) (o : Option TileId) → MayHaveNumbers z row column o → AgreesAt (exists_of cap cells) (exists_at cap cells z row column) o
exists_there cap cells z row column None h = rw h refl
exists_there cap cells z row column (Some t) h = at_numbers cap cells t z row column h.z_is h.y_is h.x_is

pub level_runs_tiles : (cap : ℕ) (cells : List Summary) (z : ℕ) → row_runs_tiles z (runs_of cap cells z) ≡ filter (exists_of cap cells) (level_tiles z)
unfolding runs_of
level_runs_tiles cap cells z =
    (rows_spell (exists_of cap cells) (exists_at cap cells z) z (2 ^ (z + 1)) 0 (2 ^ z) (λ row column. exists_there cap cells z row column (tile_at z row column) (numbers_of z row column))).tiles
    ∙ sym (filter_flat (exists_of cap cells) (λ row. row_tiles z row 0 (2 ^ (z + 1))) (range_with_len 0 (2 ^ z)))
