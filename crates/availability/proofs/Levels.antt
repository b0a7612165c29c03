-- The joined runs of a level are its maximal runs.
use Rattle.std.specs.Prelude.{◌≡◌, ℕ, ◌+◌, ◌*◌, ◌^◌, ◌<◌, ◌≤◌, ◌==◌, nat_le, nat_lt, Bool, true, false, ◌&&◌, ◌||◌, List}
use Rattle.std.specs.List.{list_any}
use Rattle.std.specs.List.Sorted.{IsPermutation}
use Rattle.std.proofs.Common.{arith, refl, sym, ◌∙◌}
use Rattle.std.proofs.lemmas.Bool.{and_parts, and_from, leb-true, le-leb, ltb-true, lt-ltb, eqb-true, or_right}
use Rattle.std.proofs.lemmas.Bool.Decides.{nat_tests}
use Rattle.std.proofs.lemmas.List.Folds.{Any-from_list_any}
use Rattle.std.proofs.lemmas.List.Sorted.{list_any-IsPermutation}
use Rattle.std.proofs.Math.Nat.{mul-le-mul_right}
use Rattle.std.proofs.Math.Bool.{or-false}
use Rattle.terrain_base.specs.Level.{depth_of}
use Rattle.terrain_base.specs.declared.level.CellLevel.{CellLevel}
use Rattle.terrain_base.specs.declared.level.CellLevel.TheVariants.{Zero, One, Two}
use Rattle.terrain_base.specs.declared.summary.Summary.{Summary}
use Rattle.tms_tree.specs.Touch.{crosses_at}
use Rattle.tms_tree.proofs.Touching.{doubled}
use Rattle.availability.specs.declared.row_run.RowRun.{RowRun}
use Rattle.availability.specs.Crossing.{is_top}
use Rattle.availability.specs.Existence.{reach_of, is_tile, makes_at, exists_at}
use Rattle.availability.specs.Merge.{AreJoined}
use Rattle.availability.specs.Runs.{has_at, is_in_runs, AreRuns}
use Rattle.availability.proofs.Scans.{and_true}

-- ---- what a cell makes is a tile

depth_at_most : (level : CellLevel) → depth_of level ≤ 14
depth_at_most Zero = omega arith
depth_at_most One = omega arith
depth_at_most Two = omega arith

-- a stripe that crosses one of so many degrees is one of the level's
stripe_within : (z stripe degree degrees : ℕ) → degree < degrees → crosses_at z stripe degree ≡ true → 180 * stripe < degrees * 2 ^ z
stripe_within z stripe degree degrees h e =
    let low = ltb-true (180 * stripe) ((degree + 1) * 2 ^ z) (and_parts (nat_lt (180 * stripe) ((degree + 1) * 2 ^ z)) (nat_lt (degree * 2 ^ z) (180 * (stripe + 1))) e).0 in
    let most : (degree + 1) * 2 ^ z ≤ degrees * 2 ^ z = mul-le-mul_right (2 ^ z) (omega arith) in
    omega (arith, low, most)

pub made_is_tile : (cap z row column : ℕ) (cell : Summary) → makes_at cap z row column cell ≡ true → is_tile z row column ≡ true
made_is_tile cap z row column cell h =
    let both = and_parts (nat_le z (reach_of cap cell)) (crosses_at z row cell.square.lat && crosses_at z column cell.square.lon) h in
    let crosses = and_parts (crosses_at z row cell.square.lat) (crosses_at z column cell.square.lon) both.1 in
    let deep = leb-true z (reach_of cap cell) both.0 in
    let most = depth_at_most cell.level in
    let in_row = stripe_within z row cell.square.lat 180 cell.square.lat_in_range crosses.0 in
    let in_column = stripe_within z column cell.square.lon 360 cell.square.lon_in_range crosses.1 in
    let two = doubled z in
    and_from _ _ (le-leb z 14 (omega (arith, deep, most)))
    (and_from _ _ (lt-ltb row (2 ^ z) (omega (arith, in_row))) (lt-ltb column (2 ^ (z + 1)) (omega (arith, in_column, two))))

-- ---- the places

top_tile : (row column : ℕ) → is_top row column ≡ is_tile 0 row column
top_tile row column = grind (arith, nat_tests)

top_at : (z row column : ℕ) → z ≡ 0 → is_top row column ≡ is_tile z row column
top_at z row column e = rw e (top_tile row column)

joined_test : (top place any tile : Bool) → (any ≡ true → tile ≡ true) → (top ≡ true → place ≡ tile) → ((top && place) || any) ≡ (tile && (top || any))
joined_test true place true tile h g = or_right place true refl ∙ sym (rw (h refl))
joined_test true place false tile h g = or-false place ∙ g refl ∙ sym (and_true tile)
joined_test false place true tile h g = sym (rw (h refl))
joined_test false place false true h g = refl
joined_test false place false false h g = refl

pub exists_places : (cap z row column : ℕ) (cells : List Summary) → (((z == 0) && is_top row column) || list_any (makes_at cap z row column) cells) ≡ exists_at cap cells z row column
exists_places cap z row column cells =
    joined_test (z == 0) (is_top row column) (list_any (makes_at cap z row column) cells) (is_tile z row column)
    (λ e. let one = Any-from_list_any (makes_at cap z row column) cells e in made_is_tile cap z row column one.1 one.4)
    (λ e. top_at z row column (eqb-true z 0 e))

-- ---- sorted and joined

pub are_runs : (cap z : ℕ) (cells : List Summary) (made sorted runs : List RowRun)
    → ((row column : ℕ) → is_in_runs made row column ≡ (((z == 0) && is_top row column) || list_any (makes_at cap z row column) cells))
    → IsPermutation made sorted → AreJoined sorted runs → AreRuns cap cells z runs
are_runs cap z cells made sorted runs places moved joined = record {
  nonempty = joined.nonempty;
  apart = joined.apart;
  exact = λ row column. joined.places row column
      ∙ sym (list_any-IsPermutation (has_at row column) made sorted moved)
      ∙ places row column
      ∙ exists_places cap z row column cells;
}
