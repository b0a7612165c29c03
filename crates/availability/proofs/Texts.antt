-- The text of the values is the layer's.
use Rattle.std.proofs.Common.{◌≡◌, ℕ, true, false, List, [], ◌∷◌, ◌++◌, map, refl, ap, append_assoc, codes}
use Rattle.std.specs.Fmt.{decimal, digits}
use Rattle.serde_json.specs.Data.{Data}
use Rattle.serde_json.specs.View.{items_of}
use Rattle.serde_json.specs.Written.{compact_text, items_text, members_text, has_float, items_have_float}
use Rattle.serde_json.proofs.OnLiterals.{serde_json_on_literals}
use Rattle.availability.specs.declared.row_run.RowRun.{RowRun}
use Rattle.availability.specs.Layer.{commas, run_text, level_text, later_text, layer_text_from}
use Rattle.availability.specs.LayerData.{run_data, level_data, levels_data, later_members, layer_data}

-- later items, with a comma before each
later : (d : Data) (ds : List Data) → items_text true (items_of (d ∷ ds)) ≡ 44 ∷ (commas (map compact_text (d ∷ ds)) ++ 93 ∷ [])
unfolding serde_json_on_literals
later d [] = refl
later d (e ∷ es) = rw (later e es, append_assoc)

-- items with commas between them
items_are : (ds : List Data) → items_text false (items_of ds) ≡ commas (map compact_text ds) ++ 93 ∷ []
unfolding serde_json_on_literals
items_are [] = refl
items_are (d ∷ []) = refl
items_are (d ∷ e ∷ es) = rw (later e es, append_assoc)

run_is : (run : RowRun) → compact_text (run_data run) ≡ run_text run
unfolding serde_json_on_literals
run_is run = simp append_assoc

runs_are : (runs : List RowRun) → map compact_text (map run_data runs) ≡ map run_text runs
runs_are [] = refl
runs_are (run ∷ runs) = rw (run_is run, runs_are runs)

level_is : (runs : List RowRun) → compact_text (level_data runs) ≡ level_text runs
level_is runs = rw (items_are (map run_data runs), runs_are runs)

levels_are : (levels : List (List RowRun)) → map compact_text (map level_data levels) ≡ map level_text levels
levels_are [] = refl
levels_are (level ∷ levels) = rw (level_is level, levels_are levels)

decimal_180 : decimal 180 ≡ codes "180"
unfolding digits
decimal_180 = refl

decimal_90 : decimal 90 ≡ codes "90"
unfolding digits
decimal_90 = refl

decimal_0 : decimal 0 ≡ codes "0"
unfolding digits
decimal_0 = refl

later_is : (deepest : ℕ) → members_text true (later_members deepest) ≡ later_text deepest
unfolding serde_json_on_literals
later_is deepest = rw (decimal_180, decimal_90, decimal_0)

pub layer_is : (levels : List (List RowRun)) (deepest : ℕ) → compact_text (layer_data (levels_data levels) deepest) ≡ layer_text_from levels deepest
unfolding serde_json_on_literals
layer_is levels deepest =
    rw (items_are (map level_data levels), levels_are levels, later_is deepest)
    (ap (λ text. codes "{\"available\":[" ++ text) (append_assoc (commas (map level_text levels)) (93 ∷ []) (later_text deepest)))

-- no number in it is a float
runs_whole : (runs : List RowRun) → items_have_float (items_of (map run_data runs)) ≡ false
runs_whole [] = refl
runs_whole (run ∷ runs) = runs_whole runs

levels_whole : (levels : List (List RowRun)) → items_have_float (items_of (map level_data levels)) ≡ false
levels_whole [] = refl
levels_whole (level ∷ levels) = rw (runs_whole level, levels_whole levels)

pub layer_whole : (levels : List (List RowRun)) (deepest : ℕ) → has_float (layer_data (levels_data levels) deepest) ≡ false
layer_whole levels deepest = rw (levels_whole levels)
