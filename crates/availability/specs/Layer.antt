-- The text of layer.json (TileJSON 2.1.0, with `available` of the quantized-mesh terrain layer), byte for byte:
-- compact JSON, its keys ascending.
use Rattle.std.specs.Prelude.{ℕ, ◌+◌, max, List, [], ◌∷◌, ◌++◌, map, codes, decimal}
use Rattle.std.specs.List.{range_with_len}
use Rattle.terrain_base.specs.declared.summary.Summary.{Summary}
use Rattle.availability.specs.declared.row_run.RowRun.{RowRun}
use Rattle.availability.specs.Existence.{reach_of}
use Rattle.availability.specs.Runs.{runs_of}

-- the deepest level with an existing tile
abbrev pub deepest_of : ℕ → List Summary → ℕ
deepest_of cap [] = 0
deepest_of cap (cell ∷ cells) = max (reach_of cap cell) (deepest_of cap cells)

-- the texts with commas between them
abbrev pub commas : List (List ℕ) → List ℕ
commas [] = []
commas (text ∷ []) = text
commas (text ∷ next ∷ later) = text ++ (codes "," ++ commas (next ∷ later))

abbrev pub run_text : RowRun → List ℕ
run_text run =
    codes "{\"endX\":" ++ decimal run.end ++ codes ",\"endY\":" ++ decimal run.row
    ++ codes ",\"startX\":" ++ decimal run.start ++ codes ",\"startY\":" ++ decimal run.row ++ codes "}"

abbrev pub level_text : List RowRun → List ℕ
level_text runs = codes "[" ++ commas (map run_text runs) ++ codes "]"

-- the members behind `available`
abbrev pub later_text : ℕ → List ℕ
later_text deepest =
    codes ",\"bounds\":[-180,-90,180,90],\"format\":\"quantized-mesh-1.0\",\"maxzoom\":"
    ++ (decimal deepest
    ++ codes ",\"minzoom\":0,\"projection\":\"EPSG:4326\",\"scheme\":\"tms\",\"tilejson\":\"2.1.0\",\"tiles\":[\"{z}/{x}/{y}.terrain\"],\"version\":\"1.0.0\"}")

-- the runs of each level from 0 on, and the deepest level
abbrev pub layer_text_from : List (List RowRun) → ℕ → List ℕ
layer_text_from levels deepest = codes "{\"available\":["
    ++ (commas (map level_text levels) ++ (codes "]" ++ later_text deepest))

-- the layer text of the existing tiles
unfoldable pub layer_text_of : ℕ → List Summary → List ℕ
layer_text_of cap cells = layer_text_from (map (runs_of cap cells) (range_with_len 0 (deepest_of cap cells + 1)))
    (deepest_of cap cells)
