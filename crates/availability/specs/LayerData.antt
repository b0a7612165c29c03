-- The JSON values that the layer text is written from.
use Rattle.std.specs.Prelude.{ℕ, negsuc, List, map, codes}
use Rattle.serde_json.specs.Data.{Data, number, unsigned, negative, string, array, object, Members, item, no_items, member, no_members}
use Rattle.serde_json.specs.View.{items_of}
use Rattle.availability.specs.declared.row_run.RowRun.{RowRun}

abbrev pub run_data : RowRun → Data
run_data run =
    object (member (codes "endX") (number (unsigned run.end))
    (member (codes "endY") (number (unsigned run.row))
    (member (codes "startX") (number (unsigned run.start))
    (member (codes "startY") (number (unsigned run.row)) no_members))))

abbrev pub level_data : List RowRun → Data
level_data runs = array (items_of (map run_data runs))

-- the whole Earth in degrees: west, south, east, north
abbrev pub bounds_data : Data
bounds_data =
    array (item (number (negative (negsuc 179))) (item (number (negative (negsuc 89)))
    (item (number (unsigned 180)) (item (number (unsigned 90)) no_items))))

abbrev pub tiles_data : Data
tiles_data = array (item (string (codes "{z}/{x}/{y}.terrain")) no_items)

-- the members behind `available`
abbrev pub later_members : ℕ → Members
later_members deepest =
    member (codes "bounds") bounds_data
    (member (codes "format") (string (codes "quantized-mesh-1.0"))
    (member (codes "maxzoom") (number (unsigned deepest))
    (member (codes "minzoom") (number (unsigned 0))
    (member (codes "projection") (string (codes "EPSG:4326"))
    (member (codes "scheme") (string (codes "tms"))
    (member (codes "tilejson") (string (codes "2.1.0"))
    (member (codes "tiles") tiles_data
    (member (codes "version") (string (codes "1.0.0"))
    no_members))))))))

-- the levels, each the array of its runs
abbrev pub levels_data : List (List RowRun) → Data
levels_data levels = array (items_of (map level_data levels))

-- the whole, of the value of `available`
abbrev pub layer_data : Data → ℕ → Data
layer_data available deepest = object (member (codes "available") available (later_members deepest))
