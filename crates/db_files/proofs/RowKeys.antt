-- Rows by their keys, and the rows of a state.
use Rattle.std.proofs.Common.{◌≡◌, ℕ, ◌||◌, not, is_some, List, [], ◌∷◌, map, refl, sym, ap, ◌∙◌, arith}
use Rattle.std.specs.List.{list_any}
use Rattle.std.specs.List.Sorted.{IsStrictlySortedBy}
use Rattle.std.specs.FinMap.{get, keys, entries, contains_key-keys}
use Rattle.std.specs.Ordering.{eq_by_cmp}
use Rattle.std.proofs.Math.Bool.{and-true}
use Rattle.terrain_base.specs.declared.cell_key.CellKey.{CellKey}
use Rattle.terrain_base.specs.declared.name.Key.{Key}
use Rattle.terrain_base.specs.declared.name.Key.TheVariants.{Cell}
use Rattle.terrain_base.specs.declared.params.Params.{Params}
use Rattle.terrain_base.specs.declared.summary.Summary.{Summary}
use Rattle.terrain_base.specs.CellKey.{key_cmp}
use Rattle.cell_mosaic.specs.Cells.{Cells}
use Rattle.cell_mosaic.specs.Summaries.{summary_of, summaries_of}
use Rattle.database.specs.Cells.{AreRows, row_key, row_keys, has_row}
use Rattle.availability.specs.Layer.{layer_text_of}
use Rattle.db_manifest.specs.Manifest.{ManifestState, manifest_text}
use Rattle.database.specs.State.{State}
use Rattle.database.specs.Commands.{is_extra, marked_text}

entry_keys : (es : List (CellKey × List ℕ)) → row_keys (map (λ (e : CellKey × List ℕ). summary_of e.0 e.1) es) ≡ map (λ (e : CellKey × List ℕ). e.0) es
entry_keys [] = refl
entry_keys (e ∷ es) = ap (λ ks. e.0 ∷ ks) (entry_keys es)

-- the rows of cells have their keys
pub keys_of_rows : (cells : Cells) → row_keys (summaries_of cells) ≡ keys cells
keys_of_rows cells = entry_keys (entries cells)

-- a key has a row where it is among the keys of the rows
pub any_key : (rows : List Summary) (key : CellKey) → has_row rows key ≡ list_any (eq_by_cmp key_cmp key) (row_keys rows)
any_key [] key = refl
any_key (row ∷ rows) key = ap (λ b. eq_by_cmp key_cmp key (row_key row) || b) (any_key rows key)

-- a key has a row where it has a cell
pub row_there : (cells : Cells) (key : CellKey) → has_row (summaries_of cells) key ≡ is_some (get cells key)
row_there cells key = any_key (summaries_of cells) key ∙ ap (list_any (eq_by_cmp key_cmp key)) (keys_of_rows cells) ∙ sym (contains_key-keys cells key)

-- no rows are rows
pub no_rows : AreRows []
unfolding IsStrictlySortedBy
no_rows = record { ascend = tt; few = omega arith }

-- ---- what is no file

-- a cell's name is extra where its key has no row
pub cell_extra : (s : State) {rows : List Summary} (key : CellKey) (name : Key) → rows ≡ summaries_of s.cells → Cell key ≡ name → not (has_row rows key) ≡ is_extra s name
cell_extra s key name rows_is name_is =
    ap not (ap (λ rows. has_row rows key) rows_is ∙ row_there s.cells key) ∙ sym (and-true (not (is_some (get s.cells key)))) ∙ ap (is_extra s) name_is

-- ---- the texts of a state

pub layer_is : (s : State) {params : Params} {rows : List Summary} → params ≡ s.params → rows ≡ summaries_of s.cells → layer_text_of params.cap rows ≡ layer_text_of s.params.cap (summaries_of s.cells)
layer_is s p r = λ i. layer_text_of ((p i).cap) (r i)

pub text_is : (s : State) (mark : ManifestState) {params : Params} {rows : List Summary} → params ≡ s.params → rows ≡ summaries_of s.cells → manifest_text params mark (row_keys rows) ≡ marked_text mark s
text_is s mark p r = (λ i. manifest_text (p i) mark (row_keys (r i))) ∙ ap (manifest_text s.params mark) (keys_of_rows s.cells)
