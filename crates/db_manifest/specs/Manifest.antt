-- The manifest of version 3: its rows are the keys of cells.
use Rattle.std.specs.Prelude.{◌≡◌, ℕ, ◌≤◌, Bool, true, not, List, length}
use Rattle.std.specs.List.{list_any}
use Rattle.std.specs.List.Sorted.{IsStrictlySortedBy}
use Rattle.std.specs.Ordering.{eq_by_cmp}
use Rattle.terrain_base.specs.declared.cell_key.CellKey.{CellKey}
use Rattle.terrain_base.specs.declared.params.Params.{Params}
use Rattle.terrain_base.specs.CellKey.{key_cmp}
use Rattle.manifest_lines.specs.declared.state.State.{State}
use Rattle.manifest_lines.specs.declared.state.State.TheVariants.{Closed, Put, Drop, Rebuild}
use Rattle.manifest_lines.specs.declared.version.Version.TheVariants.{Three}
use Rattle.manifest_lines.specs.KeyRow.{key_grammar}
use Rattle.manifest_lines.specs.Manifest as lines
use Rattle.manifest_lines.specs.Refused as refused

-- what is under way
abbrev pub ManifestState : Type 0
ManifestState = State CellKey

-- what a manifest says: params, state and rows
abbrev pub Contents : Type 0
Contents = lines.Contents CellKey

abbrev pub contents_of : Params → ManifestState → List CellKey → Contents
contents_of params state rows = record { params = params; state = state; rows = rows }

-- a key that is put is among the rows, and one that is dropped is not
abbrev pub fits_rows : ManifestState → List CellKey → Bool
fits_rows Closed rows = true
fits_rows (Put key) rows = list_any (eq_by_cmp key_cmp key) rows
fits_rows (Drop key) rows = not (list_any (eq_by_cmp key_cmp key) rows)
fits_rows Rebuild rows = true

-- a good manifest: its rows ascend, are at most 4096, and are as what is under way has them
pub record IsManifest (params : Params) (state : ManifestState) (rows : List CellKey) : Type 0 where
  pub ascend : IsStrictlySortedBy key_cmp rows
  pub few : length rows ≤ 4096
  pub fits : fits_rows state rows ≡ true

-- its text
unfoldable pub manifest_text : Params → ManifestState → List CellKey → List ℕ
manifest_text params state rows = lines.manifest_text key_grammar Three (contents_of params state rows)

-- the line for which bytes are refused
abbrev pub IsBadLine : ℕ → List ℕ → Type 0
IsBadLine line bytes = refused.IsBadLine key_grammar Three line bytes
