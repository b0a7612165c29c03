-- Files that read as a state by an old version.
use Rattle.std.specs.Prelude.{◌≡◌, ℕ, ◌<◌, List, map, Some}
use Rattle.std.specs.FinMap.{get, keys}
use Rattle.terrain_base.specs.declared.cell_key.CellKey.{CellKey}
use Rattle.terrain_base.specs.declared.name.Key.TheVariants.{Manifest}
use Rattle.terrain_base.specs.Step.{Files}
use Rattle.manifest_lines.specs.declared.state.State as lines
use Rattle.manifest_lines.specs.declared.version.Version.{Version}
use Rattle.manifest_lines.specs.Version.{version_number}
use Rattle.old_manifest.specs.declared.row.OldRow.{OldRow}
use Rattle.old_manifest.specs.Manifest.{Contents, IsManifest, manifest_text, staged_of}
use Rattle.database.specs.State.{State, IsState}
use Rattle.db_old_reading.specs.Kept.{row_of, kept_under}

-- what is under way in an old database
abbrev pub OldMark : Type 0
OldMark = lines.State OldRow

-- what the manifest says of the state while the mark stands
abbrev pub contents_of : Version → State → OldMark → Contents
contents_of v s mark = record { params = s.params; state = mark; rows = map (row_of v) (keys s.cells) }

-- The manifest is good and is that of the state with this mark, so in version 1 a square has at most one cell. Each
-- cell's bytes are where they are kept: on the stage where it is put, else under the name that the version gives it.
pub record OldReads (files : Files) (v : Version) (s : State) (mark : OldMark) : Type 0 where
  pub old : version_number v < 3
  pub manifest : get files Manifest ≡ Some (manifest_text v (contents_of v s mark))
  pub good : IsManifest v (contents_of v s mark)
  pub state : IsState s
  pub cells : (key : CellKey) (bytes : List ℕ) → get s.cells key ≡ Some bytes
      → get files (kept_under (staged_of mark) (row_of v key)) ≡ Some bytes

-- it reads as the state, whatever is under way
pub record OldReadsFor (files : Files) (v : Version) (s : State) : Type 0 where
  pub mark : OldMark
  pub reads : OldReads files v s mark
