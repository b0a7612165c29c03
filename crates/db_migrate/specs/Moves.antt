-- The cells that get a name of the present version, and all changes that bring a database to it.
use Rattle.std.specs.Prelude.{◌≡◌, Bool, ◌||◌, is_none, List, ◌++◌, ℕ, map, Option, Some}
use Rattle.std.specs.FinMap.{get, keys}
use Rattle.std.specs.List.{filter}
use Rattle.terrain_base.specs.declared.cell_key.CellKey.{CellKey}
use Rattle.terrain_base.specs.declared.name.Key.{Key}
use Rattle.terrain_base.specs.declared.name.Key.TheVariants.{Cell}
use Rattle.terrain_base.specs.declared.summary.Summary.{Summary}
use Rattle.terrain_base.specs.Overwrite.{steps_to, all_changed}
use Rattle.terrain_base.specs.Step.{Files, Step}
use Rattle.cell_mosaic.specs.Summaries.{summaries_of}
use Rattle.manifest_lines.specs.declared.version.Version.{Version}
use Rattle.old_manifest.specs.declared.row.OldRow.{OldRow}
use Rattle.old_manifest.specs.Manifest.{staged_of}
use Rattle.database.specs.Commands.{rebuild_calls}
use Rattle.database.specs.State.{State, file_of}
use Rattle.db_old_reading.specs.Kept.{row_of, kept_under, is_staged}
use Rattle.db_old_reading.specs.OldReads.{OldMark, OldReads}

-- the bytes of the row's cell are not under the name that is to be: in version 1 none are, in version 2 those on the
-- stage are not
abbrev pub is_moved : Option OldRow → OldRow → Bool
is_moved staged row = is_none row.level || is_staged staged row

-- the new names of these, in their order
abbrev pub moved : Version → Option OldRow → List CellKey → List Key
moved v staged keys = map Cell (filter (λ key. is_moved staged (row_of v key)) keys)

-- each of them gets the bytes of its cell
abbrev pub moving : Version → OldMark → State → List Step
moving v mark s = steps_to (file_of s) (moved v (staged_of mark) (keys s.cells))

-- and then the database is made anew, which begins with the manifest of the present version
abbrev pub migrating : Version → OldMark → Files → State → List Step
migrating v mark files s = moving v mark s ++ rebuild_calls (all_changed (moving v mark s) files) s

-- the store holds the bytes of the state's cell where they are kept
pub record Gives (held : Option Files) (v : Version) (staged : Option OldRow) (key : CellKey) (s : State) : Type 0 where
  pub files : Files
  pub held_is : held ≡ Some files
  pub bytes : List ℕ
  pub cell : get s.cells key ≡ Some bytes
  pub kept : get files (kept_under staged (row_of v key)) ≡ Some bytes

-- the store holds the files, which read as the state by the version; its staged row, and its cells in short, are these
pub record Keeps (held : Option Files) (v : Version) (staged : Option OldRow) (rows : List Summary) (files : Files)
    (s : State) (mark : OldMark) : Type 0 where
  pub held_is : held ≡ Some files
  pub reads : OldReads files v s mark
  pub staged_is : staged ≡ staged_of mark
  pub rows_is : rows ≡ summaries_of s.cells
