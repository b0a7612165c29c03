-- Where the cells of an old database are kept, and the keys that they are to have.
use Rattle.std.specs.Prelude.{Bool, false, List, ℕ, Option, Some, None, if◌then◌else◌}
use Rattle.std.specs.FinMap.{get}
use Rattle.std.specs.Option.{unwrap_or}
use Rattle.std.specs.Ordering.{eq_by_cmp}
use Rattle.terrain_base.specs.declared.cell_key.CellKey.{CellKey}
use Rattle.terrain_base.specs.declared.level.CellLevel.{CellLevel}
use Rattle.terrain_base.specs.declared.name.Key.{Key}
use Rattle.terrain_base.specs.declared.name.Key.TheVariants.{Stage, Cell, OldCell}
use Rattle.terrain_base.specs.declared.square.Square.{Square}
use Rattle.terrain_base.specs.CellKey.{key_at}
use Rattle.terrain_base.specs.Step.{Files}
use Rattle.dted_cell.specs.Cell.{level_in}
use Rattle.manifest_lines.specs.declared.version.Version.{Version}
use Rattle.manifest_lines.specs.declared.version.Version.TheVariants.{One, Two, Three}
use Rattle.old_manifest.specs.declared.row.OldRow.{OldRow}
use Rattle.old_manifest.specs.Rows.{old_cmp}
use Rattle.database.specs.Reading.{or_nothing}

-- the row of a key: its square alone in version 1, and its level with it from version 2 on
abbrev pub row_of : Version → CellKey → OldRow
row_of One key = record { square = key.square; level = None }
row_of Two key = record { square = key.square; level = Some key.level }
row_of Three key = record { square = key.square; level = Some key.level }

-- the key of the cell in a row's file: its level is the file's own where the row has none
abbrev pub key_of : OldRow → List ℕ → CellKey
key_of row bytes = key_at row.square (unwrap_or row.level (level_in bytes))

-- ---- the names

-- it is the row that is put
abbrev pub is_staged : Option OldRow → OldRow → Bool
is_staged None row = false
is_staged (Some put) row = eq_by_cmp old_cmp put row

abbrev pub name_by : Option CellLevel → Square → Key
name_by None square = OldCell square
name_by (Some level) square = Cell (key_at square level)

-- where the bytes of a row's cell are: on the stage where it is put, else under the row's own name
abbrev pub kept_under : Option OldRow → OldRow → Key
kept_under staged row = if is_staged staged row then Stage else name_by row.level row.square

-- what is held under the name
abbrev pub bytes_under : Files → Key → List ℕ
bytes_under files name = or_nothing (get files name)
