use Rattle.std.specs.Prelude.{◌≡◌, ◌++◌, map, take}
use Rattle.terrain_base.specs.Name.{row_text}
use Rattle.manifest_lines.specs.Line.{ended}
use Rattle.db_manifest.proofs.manifest.Manifest.write.Given as goal

abbrev pub invariant-loop-row : goal.invariant-loop-row
invariant-loop-row l = l.text.items ≡ l.initial.text.items ++ ended (map row_text (take l.row-index l.rows))
