-- What an old manifest says, and by which version's grammar bytes are read.
use Rattle.std.specs.Prelude.{ℕ, List, Option, Some, None, if◌then◌else◌}
use Rattle.manifest_lines.specs.declared.refusal.ManifestRefusal.{ManifestRefusal}
use Rattle.manifest_lines.specs.declared.state.State.{State}
use Rattle.manifest_lines.specs.declared.state.State.TheVariants.{Closed, Put, Drop, Rebuild}
use Rattle.manifest_lines.specs.declared.version.Version.{Version}
use Rattle.manifest_lines.specs.declared.version.Version.TheVariants.{One, Two}
use Rattle.manifest_lines.specs.Version.{begins_as}
use Rattle.manifest_lines.specs.Manifest as lines
use Rattle.manifest_lines.specs.Reading as reading
use Rattle.old_manifest.specs.declared.row.OldRow.{OldRow}
use Rattle.old_manifest.specs.Rows.{old_grammar}

abbrev pub Contents : Type 0
Contents = lines.Contents OldRow

-- the row that is put
abbrev pub staged_of : State OldRow → Option OldRow
staged_of Closed = None
staged_of (Put key) = Some key
staged_of (Drop key) = None
staged_of Rebuild = None

-- a good manifest of an old version, and its text
abbrev pub IsManifest : Version → Contents → Type 0
IsManifest v m = lines.IsManifest old_grammar v m

abbrev pub manifest_text : Version → Contents → List ℕ
manifest_text v m = lines.manifest_text old_grammar v m

-- by the grammar of version 2 where their first line is that of version 2, else by that of version 1
abbrev pub version_of : List ℕ → Version
version_of bytes = if begins_as bytes Two then Two else One

-- the bytes are the text of this good manifest, and of no other
abbrev pub IsTextOf : List ℕ → Contents → Type 0
IsTextOf bytes m = reading.IsTextOf old_grammar (version_of bytes) bytes m

-- the refusal carries the line for which the bytes are refused; want of memory tells nothing of them
abbrev pub IsRefusedBy : List ℕ → ManifestRefusal → Type 0
IsRefusedBy bytes refusal = reading.IsRefusedBy old_grammar (version_of bytes) bytes refusal
