-- What the code read, in the words of the definitions.
use Rattle.std.specs.Prelude.{string_bytes}
use Rattle.cell_mosaic.specs.Whole.{key_in}
use Rattle.database.specs.Commands as database
use Rattle.top_reply.specs.Edits.{Wanted, Refused, Wants}
use Rattle.top_reply.specs.File.{Found, Bytes, NoFile}
use Rattle.terrain_top.specs.declared.edit.Wanted as coded_wanted
use Rattle.terrain_top.specs.declared.edit.Wanted.TheVariants as code
use Rattle.terrain_top.specs.declared.file.FileRead as coded_file
use Rattle.terrain_top.specs.declared.file.FileRead.TheVariants as file

abbrev pub file_meant : coded_file.FileRead → Found
file_meant (file.Bytes bytes) = Bytes bytes.items
file_meant (file.NoFile cause) = NoFile (string_bytes cause)

abbrev pub wanted_meant : coded_wanted.Wanted → Wanted
wanted_meant (code.Refused cause) = Refused (string_bytes cause)
wanted_meant (code.Add cell) = Wants (database.Add (key_in cell) cell)
wanted_meant (code.Replace cell) = Wants (database.Replace (key_in cell) cell)
wanted_meant (code.Remove key) = Wants (database.Remove key)
