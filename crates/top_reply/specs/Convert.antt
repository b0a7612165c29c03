-- The reply to `convert`.
use Rattle.std.specs.Prelude.{ℕ, List, [], ◌∷◌, codes, Option, Some, None}
use Rattle.terrain_base.specs.declared.square.Square.{Square}
use Rattle.hgt_cells.specs.declared.refusal.HgtRefusal.{HgtRefusal}
use Rattle.hgt_cells.specs.Cell.{hgt_cell_text}
use Rattle.hgt_cells.specs.Name.{square_named}
use Rattle.hgt_cells.specs.Refusal.{hgt_refusal_of}
use Rattle.hgt_cells.specs.Text.{hgt_refusal_text_of}
use Rattle.report_text.specs.Words.{joined}
use Rattle.top_reply.specs.File.{cell_limit, file_reply}
use Rattle.top_reply.specs.Reply.{Reply, refused_reply, text_reply}

-- the bytes of the cell and nothing else, or the refusal of the bytes as a raster of the form HGT
abbrev pub converted_by : Square → List ℕ → Option HgtRefusal → Reply
converted_by square bytes None = text_reply (hgt_cell_text square bytes)
converted_by square bytes (Some refusal) = refused_reply (hgt_refusal_text_of refusal)

abbrev pub converted : Square → List ℕ → Reply
converted square bytes = converted_by square bytes (hgt_refusal_of bytes)

-- the name of the file is not that of a square
abbrev pub bad_name_text : List ℕ → List ℕ
bad_name_text file = joined (codes "F4 bad hgt name " ∷ file ∷ [])

-- by the square that the name tells, and what the library holds under it
abbrev pub convert_by : Option Square → List ℕ → Option (List ℕ) → Reply
convert_by None file held = refused_reply (bad_name_text file)
convert_by (Some square) file held = file_reply file cell_limit (converted square) held

abbrev pub convert_reply : List ℕ → Option (List ℕ) → Reply
convert_reply file held = convert_by (square_named file) file held
