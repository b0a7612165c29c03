-- The reply to `cell`.
use Rattle.std.specs.Prelude.{ℕ, List, Option, Some, None}
use Rattle.dted_cell.specs.declared.refusal.CellRefusal.{CellRefusal}
use Rattle.dted_cell.specs.Refusal.{refusal_of}
use Rattle.report_text.specs.Cell.{cell_line_of}
use Rattle.report_text.specs.Refusal.{cell_refusal_of}
use Rattle.top_reply.specs.File.{cell_limit, file_reply}
use Rattle.top_reply.specs.Reply.{Reply, done_reply, refused_reply}

-- a good cell is told in one line
abbrev pub read_reply_by : List ℕ → Option CellRefusal → Reply
read_reply_by bytes None = done_reply (cell_line_of bytes)
read_reply_by bytes (Some refusal) = refused_reply (cell_refusal_of refusal)

abbrev pub read_reply : List ℕ → Reply
read_reply bytes = read_reply_by bytes (refusal_of bytes)

-- by what the library holds under the file's name
abbrev pub cell_reply : List ℕ → Option (List ℕ) → Reply
cell_reply file held = file_reply file cell_limit read_reply held
