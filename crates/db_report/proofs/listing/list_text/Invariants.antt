use Rattle.std.proofs.Common.{◌≡◌, ◌++◌, codes, take, string_bytes, length}
use Rattle.std.specs.List.{flat_map}
use Rattle.db_report.specs.Listing.{list_head, row_line_of}
use Rattle.db_report.proofs.listing.list_text.Given as goal

abbrev pub invariant-loop-row : goal.invariant-loop-row
invariant-loop-row l =
    string_bytes l.text ≡ (list_head l.fn.params (length l.rows) ++ codes "\n") ++ flat_map (λ row. row_line_of row ++ codes "\n") (take l.row-index l.rows)
