use Rattle.std.proofs.Common.{◌≡◌, ◌++◌, codes, take, string_bytes, length}
use Rattle.std.specs.List.{flat_map}
use Rattle.terrain_base.specs.SquareText.{square_text}
use Rattle.db_report.specs.Listing.{deps_head}
use Rattle.db_report.proofs.listing.deps_text.Given as goal

abbrev pub invariant-loop-square : goal.invariant-loop-square
invariant-loop-square l =
    string_bytes l.text ≡ (deps_head l.fn.tile (length l.squares) ++ codes "\n") ++ flat_map (λ square. square_text square ++ codes "\n") (take l.square-index l.squares)
