use Rattle.std.proofs.Common.{◌≡◌, ◌++◌, codes, decimal, take, string_bytes, length}
use Rattle.std.specs.List.{flat_map}
use Rattle.tile_query.specs.Text.{view_head}
use Rattle.tile_query.proofs.view.view_text.Given as goal

abbrev pub invariant-loop-number : goal.invariant-loop-number
invariant-loop-number l =
    string_bytes l.text
    ≡ view_head l.fn.tile l.fn.vertices (length l.seen) ++ flat_map (λ k. decimal k ++ codes "\n") (take l.number-index l.seen)
