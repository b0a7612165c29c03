use Rattle.std.proofs.Common.{◌≡◌, ◌++◌, take, string_bytes, length}
use Rattle.std.specs.List.{flat_map}
use Rattle.tile_query.specs.Text.{profile_head, break_line_of}
use Rattle.tile_query.proofs.profile.profile_text.Given as goal

abbrev pub invariant-loop-bend : goal.invariant-loop-bend
invariant-loop-bend l =
    string_bytes l.text ≡ profile_head l.fn.tile (length l.bends) ++ flat_map break_line_of (take l.bend-index l.bends)
