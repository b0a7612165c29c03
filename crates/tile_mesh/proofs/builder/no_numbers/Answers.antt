use Rattle.tile_mesh.proofs.Places.{resized}
use Rattle.tile_mesh.proofs.builder.no_numbers.Goals as goal

pub returns : goal.returns
returns c =
    resized c.new-numbers.result.items c.resize.new.self.items c.new-numbers.result.len c.new-numbers.ensures.items
    c.new-numbers.ensures.len c.in_ok-resize.ensures.items
