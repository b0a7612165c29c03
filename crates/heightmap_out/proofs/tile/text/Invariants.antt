use Rattle.std.proofs.Common.{◌≡◌, take}
use Rattle.std.specs.List.{flat_map}
use Rattle.heightmap_out.specs.Tile.{bytes_of}
use Rattle.heightmap_out.proofs.tile.text.Given as goal

abbrev pub invariant-loop-sample : goal.invariant-loop-sample
invariant-loop-sample l = l.bytes.items ≡ flat_map bytes_of (take l.sample-index l.samples)
