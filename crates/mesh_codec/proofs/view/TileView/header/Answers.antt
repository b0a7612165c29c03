use Rattle.std.proofs.Common.{arith}
use Rattle.mesh_codec.proofs.Places.{counted}
use Rattle.mesh_codec.proofs.view.TileView.header.Goals as goal

pub header_at-requires : goal.header_at-requires
header_at-requires c = omega (arith, counted c.self.inside.bytes.now c.self.invariant)
