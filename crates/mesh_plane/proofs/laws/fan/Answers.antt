-- The law of fans.
use Rattle.mesh_plane.proofs.FanProof.{fan_law}
use Rattle.mesh_plane.proofs.laws.fan.Goals as goal

pub returns : goal.returns
returns c = fan_law
