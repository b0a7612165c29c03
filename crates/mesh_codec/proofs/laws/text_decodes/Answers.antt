use Rattle.mesh_codec.proofs.TextDecodes.{text_decodes}
use Rattle.mesh_codec.proofs.laws.text_decodes.Goals as goal

pub returns : goal.returns
returns c = text_decodes
