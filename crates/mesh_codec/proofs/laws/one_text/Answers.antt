use Rattle.mesh_codec.proofs.TextDecodes.{text_padding}
use Rattle.mesh_codec.proofs.OneText.{only_text}
use Rattle.mesh_codec.proofs.laws.one_text.Goals as goal

pub returns-clause-zeros : goal.returns-clause-zeros
returns-clause-zeros c = text_padding

pub returns-clause-only : goal.returns-clause-only
returns-clause-only c = only_text
