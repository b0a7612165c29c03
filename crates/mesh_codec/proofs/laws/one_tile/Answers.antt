use Rattle.std.proofs.Common.{sym}
use Rattle.mesh_codec.proofs.FirstLaws.{some_tile, unrefused_by}
use Rattle.mesh_codec.proofs.Uniqueness.{same_mesh, same_extensions}
use Rattle.mesh_codec.proofs.laws.one_tile.Goals as goal

pub returns-clause-accepted : goal.returns-clause-accepted
returns-clause-accepted c = some_tile

pub returns-clause-unrefused : goal.returns-clause-unrefused
returns-clause-unrefused c = unrefused_by

pub returns-clause-header : goal.returns-clause-header
returns-clause-header c bytes header mesh extensions decodes = sym decodes.header_is

pub returns-clause-mesh : goal.returns-clause-mesh
returns-clause-mesh c = same_mesh

pub returns-clause-extensions : goal.returns-clause-extensions
returns-clause-extensions c = same_extensions
