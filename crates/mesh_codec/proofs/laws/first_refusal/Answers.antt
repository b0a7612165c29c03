use Rattle.common_laws.proofs.First.{first_found, first_only}
use Rattle.mesh_codec.specs.Refusal.{conditions_of}
use Rattle.mesh_codec.proofs.FirstLaws.{plain_by, compressed_by}
use Rattle.mesh_codec.proofs.laws.first_refusal.Goals as goal

pub returns-clause-found : goal.returns-clause-found
returns-clause-found c bytes refusal e = first_found (conditions_of bytes) refusal e

pub returns-clause-only : goal.returns-clause-only
returns-clause-only c bytes refusal e = first_only (conditions_of bytes) refusal e

pub returns-clause-plain : goal.returns-clause-plain
returns-clause-plain c = plain_by

pub returns-clause-compressed : goal.returns-clause-compressed
returns-clause-compressed c = compressed_by
