use Rattle.height_lattice.proofs.Codes.{same_code}
use Rattle.height_lattice.proofs.laws.one_code.Goals as goal

pub returns : goal.returns
returns c = same_code
