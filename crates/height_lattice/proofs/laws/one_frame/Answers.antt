use Rattle.height_lattice.proofs.Frames.{same_frame}
use Rattle.height_lattice.proofs.laws.one_frame.Goals as goal

pub returns : goal.returns
returns c = same_frame
