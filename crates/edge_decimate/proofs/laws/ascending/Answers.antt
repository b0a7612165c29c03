use Rattle.edge_decimate.proofs.Rising.{kept_ascend}
use Rattle.edge_decimate.proofs.laws.ascending.Goals as goal

pub returns : goal.returns
returns c = kept_ascend
