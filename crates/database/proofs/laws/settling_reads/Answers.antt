use Rattle.database.proofs.Settled.{settling_reads, settling_leaves}
use Rattle.database.proofs.laws.settling_reads.Goals as goal

pub returns : goal.returns
returns c = λ mark s files reads. (settling_reads mark s files reads, settling_leaves mark s files reads)
