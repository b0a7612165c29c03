use Rattle.database.proofs.Settled.{settling_fronts, settling_files}
use Rattle.database.proofs.laws.settling_stands.Goals as goal

pub returns : goal.returns
returns c = λ mark s files stands. (settling_fronts mark s files stands, settling_files mark s files stands)
