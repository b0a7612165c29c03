use Rattle.database.proofs.Starting.{HasAll, calls_end, calls_stand}
use Rattle.database.proofs.laws.rebuildings_stand.Goals as goal

pub returns : goal.returns
returns c = λ s files reads.
    let held : HasAll files s = record { state = reads.state; cells = λ key bytes at. reads.cells key bytes at } in
    (calls_stand s files held, calls_end s files held)
