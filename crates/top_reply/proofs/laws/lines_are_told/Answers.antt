use Rattle.database.specs.State.{ReadsFor, StandsFor}
use Rattle.top_reply.proofs.ToldLines.{lines_are_told}
use Rattle.top_reply.proofs.laws.lines_are_told.Goals as goal

pub returns-clause-standing : goal.returns-clause-standing
returns-clause-standing c = lines_are_told StandsFor

pub returns-clause-reading : goal.returns-clause-reading
returns-clause-reading c = lines_are_told ReadsFor
