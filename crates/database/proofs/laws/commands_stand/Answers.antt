use Rattle.database.proofs.Command.{command_stands, command_ends}
use Rattle.database.proofs.laws.commands_stand.Goals as goal

pub returns : goal.returns
returns c = λ edit s files state stands. (command_stands edit s files state stands, command_ends edit s files state stands)
