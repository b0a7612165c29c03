use Rattle.database.proofs.Command.{command_changes}
use Rattle.database.proofs.laws.commands_overwrite.Goals as goal

pub returns : goal.returns
returns c = command_changes
