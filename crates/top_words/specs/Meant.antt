-- The command of the code, in the words of the definitions.
use Rattle.top_words.specs.declared.command.Edit as coded_edit
use Rattle.top_words.specs.declared.command.Edit.TheVariants as edit
use Rattle.top_words.specs.declared.command.DatabaseCommand as coded_database
use Rattle.top_words.specs.declared.command.DatabaseCommand.TheVariants as database
use Rattle.top_words.specs.declared.command.Command as coded
use Rattle.top_words.specs.declared.command.Command.TheVariants as command
use Rattle.top_words.specs.declared.script.Line as coded_line
use Rattle.top_words.specs.declared.script.Line.TheVariants as line
use Rattle.top_words.specs.Script.{Line, Passed, Change as Changes, NoCommand}
use Rattle.top_words.specs.Words.{Edit, Add, Replace, Remove, DatabaseCommand, Ask, Change, Apply, Rebuild, Check, Command, Init, Database, ReadCell, Audit, Migrate, Convert, Trial}

abbrev pub edit_meant : coded_edit.Edit → Edit
edit_meant (edit.Add file) = Add file.now
edit_meant (edit.Replace file) = Replace file.now
edit_meant (edit.Remove key) = Remove key

abbrev pub line_meant : coded_line.Line → Line
line_meant line.Passed = Passed
line_meant (line.Change e) = Changes (edit_meant e)
line_meant line.NoCommand = NoCommand

abbrev pub database_meant : coded_database.DatabaseCommand → DatabaseCommand
database_meant (database.Ask query) = Ask query
database_meant (database.Change e) = Change (edit_meant e)
database_meant (database.Apply script) = Apply script.now
database_meant database.Rebuild = Rebuild
database_meant database.Check = Check

abbrev pub meant : coded.Command → Command
meant (command.Init params) = Init params
meant (command.Database c) = Database (database_meant c)
meant (command.Cell file) = ReadCell file.now
meant (command.Audit file) = Audit file.now
meant command.Migrate = Migrate
meant (command.Convert file) = Convert file.now
meant (command.Trial count number) = Trial count number
