use Rattle.std.proofs.Common.{sym, subst}
use Rattle.std.specs.Str.{IsAscii}
use Rattle.db_report.proofs.Names.{name_is_ascii}
use Rattle.db_report.proofs.words.name_word.Goals as goal

pub spelled-requires : goal.spelled-requires
spelled-requires c = subst IsAscii (sym c.bytes.ensures) (name_is_ascii c.args.name.now)
