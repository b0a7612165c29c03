use Rattle.std.proofs.Common.{sym, subst}
use Rattle.std.specs.Str.{IsAscii}
use Rattle.report_text.proofs.SquareWords.{square_is_ascii}
use Rattle.db_report.proofs.words.square_word.Goals as goal

pub spelled-requires : goal.spelled-requires
spelled-requires c = subst IsAscii (sym c.text-text.ensures) (square_is_ascii c.args.square)
