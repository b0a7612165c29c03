use Rattle.std.proofs.Common.{◌+◌, arith, ◌∙◌, drop, length-drop}
use Rattle.std.proofs.lemmas.List.{take_all}
use Rattle.manifest_lines.proofs.Readers.{feed_is, no_feed, parts_at}
use Rattle.manifest_lines.proofs.line.split_line.Goals as goal

pub returns-in_err-end-clause-first : goal.returns-in_err-end-clause-first
returns-in_err-end-clause-first c line rest is e = absurd (no_feed c.args.bytes.now line rest e c.in_err-end.ensures.none)

pub returns-clause-first : goal.returns-clause-first
returns-clause-first c line rest is e =
    let end = feed_is c.args.bytes.now line rest c.in_ok-end.end is e c.in_ok-end.ensures.found.0 c.in_ok-end.ensures.found.1 c.in_ok-end.ensures.first in
    let parts = parts_at c.args.bytes.now line rest c.in_ok-end.end e end in
    (parts.0, take_all _ (drop (c.in_ok-end.end + 1) c.args.bytes.now) (omega (arith, length-drop (c.in_ok-end.end + 1) c.args.bytes.now)) ∙ parts.1)
