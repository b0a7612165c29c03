use Rattle.manifest_lines.proofs.Readers.{text_found, ascii_height, height_found}
use Rattle.std.proofs.Common.{◌∙◌}
use Rattle.manifest_lines.proofs.number.guess_height.Goals as goal

pub returns-in_err-ok : goal.returns-in_err-ok
returns-in_err-ok c wanted small e =
    absurd (rw c.in_err-ok.was at (text_found _ _ _ _ c.from_utf8.ensures.cases c.ok.ensures.value (ascii_height _ wanted small e)))

pub returns : goal.returns
returns c wanted small e =
    let text = rw c.in_ok-ok.was at (text_found _ _ _ _ c.from_utf8.ensures.cases c.ok.ensures.value (ascii_height _ wanted small e)) in
    height_found wanted _ _ _ small (text ∙ e) c.parse.ensures.value.0 c.ok-2.ensures.value
