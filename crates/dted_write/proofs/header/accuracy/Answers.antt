use Rattle.std.proofs.Common.{◌++◌, codes, ap, ◌∙◌}
use Rattle.dted_write.specs.Header.{blanks}
use Rattle.dted_write.proofs.Labels.{accuracy_is}
use Rattle.dted_write.proofs.header.accuracy.Goals as goal

pub returns : goal.returns
returns c =
    let label = c.in_ok-extend_from_slice.ensures.items ∙ ap (λ text. text ++ codes "ACC") c.new-text.ensures.items in
    c.in_ok-extend_from_slice-2.ensures.items ∙ ap (λ text. text ++ blanks 2697) label ∙ accuracy_is
