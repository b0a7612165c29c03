use Rattle.manifest_lines.proofs.Lines.{same_lines}
use Rattle.manifest_lines.proofs.laws.lines_differ.Goals as goal

pub returns : goal.returns
returns c = same_lines
