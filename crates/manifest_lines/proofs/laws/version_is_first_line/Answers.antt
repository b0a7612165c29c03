use Rattle.manifest_lines.proofs.Versions.{version_of, first_line_of}
use Rattle.manifest_lines.proofs.laws.version_is_first_line.Goals as goal

pub returns : goal.returns
returns c bytes v = (first_line_of bytes v, λ found. version_of bytes v found.0 found.1)
