use Rattle.std.proofs.Common.{List, length, ap, ◌∙◌}
use Rattle.mesh_codec.specs.Extension.{ExtensionData}
use Rattle.mesh_codec.specs.Tile.{extensions_in}
use Rattle.report_text.specs.Tile.{audit_line_of}
use Rattle.report_text.proofs.tile.audit_line.Goals as goal

pub returns : goal.returns
unfolding audit_line_of extensions_in
returns c =
    let extensions = c.count_of-extensions.ensures ∙ ap (λ (list : List ExtensionData). length list) c.extensions.ensures.list in
    rw (c.in_ok-format.ensures.ok, c.vertices-vertices.ensures, c.triangle_count-triangles.ensures, extensions)
