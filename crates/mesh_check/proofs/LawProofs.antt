-- The laws of verdicts and findings.
use Rattle.std.proofs.Common.{◌≡◌, refl, sym, length}
use Rattle.mesh_codec.specs.Mesh.{Mesh}
use Rattle.mesh_check.specs.declared.verdict.Verdict.{Verdict}
use Rattle.mesh_check.specs.declared.verdict.Verdict.TheVariants.{Good, Found}
use Rattle.mesh_check.specs.CodeMesh.{levels_of, triangles_of, IsVerdict}
use Rattle.mesh_check.specs.Laws.{OneVerdictLaw, OneFindingLaw, NoneWhereCoveredLaw, GoodLaw}
use Rattle.mesh_check.proofs.MeshPlaced.{placed}
use Rattle.mesh_check.proofs.OneFinding.{one_finding, none_comes}

by_verdict : (mesh : Mesh) (v w : Verdict) → IsVerdict mesh v → IsVerdict mesh w → v ≡ w
by_verdict mesh Good w h k = sym (k.good.1 (h.good.0 refl))
by_verdict mesh (Found f) w h k = sym ((k.found f).1 ((h.found f).0 refl))

pub one_verdict_law : OneVerdictLaw
one_verdict_law mesh v w h k = by_verdict mesh v w h k

pub one_finding_law : OneFindingLaw
one_finding_law mesh f g h k = one_finding (levels_of mesh) (triangles_of mesh) (length mesh.vertices) f g h k

pub none_where_covered_law : NoneWhereCoveredLaw
none_where_covered_law mesh f is few covers h = none_comes (levels_of mesh) (triangles_of mesh) (placed mesh is)
    (length mesh.vertices) few covers f h

pub good_law : GoodLaw
good_law mesh v h = h.good
