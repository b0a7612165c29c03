use Rattle.std.proofs.Common.{◌≡◌, ◌≤◌, ◌++◌, drop}
use Rattle.terrain_base.specs.FirstUse.{corners}
use Rattle.mesh_codec.specs.Text.{AreWithinMark, index_width, indexes_text}
use Rattle.mesh_codec.proofs.encoding.put_triangles.Given as goal

abbrev pub invariant-loop-triangle : goal.invariant-loop-triangle
invariant-loop-triangle l = record {
  rest : l.out.items ++ indexes_text (index_width l.vertices) l.mark (corners (drop l.triangle-index l.triangles)) ≡ l.fn.out.items ++ indexes_text (index_width l.vertices) 0 (corners l.triangles);
  within : AreWithinMark l.mark (corners (drop l.triangle-index l.triangles));
  few : l.mark ≤ l.vertices;
}
