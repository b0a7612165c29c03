use Rattle.std.proofs.Common.{arith}
use Rattle.mesh_codec.proofs.HighWaters.{mark_none}
use Rattle.mesh_codec.proofs.Lists.{few_of}
use Rattle.mesh_codec.proofs.Places.{triangle_list_is, triangles_in_range}
use Rattle.mesh_codec.proofs.triangles.Triangles.of.Goals as goal

pub invariant_of-result : goal.invariant_of-result
invariant_of-result c = record {
  tile = c.requires;
  vertex_count = c.vertex_number.ensures.number;
  triangle_count = c.triangle_number.ensures.number;
  within = omega arith;
  marked = record { mark_is = mark_none _ c.args.bytes.now _; few = omega arith };
}

pub returns-clause-triangles : goal.returns-clause-triangles
returns-clause-triangles c = triangle_list_is c.args.bytes.now c.vertex_number.result c.triangle_number.result c.vertex_number.ensures.number c.triangle_number.ensures.number

pub returns-clause-in_range : goal.returns-clause-in_range
returns-clause-in_range c = triangles_in_range c.args.bytes.now c.vertex_number.result c.triangle_number.result c.requires c.vertex_number.ensures.number c.triangle_number.ensures.number

pub returns-clause-few : goal.returns-clause-few
returns-clause-few c = few_of _ c.triangle_number.result c.triangle_number.ensures.few
