use Rattle.std.proofs.Common.{arith}
use Rattle.mesh_codec.proofs.Runs.{sum_none}
use Rattle.mesh_codec.proofs.Lists.{few_of}
use Rattle.mesh_codec.proofs.Places.{vertex_list_is, vertices_in_range}
use Rattle.mesh_codec.proofs.vertex_codes.VertexCodes.of.Goals as goal

pub invariant_of-result : goal.invariant_of-result
invariant_of-result c = record {
  tile = c.requires;
  count = c.vertex_number.ensures.number;
  within = omega arith;
  u_read = record { sum = sum_none c.args.bytes.now _; small = omega arith };
  v_read = record { sum = sum_none c.args.bytes.now _; small = omega arith };
  height_read = record { sum = sum_none c.args.bytes.now _; small = omega arith };
}

pub returns-clause-vertices : goal.returns-clause-vertices
returns-clause-vertices c = vertex_list_is c.args.bytes.now c.vertex_number.result c.vertex_number.ensures.number

pub returns-clause-in_range : goal.returns-clause-in_range
returns-clause-in_range c = vertices_in_range c.args.bytes.now c.vertex_number.result

pub returns-clause-few : goal.returns-clause-few
returns-clause-few c = few_of _ c.vertex_number.result c.vertex_number.ensures.few
