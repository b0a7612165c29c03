-- The corners so far are those of the vertices so far.
use Rattle.std.proofs.Common.{◌≡◌, ◌++◌, All}
use Rattle.std.specs.List.{AllZip}
use Rattle.mesh_codec.specs.Mesh.{IsVertex}
use Rattle.mesh_codec.specs.Tile.{header_in, vertex_list}
use Rattle.mesh_query.specs.Metres.{IsCorner}
use Rattle.mesh_query.proofs.metres.corners_of.Given as goal

abbrev pub invariant-loop-codes : goal.invariant-loop-codes
invariant-loop-codes l = record {
  whole : l.yielded ++ l.codes-iterator ≡ vertex_list l.view;
  in_range : All IsVertex l.codes-iterator;
  done : AllZip (IsCorner (header_in l.view)) l.yielded l.corners.items;
}
