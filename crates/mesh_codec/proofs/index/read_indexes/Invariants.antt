use Rattle.std.proofs.Common.{◌≡◌, ◌-◌, ◌≤◌, map}
use Rattle.std.specs.List.{range_with_len}
use Rattle.common_laws.specs.First.{first_of}
use Rattle.mesh_codec.specs.Text.{index_width}
use Rattle.mesh_codec.specs.HighWater.{mark_at}
use Rattle.mesh_codec.specs.Refusal.{index_condition}
use Rattle.mesh_codec.proofs.index.read_indexes.Given as goal

abbrev pub invariant-loop-k : goal.invariant-loop-k
invariant-loop-k l = record {
  first : first_of (map (index_condition l.bytes l.vertices l.at) (range_with_len l.k (l.count - l.k))) ≡ first_of (map (index_condition l.bytes l.vertices l.at) (range_with_len 0 l.count));
  mark : mark_at (index_width l.vertices) l.bytes l.at l.k ≡ l.mark;
  few : l.mark ≤ l.vertices;
}
