use Rattle.std.proofs.Common.{◌≡◌, ◌-◌, map}
use Rattle.std.specs.List.{range_with_len}
use Rattle.common_laws.specs.First.{first_of}
use Rattle.mesh_codec.specs.Refusal.{entry_condition}
use Rattle.mesh_codec.proofs.index.read_entries.Given as goal

abbrev pub invariant-loop-k : goal.invariant-loop-k
invariant-loop-k l = first_of (map (entry_condition l.bytes l.vertices l.edge l.at) (range_with_len l.k (l.count - l.k))) ≡ first_of (map (entry_condition l.bytes l.vertices l.edge l.at) (range_with_len 0 l.count))
