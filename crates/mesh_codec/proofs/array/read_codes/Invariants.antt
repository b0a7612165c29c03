use Rattle.std.proofs.Common.{◌≡◌, ◌-◌, ◌≤◌, pos, map}
use Rattle.std.specs.List.{range_with_len}
use Rattle.common_laws.specs.First.{first_of}
use Rattle.mesh_codec.specs.Difference.{sum_before}
use Rattle.mesh_codec.specs.Refusal.{code_condition}
use Rattle.mesh_codec.proofs.array.read_codes.Given as goal

abbrev pub invariant-loop-k : goal.invariant-loop-k
invariant-loop-k l = record {
  first : first_of (map (code_condition l.bytes l.array l.at) (range_with_len l.k (l.count - l.k))) ≡ first_of (map (code_condition l.bytes l.array l.at) (range_with_len 0 l.count));
  sum : sum_before l.bytes l.at l.k ≡ pos l.code;
  small : l.code ≤ 32767;
}
