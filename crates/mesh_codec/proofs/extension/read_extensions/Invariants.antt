use Rattle.std.proofs.Common.{◌≡◌, ◌≤◌, ◌-◌, length}
use Rattle.common_laws.specs.First.{first_of}
use Rattle.mesh_codec.specs.Refusal.{extension_conditions}
use Rattle.mesh_codec.proofs.extension.read_extensions.Given as goal

abbrev pub invariant-loop-at : goal.invariant-loop-at
invariant-loop-at l = record {
  within : l.at ≤ length l.bytes;
  first : first_of (extension_conditions l.bytes l.at) ≡ first_of (extension_conditions l.bytes l.start);
}

abbrev pub decreases-loop-at : goal.decreases-loop-at
decreases-loop-at l = length l.bytes - l.at
