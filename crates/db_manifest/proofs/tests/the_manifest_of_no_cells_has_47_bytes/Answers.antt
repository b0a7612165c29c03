use Rattle.std.specs.List.Sorted.{IsStrictlySortedBy}
use Rattle.db_manifest.proofs.tests.the_manifest_of_no_cells_has_47_bytes.Goals as goal

pub of-manifest-requires-clause-ascend : goal.of-manifest-requires-clause-ascend
unfolding IsStrictlySortedBy
of-manifest-requires-clause-ascend g c = rw c.new.ensures.items tt
