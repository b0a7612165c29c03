use Rattle.std.proofs.Common.{◌≡◌, ℕ, ◌+◌, ◌<◌, get_or}
use Rattle.std.specs.declared.cmp.Ordering.TheVariants.{Less}
use Rattle.terrain_base.specs.declared.summary.Summary.{Summary}
use Rattle.terrain_base.specs.CellKey.{key_cmp}
use Rattle.cell_cache.specs.Cached.{row_key}
use Rattle.cell_cache.proofs.tests.ascend.Given as goal

abbrev pub invariant-loop-next : goal.invariant-loop-next
invariant-loop-next l = (k : ℕ) (d : Summary) → k + 1 < l.next → key_cmp (row_key (get_or l.fn.summaries k d)) (row_key (get_or l.fn.summaries (k + 1) d)) ≡ Less
