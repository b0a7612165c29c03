use Rattle.std.proofs.Common.{◌≡◌, ◌≤◌, ℕ, length}
use Rattle.quad_split.specs.SplitMap.{IsRight}
use Rattle.quad_split.proofs.splits.split_map.Given as goal

abbrev pub invariant-loop-k : goal.invariant-loop-k
invariant-loop-k l = record {
  room : length l.bits ≡ 6144;
  right : (m : ℕ) → m ≤ l.k → IsRight l.grid l.tol l.bits m;
}
