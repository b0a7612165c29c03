use Rattle.std.proofs.Common.{◌≡◌, ◌<◌, ◌≤◌, suc, ℕ, length}
use Rattle.quad_split.specs.SplitMap.{bit_at, IsRight}
use Rattle.quad_split.specs.Split.{is_split}
use Rattle.quad_split.proofs.splits.fill.Given as goal

abbrev pub invariant-loop-y : goal.invariant-loop-y
invariant-loop-y l = record {
  room : length l.bits ≡ 6144;
  lower : (m : ℕ) → m ≤ l.k → IsRight l.grid l.tol l.bits m;
  here : (v : ℕ) → v < l.y → (u : ℕ) → bit_at l.bits (suc l.k) u v ≡ is_split l.grid l.tol (suc l.k) u v;
}
