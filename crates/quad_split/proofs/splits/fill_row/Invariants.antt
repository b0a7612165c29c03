use Rattle.std.proofs.Common.{◌≡◌, ◌≢◌, ◌<◌, ◌≤◌, suc, ℕ, length}
use Rattle.quad_split.specs.SplitMap.{bit_at}
use Rattle.quad_split.specs.Split.{is_split}
use Rattle.quad_split.proofs.splits.fill_row.Given as goal

abbrev pub invariant-loop-x : goal.invariant-loop-x
invariant-loop-x l = record {
  room : length l.bits ≡ 6144;
  here : (u : ℕ) → u < l.x → bit_at l.bits (suc l.k) u l.y ≡ is_split l.grid l.tol (suc l.k) u l.y;
  others : (u z : ℕ) → z ≢ l.y → bit_at l.bits (suc l.k) u z ≡ bit_at l.initial.bits (suc l.k) u z;
  lower : (m u z : ℕ) → m ≤ l.k → bit_at l.bits m u z ≡ bit_at l.initial.bits m u z;
}
