-- How large numbers get.
use Rattle.std.specs.Prelude.{ℕ, pos, ◌^◌, ◌≤◌, ◌≤ℤ◌, neg_ℤ, unsigned_abs}
use Rattle.whole_interval.specs.declared.interval.Interval.{Interval}
use Rattle.ecef_boxes.specs.declared.ecef_box.EcefBox.{EcefBox}

-- lo is at most hi, and both are at most m in size
pub record IsInside (m : ℕ) (a : Interval) : Type 0 where
  pub low : neg_ℤ (pos m) ≤ℤ a.lo
  pub ordered : a.lo ≤ℤ a.hi
  pub high : a.hi ≤ℤ pos m

-- every number of the box is from -2^k to 2^k
pub record IsBoxWithin (k : ℕ) (box : EcefBox) : Type 0 where
  pub x_lo : unsigned_abs box.x_lo ≤ 2 ^ k
  pub x_hi : unsigned_abs box.x_hi ≤ 2 ^ k
  pub y_lo : unsigned_abs box.y_lo ≤ 2 ^ k
  pub y_hi : unsigned_abs box.y_hi ≤ 2 ^ k
  pub z_lo : unsigned_abs box.z_lo ≤ 2 ^ k
  pub z_hi : unsigned_abs box.z_hi ≤ 2 ^ k
