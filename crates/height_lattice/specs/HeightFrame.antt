-- The frame of a tile's heights.
use Rattle.std.specs.Prelude.{◌≡◌, ℕ, ℤ, pos, ◌+ℤ◌, ◌-ℤ◌, ◌≤ℤ◌, ◌≤◌, unsigned_abs, nat_le, if◌then◌else◌}
use Rattle.std.specs.Int.{◌∣◌}
use Rattle.height_lattice.specs.declared.height_frame.HeightFrame.{HeightFrame}

-- the frame of the heights from least to greatest, in metres: it begins at the least height, and its range is
-- the least divisor of 32767 that reaches the greatest (32767 is the greatest height code of quantized-mesh-1.0,
-- "Vertex Data")
pub record IsFrame (least greatest : ℤ) (frame : HeightFrame) : Type 0 where
  pub base : frame.base ≡ least
  pub divides : frame.range ∣ 32767
  pub reaches : greatest ≤ℤ (least +ℤ pos frame.range)
  pub shortest : (range : ℕ) → range ∣ 32767 → greatest ≤ℤ (least +ℤ pos range) → frame.range ≤ range

-- a height of the frame, in metres: from its base to the base and the range
pub record IsWithin (frame : HeightFrame) (metres : ℤ) : Type 0 where
  pub low : frame.base ≤ℤ metres
  pub high : metres ≤ℤ (frame.base +ℤ pos frame.range)

-- the least divisor of 32767 that is at least n, for n up to 32767
unfoldable pub range_of : ℕ → ℕ
range_of n =
    if nat_le n 1 then 1 else if nat_le n 7 then 7 else if nat_le n 31 then 31 else if nat_le n 151 then 151
    else if nat_le n 217 then 217 else if nat_le n 1057 then 1057 else if nat_le n 4681 then 4681 else 32767

-- the frame from the least height on, by the least divisor that reaches the greatest
unfoldable pub frame_of : ℤ → ℤ → HeightFrame
frame_of least greatest = record { base = least; range = range_of (unsigned_abs (greatest -ℤ least)) }
