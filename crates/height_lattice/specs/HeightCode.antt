-- Height codes in a frame.
use Rattle.std.specs.Prelude.{◌≡◌, ℕ, ℤ, pos, ◌-ℤ◌, ◌*ℤ◌, ◌*◌, ◌/◌, unsigned_abs}
use Rattle.height_lattice.specs.declared.height_frame.HeightFrame.{HeightFrame}

-- the code of a height, in metres: code 0 is the base and 32767 the base and the range, linear between
-- (quantized-mesh-1.0, "Vertex Data"), so that code / 32767 is (metres - base) / range, compared crosswise
abbrev pub IsCode : HeightFrame → ℤ → ℕ → Type 0
IsCode frame metres code = pos (code * frame.range) ≡ (metres -ℤ frame.base) *ℤ pos 32767

-- how many codes one metre takes, where the range divides 32767
abbrev pub codes_per_metre : HeightFrame → ℕ
codes_per_metre frame = 32767 / frame.range

-- the code of a height of the frame, where the range divides 32767
unfoldable pub code_of : HeightFrame → ℤ → ℕ
code_of frame metres = unsigned_abs (metres -ℤ frame.base) * codes_per_metre frame
