-- What holds of all frames and codes.
use Rattle.std.specs.Prelude.{◌≡◌, ℕ, ◌≤◌, ℤ, pos, ◌+ℤ◌, ◌≤ℤ◌}
use Rattle.std.specs.Int.{◌∣◌}
use Rattle.height_lattice.specs.declared.height_frame.HeightFrame.{HeightFrame}
use Rattle.height_lattice.specs.HeightCode.{IsCode, code_of}
use Rattle.height_lattice.specs.HeightFrame.{IsFrame, IsWithin, frame_of}

-- the least and the greatest height fix the frame
abbrev pub OneFrameLaw : Type 0
OneFrameLaw = (least greatest : ℤ) (frame other : HeightFrame) → IsFrame least greatest frame
    → IsFrame least greatest other → frame ≡ other

-- a height has at most one code in a frame
abbrev pub OneCodeLaw : Type 0
OneCodeLaw = (frame : HeightFrame) (m : ℤ) (code other : ℕ) → frame.range ∣ 32767 → IsCode frame m code
    → IsCode frame m other → code ≡ other

-- a code stands for at most one height of a frame
abbrev pub OneHeightLaw : Type 0
OneHeightLaw = (frame : HeightFrame) (m n : ℤ) (code : ℕ) → IsCode frame m code → IsCode frame n code → m ≡ n

-- the function gives the frame of heights that lie at most 32767 metres apart
abbrev pub FrameLaw : Type 0
FrameLaw = (least greatest : ℤ) → least ≤ℤ greatest → greatest ≤ℤ (least +ℤ pos 32767)
    → IsFrame least greatest (frame_of least greatest)

-- the function gives the code of each height of a frame, and it is at most 32767
pub record CodeLaw : Type 0 where
  pub place : (frame : HeightFrame) (metres : ℤ) → frame.range ∣ 32767 → IsWithin frame metres
      → IsCode frame metres (code_of frame metres)
  pub bound : (frame : HeightFrame) (metres : ℤ) → frame.range ∣ 32767 → IsWithin frame metres
      → code_of frame metres ≤ 32767
