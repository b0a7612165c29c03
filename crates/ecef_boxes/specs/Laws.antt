-- What holds of the boxes of all places and heights.
use Rattle.std.specs.Prelude.{ℤ, ◌≤◌, unsigned_abs}
use Rattle.tms_tree.specs.declared.place.Place.{Place}
use Rattle.tms_tree.specs.Place.{IsPlace}
use Rattle.ecef_boxes.specs.Bounds.{IsBoxWithin}
use Rattle.ecef_boxes.specs.Box.{box_of, radii_at}
use Rattle.ecef_boxes.specs.Ellipsoid.{Encloses}

-- the box of a place encloses what the formulas of Earth-fixed coordinates give there, at every height
abbrev pub EnclosureLaw : Type 0
EnclosureLaw = (place : Place) (metres : ℤ) → IsPlace place
    → Encloses place metres (radii_at place) (box_of place metres)

-- its numbers are from -2^31 to 2^31 at each height from -16000 to 16000 metres
abbrev pub SizeLaw : Type 0
SizeLaw = (place : Place) (metres : ℤ) → IsPlace place → unsigned_abs metres ≤ 16000
    → IsBoxWithin 31 (box_of place metres)
