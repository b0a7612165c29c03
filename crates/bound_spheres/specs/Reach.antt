-- How far the corners of boxes are from a point.
use Rattle.std.specs.Prelude.{ℕ, ℤ, List, ◌+◌, ◌*◌, ◌-ℤ◌, max, unsigned_abs, fold}
use Rattle.ecef_boxes.specs.declared.ecef_box.EcefBox.{EcefBox}

-- how far the farther of two ends is from the point, on one axis
unfoldable pub span_reach : (at lo hi : ℤ) → ℕ
span_reach at lo hi = max (unsigned_abs (lo -ℤ at)) (unsigned_abs (hi -ℤ at))

-- the square of the distance of the box's farthest corner
unfoldable pub reach_of : (x y z : ℤ) → EcefBox → ℕ
reach_of x y z box =
    span_reach x box.x_lo box.x_hi * span_reach x box.x_lo box.x_hi
    + span_reach y box.y_lo box.y_hi * span_reach y box.y_lo box.y_hi
    + span_reach z box.z_lo box.z_hi * span_reach z box.z_lo box.z_hi

-- the greatest of these squares
unfoldable pub farthest_of : (x y z : ℤ) → List EcefBox → ℕ
farthest_of x y z boxes = fold (λ far box. max far (reach_of x y z box)) 0 boxes
