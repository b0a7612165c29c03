-- What boxes span.
use Rattle.std.specs.Prelude.{◌≡◌, List, ℤ, ◌≤ℤ◌, All, Contains}
use Rattle.std.specs.Int.{int_min, int_max}
use Rattle.ecef_boxes.specs.declared.ecef_box.EcefBox.{EcefBox}

-- one of the boxes has n as the number that is read, and none has a lesser one
pub record IsLeast (read : EcefBox → ℤ) (boxes : List EcefBox) (n : ℤ) : Type 0 where
  pub box : EcefBox
  pub among : Contains boxes box
  pub reached : n ≡ read box
  pub least : All (λ other. n ≤ℤ read other) boxes

-- one of the boxes has n as the number that is read, and none has a greater one
pub record IsGreatest (read : EcefBox → ℤ) (boxes : List EcefBox) (n : ℤ) : Type 0 where
  pub box : EcefBox
  pub among : Contains boxes box
  pub reached : n ≡ read box
  pub greatest : All (λ other. read other ≤ℤ n) boxes

-- the least box that has both
unfoldable pub join_of : EcefBox → EcefBox → EcefBox
join_of a b = record {
  x_lo = int_min a.x_lo b.x_lo;
  x_hi = int_max a.x_hi b.x_hi;
  y_lo = int_min a.y_lo b.y_lo;
  y_hi = int_max a.y_hi b.y_hi;
  z_lo = int_min a.z_lo b.z_lo;
  z_hi = int_max a.z_hi b.z_hi;
}

-- its ends are the least low ends and the greatest high ends of the boxes
pub record IsHull (boxes : List EcefBox) (hull : EcefBox) : Type 0 where
  pub x_lo : IsLeast (λ box. box.x_lo) boxes hull.x_lo
  pub x_hi : IsGreatest (λ box. box.x_hi) boxes hull.x_hi
  pub y_lo : IsLeast (λ box. box.y_lo) boxes hull.y_lo
  pub y_hi : IsGreatest (λ box. box.y_hi) boxes hull.y_hi
  pub z_lo : IsLeast (λ box. box.z_lo) boxes hull.z_lo
  pub z_hi : IsGreatest (λ box. box.z_hi) boxes hull.z_hi
