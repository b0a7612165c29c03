-- The heights that posts and grids may have.
use Rattle.std.specs.Prelude.{ℤ, pos, ◌-ℤ◌, ◌≤ℤ◌}

-- from -16000 to 16000 metres
pub record IsHeight (metres : ℤ) : Type 0 where
  pub above : (pos 0 -ℤ pos 16000) ≤ℤ metres
  pub below : metres ≤ℤ pos 16000
