-- Where posts lie among the knots, and how high a mean of knots can be.
use Rattle.std.proofs.Common.{◌≡◌, ℕ, ◌+◌, ◌-◌, ◌*◌, ◌/◌, ◌<◌, ◌≤◌, ap, ◌∙◌, arith}
use Rattle.std.proofs.Math.Nat.{mul-le-mul_right}
use Rattle.terrain_base.specs.declared.square.Square.{Square}
use Rattle.terrain_base.specs.declared.level.CellLevel.{CellLevel}
use Rattle.terrain_base.specs.Level.{lat_step_of, lon_step_of, rows_of, columns_of}

-- a step less than so many whole steps
steps_within : (step i : ℕ) → i < 3600 / step + 1 → i * step ≤ 3600
steps_within step i h = omega (arith, mul-le-mul_right step (below i (3600 / step) h), whole)
  where
    below : (i n : ℕ) → i < n + 1 → i ≤ n
    below i n h = omega arith

    whole : 3600 / step * step ≤ 3600
    whole = omega (arith)

pub east_within : (square : Square) (level : CellLevel) (col : ℕ) → col < columns_of square level → col * lon_step_of square level ≤ 3600
east_within square level col h = steps_within (lon_step_of square level) col h

pub north_within : (level : CellLevel) (row : ℕ) → row < rows_of level → row * lat_step_of level ≤ 3600
north_within level row h = steps_within (lat_step_of level) row h

-- four weights that make up 202500
weights : (a b c d : ℕ) → a + c ≡ 450 → b + d ≡ 450 → a * b + c * b + a * d + c * d ≡ 202500
weights a b c d h k =
    let whole : (a + c) * (b + d) ≡ 202500 = ap (λ x. x * (b + d)) h ∙ ap (λ y. 450 * y) k in
    omega (arith, whole)

pub record WeightedMost (sw se nw ne fx fy : ℕ) : Type 0 where
  pub most : sw * ((450 - fx) * (450 - fy)) + se * (fx * (450 - fy)) + nw * ((450 - fx) * fy) + ne * (fx * fy) ≤ 405000000

pub weighted_most : (sw se nw ne fx fy : ℕ) → sw ≤ 2000 → se ≤ 2000 → nw ≤ 2000 → ne ≤ 2000 → fx ≤ 450 → fy ≤ 450 → WeightedMost sw se nw ne fx fy
weighted_most sw se nw ne fx fy a b c d e f =
    let a' = mul-le-mul_right ((450 - fx) * (450 - fy)) a in
    let b' = mul-le-mul_right (fx * (450 - fy)) b in
    let c' = mul-le-mul_right ((450 - fx) * fy) c in
    let d' = mul-le-mul_right (fx * fy) d in
    let all = weights (450 - fx) (450 - fy) fx fy (omega arith) (omega arith) in
    record { most = omega (arith, a', b', c', d', all) }
