-- What the value between four posts is held to.
use Rattle.std.specs.Prelude.{◌≡◌, ℕ, ◌*◌, ◌<◌, ◌≤◌, ℤ, pos, ◌+ℤ◌, ◌*ℤ◌, List, ◌∷◌, ◌++◌}
use Rattle.std.specs.List.{AllByRecursion, sum_by}
use Rattle.terrain_base.specs.Division.{IsFloor}
use Rattle.cell_mosaic.specs.declared.quad.Quad.{Quad}
use Rattle.cell_mosaic.specs.declared.weighted.Weighted.{Weighted}
use Rattle.cell_mosaic.specs.Blend.{weighted, heaviest, rounded}

-- one that is heavier than those before it, and as heavy as those behind it or heavier, is the heaviest
abbrev pub FirstIsHeaviest : Type 0
FirstIsHeaviest = (before after : List Weighted) (one : Weighted)
    → AllByRecursion (λ other. other.weight < one.weight) before
    → AllByRecursion (λ other. other.weight ≤ one.weight) after
    → heaviest (before ++ one ∷ after) ≡ one.post

-- the four weights make up the product of the units
abbrev pub WeightsMakeTheUnit : Type 0
WeightsMakeTheUnit = (quad : Quad) (east east_unit north north_unit : ℕ) → east ≤ east_unit → north ≤ north_unit
    → sum_by (λ one. one.weight) (weighted quad east east_unit north north_unit) ≡ east_unit * north_unit

-- it is sum/unit + 1/2, rounded down
abbrev pub RoundsHalfUp : Type 0
RoundsHalfUp = (sum : ℤ) (unit : ℕ) → 0 < unit
    → IsFloor ((sum *ℤ pos 2) +ℤ pos unit) (pos (2 * unit)) (rounded sum unit)
