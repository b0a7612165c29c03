-- The keys of cells and their order. That it is an order stands here too, since the proof of an impl's law may cite
-- only what stands in specs/.
use Rattle.std.specs.Prelude.{ℕ, List, [], ◌∷◌}
use Rattle.std.specs.declared.cmp.Ordering.{Ordering}
use Rattle.std.specs.Ordering.{nat_cmp, ordering_then}
use Rattle.std.specs.Cmp.{IsTotalOrder, nat_cmp_total, on_total, then_total}
use Rattle.terrain_base.specs.declared.square.Square.{Square}
use Rattle.terrain_base.specs.declared.level.CellLevel.{CellLevel}
use Rattle.terrain_base.specs.declared.level.CellLevel.TheVariants.{Zero, One, Two}
use Rattle.terrain_base.specs.declared.cell_key.CellKey.{CellKey}
use Rattle.terrain_base.specs.SquareOrder.{square_cmp}

abbrev pub key_at : Square → CellLevel → CellKey
key_at square level = record { square = square; level = level }

-- the finest level comes first
abbrev pub rank_of : CellLevel → ℕ
rank_of Two = 0
rank_of One = 1
rank_of Zero = 2

-- the levels in their order
abbrev pub all_levels : List CellLevel
all_levels = Two ∷ One ∷ Zero ∷ []

-- by square, then the finest level first
abbrev pub key_cmp : CellKey → CellKey → Ordering
key_cmp a b = ordering_then (square_cmp a.square b.square) (nat_cmp (rank_of a.level) (rank_of b.level))

pub keys_total : IsTotalOrder key_cmp
keys_total =
    then_total (then_total (on_total (λ (k : CellKey). k.square.lat) nat_cmp_total)
    (on_total (λ (k : CellKey). k.square.lon) nat_cmp_total))
    (on_total (λ (k : CellKey). rank_of k.level) nat_cmp_total)
