-- Where there is no tile, none exists.
use Rattle.std.proofs.Common.{◌≡◌, ℕ, ◌+◌, ◌^◌, ◌<◌, ◌≤◌, true, false, List, refl, arith, inl, inr, ◌⊎◌}
use Rattle.std.specs.Prelude.{nat_le, nat_lt, ◌&&◌}
use Rattle.std.proofs.lemmas.Bool.{and_parts, cases_Bool}
use Rattle.std.proofs.lemmas.Bool.Decides.{nat_tests}
use Rattle.terrain_base.specs.declared.summary.Summary.{Summary}
use Rattle.availability.specs.Existence.{is_tile, exists_at}

is_tile_within : (z row column : ℕ) → is_tile z row column ≡ true → (z ≤ 14) × (column < 2 ^ (z + 1)) × (row < 2 ^ z)
is_tile_within z row column is =
    let level = and_parts (nat_le z 14) (nat_lt row (2 ^ z) && nat_lt column (2 ^ (z + 1))) is in
    let place = and_parts (nat_lt row (2 ^ z)) (nat_lt column (2 ^ (z + 1))) level.1 in
    (grind (arith, nat_tests, level.0), grind (arith, nat_tests, place.1), grind (arith, nat_tests, place.0))

pub none_exists : (cap : ℕ) (cells : List Summary) (z row column : ℕ)
    → ((z ≤ 14) × (column < 2 ^ (z + 1)) × (row < 2 ^ z) → false ≡ true) → false ≡ exists_at cap cells z row column
none_exists cap cells z row column none = cases (cases_Bool (is_tile z row column))
  where
    cases : ((is_tile z row column ≡ true) ⊎ (is_tile z row column ≡ false)) → false ≡ exists_at cap cells z row column
    cases (inl is) = absurd (grind (arith, none (is_tile_within z row column is)))
    cases (inr other) = rw other refl
