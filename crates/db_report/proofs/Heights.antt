-- The whole number of a pattern is one.
use Rattle.std.proofs.Common.{◌≡◌, ◌<◌, ◌^◌, ℕ, ℤ, Option, Some, None, IfSome, refl}
use Rattle.std.specs.Prelude.{unsigned_abs}
use Rattle.float_bits.specs.Binary32.{IsBits32}
use Rattle.db_report.specs.Tile.{IsHeightWord}

pub number_is : (bits : ℕ) (told found : Option ℤ) → IsHeightWord bits told → IfSome found (λ n. (unsigned_abs n < 2 ^ 24) × IsBits32 n bits)
    → ((n : ℤ) → unsigned_abs n < 2 ^ 24 → IsBits32 n bits → found ≡ Some n) → found ≡ told
number_is bits (Some n) found is some inverse = inverse n is.0 is.1
number_is bits None None is some inverse = refl
number_is bits None (Some n) is some inverse = absurd (is n some.0 some.1)
