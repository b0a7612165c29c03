-- A number's text is parsed as that number.
use Rattle.std.proofs.Common.{◌≡◌, ℕ, ℤ, pos, negsuc, ◌^◌, ◌<◌, ◌-ℤ◌, ◌≤ℤ◌, ◌∙◌, List, Option, Some, Result, decimal, ap, arith, w16, w32, unsigned_abs, ◌≤◌}
use Rattle.std.specs.Fmt.{signed_decimal}
use Rattle.std.specs.Int.Signed.{mag}
use Rattle.std.specs.Prelude.{FitsSigned}
use Rattle.std.specs.Result.{result_ok}
use Rattle.std.specs.Str.Parse.{ParsesUnsigned, ParsesSigned}
use Rattle.std.proofs.lemmas.Fmt.{parse-decimal, parse-signed_decimal}
use Rattle.std.proofs.lemmas.Int.{ints}
use Rattle.terrain_base.specs.Height.{IsHeight}

pub number_found : {E : Type 0} (n : ℕ) (text : List ℕ) (r : Result ℕ E) (o : Option ℕ) → n < 2 ^ 64 → text ≡ decimal n
    → ParsesUnsigned 64 10 text r → o ≡ result_ok r → o ≡ Some n
number_found n text r o small e parses is = is ∙ ap result_ok (parse-decimal 64 n text r small (omega arith) e parses)

height_fits : (z : ℤ) → IsHeight z → FitsSigned w16 z
height_fits z is = record { sfits = fits_at z is.above is.below }
  where
    fits_at : (z : ℤ) → (pos 0 -ℤ pos 16000) ≤ℤ z → z ≤ℤ pos 16000 → mag z < 2 ^ 15
    fits_at (pos n) above below = omega (arith, ints, above, below)
    fits_at (negsuc n) above below = omega (arith, ints, above, below)

small_height : (z : ℤ) → (pos 0 -ℤ pos 16000) ≤ℤ z → z ≤ℤ pos 16000 → mag z < 2 ^ 63
small_height (pos n) above below = omega (arith, ints, above, below)
small_height (negsuc n) above below = omega (arith, ints, above, below)

pub height_found : {E : Type 0} (z : ℤ) (text : List ℕ) (r : Result ℤ E) (o : Option ℤ) → IsHeight z → text ≡ signed_decimal z
    → ParsesSigned w16 10 text r → o ≡ result_ok r → o ≡ Some z
height_found z text r o is e parses by =
    by ∙ ap result_ok (parse-signed_decimal w16 z text r (height_fits z is) (small_height z is.above is.below) e parses)

-- ---- metres within 65535

metres_fit : (z : ℤ) → unsigned_abs z ≤ 65535 → FitsSigned w32 z
metres_fit z size = record { sfits = fits_at z size }
  where
    fits_at : (z : ℤ) → unsigned_abs z ≤ 65535 → mag z < 2 ^ 31
    fits_at (pos n) size = omega (arith, size)
    fits_at (negsuc n) size = omega (arith, size)

small_metres : (z : ℤ) → unsigned_abs z ≤ 65535 → mag z < 2 ^ 63
small_metres (pos n) size = omega (arith, size)
small_metres (negsuc n) size = omega (arith, size)

pub metres_found : {E : Type 0} (z : ℤ) (text : List ℕ) (r : Result ℤ E) (o : Option ℤ) → unsigned_abs z ≤ 65535
    → text ≡ signed_decimal z → ParsesSigned w32 10 text r → o ≡ result_ok r → o ≡ Some z
metres_found z text r o size e parses by =
    by ∙ ap result_ok (parse-signed_decimal w32 z text r (metres_fit z size) (small_metres z size) e parses)
