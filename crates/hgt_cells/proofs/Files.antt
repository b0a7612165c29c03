-- The lines of a file, and where its samples stand.
use Rattle.std.proofs.Common.{
  ◌≡◌,
  ℕ,
  ℤ,
  pos,
  negsuc,
  ◌+◌,
  ◌*◌,
  ◌<◌,
  ◌≤◌,
  ◌==◌,
  true,
  false,
  List,
  length,
  refl,
  arith,
  inl,
  inr,
  ◌⊎◌,
}
use Rattle.std.specs.Prelude.{int_le}
use Rattle.std.specs.Ordering.{int_eq}
use Rattle.std.proofs.lemmas.Int.{ints}
use Rattle.std.proofs.lemmas.Nat.{mul-add-lt}
use Rattle.std.proofs.lemmas.Bool.{cases_Bool}
use Rattle.std.proofs.lemmas.Bool.Decides.{nat_tests, Decides-int_eq}
use Rattle.hgt_cells.specs.Sample.{unknown, IsSample, is_no_sample}
use Rattle.hgt_cells.specs.File.{fine_length, has_lines, level_in, lines_in}

-- as many samples as lines times lines
pub file_length : (bytes : List ℕ) → has_lines bytes ≡ true → length bytes ≡ 2 * (lines_in bytes * lines_in bytes)
unfolding level_in
file_length bytes h = cases (cases_Bool (length bytes == fine_length))
  where
    cases : ((length bytes == fine_length) ≡ true ⊎ (length bytes == fine_length) ≡ false)
        → length bytes ≡ 2 * (lines_in bytes * lines_in bytes)
    cases (inl fine) = rw fine (grind (arith, nat_tests, fine))
    cases (inr other) = rw other (grind (arith, nat_tests, other, h))

-- the sample's two bytes stand in the file
pub sample_within : (bytes : List ℕ) (line place : ℕ) → has_lines bytes ≡ true → line < lines_in bytes
    → place < lines_in bytes → 2 * (lines_in bytes * line + place) + 2 ≤ length bytes
sample_within bytes line place h l p =
    let inside = mul-add-lt line (lines_in bytes) place (lines_in bytes) l p in
    omega (arith, file_length bytes h, inside)

-- the test of samples
pub sample_good : (number : ℤ) → is_no_sample number ≡ false → IsSample number
sample_good number h other = record {
  above = grind (arith, ints, h, Decides-int_eq number unknown, other);
  below = grind (arith, ints, h, Decides-int_eq number unknown, other);
}

pub good_passes : (number : ℤ) → IsSample number → is_no_sample number ≡ false
good_passes number good = cases (cases_Bool (int_eq number unknown))
  where
    cases : ((int_eq number unknown ≡ true) ⊎ (int_eq number unknown ≡ false)) → is_no_sample number ≡ false
    cases (inl void) = rw void refl
    cases (inr some) =
        let height = good (λ e. grind (arith, Decides-int_eq number unknown, e, some)) in
        let low : int_le (negsuc 15999) number ≡ true = grind (arith, ints, height.above) in
        let high : int_le number (pos 16000) ≡ true = grind (arith, ints, height.below) in
        rw (some, low, high) refl

pub bad_is_none : (number : ℤ) → is_no_sample number ≡ true → ¬ (IsSample number)
bad_is_none number bad good = grind (arith, bad, good_passes number good)
