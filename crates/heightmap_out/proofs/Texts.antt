-- The bytes of samples.
use Rattle.std.proofs.Common.{
  ◌≡◌,
  ℕ,
  zero,
  suc,
  ◌+◌,
  ◌*◌,
  ◌/◌,
  ◌%◌,
  ◌<◌,
  List,
  [],
  ◌∷◌,
  length,
  get_or,
  refl,
  arith,
  length-append,
}
use Rattle.std.specs.List.{flat_map}
use Rattle.heightmap_out.specs.Tile.{bytes_of, heightmap_text}

pub length_samples : (samples : List ℕ) → length (flat_map bytes_of samples) ≡ 2 * length samples
length_samples [] = refl
length_samples (sample ∷ samples) = omega (arith, length_samples samples)

pub text_length : (samples : List ℕ) (mask : ℕ) → length samples ≡ 4225 → length (heightmap_text samples mask) ≡ 8452
unfolding heightmap_text
text_length samples mask full = omega
    (arith, length-append (flat_map bytes_of samples) (mask ∷ 0 ∷ []), length_samples samples, full)

pub low_at : (samples : List ℕ) (k : ℕ) → k < length samples
    → get_or (flat_map bytes_of samples) (2 * k) 0 ≡ get_or samples k 0 % 256
low_at [] k below = absurd (omega arith)
low_at (sample ∷ samples) zero below = refl
low_at (sample ∷ samples) (suc k) below = let at : 2 * suc k ≡ suc (suc (2 * k)) = omega arith in
    rw at (low_at samples k (omega arith))

pub high_at : (samples : List ℕ) (k : ℕ) → k < length samples
    → get_or (flat_map bytes_of samples) (2 * k + 1) 0 ≡ get_or samples k 0 / 256 % 256
high_at [] k below = absurd (omega arith)
high_at (sample ∷ samples) zero below = refl
high_at (sample ∷ samples) (suc k) below = let at : 2 * suc k + 1 ≡ suc (suc (2 * k + 1)) = omega arith in
    rw at (high_at samples k (omega arith))
