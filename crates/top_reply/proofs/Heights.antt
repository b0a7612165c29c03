-- A word of a header is one of a height, or of none.
use Rattle.std.proofs.Common.{◌≡◌, ℕ, zero, suc, ◌+◌, ◌*◌, ◌^◌, ◌<◌, ◌≤◌, ◌⊎◌, inl, inr, Option, Some, None, arith}
use Rattle.std.specs.Prelude.{ℤ, pos, negsuc, unsigned_abs}
use Rattle.std.proofs.lemmas.Bool.{cases_order}
use Rattle.float_bits.specs.Binary32.{IsBits32, IsNormal32, exponent32, fraction32, sign32}
use Rattle.db_report.specs.Tile.{IsHeightWord}
use Rattle.top_reply.proofs.HasLines.{YesOrNo, below}

number_or_not : (m n : ℕ) → YesOrNo (m ≡ n)
number_or_not m n = by_order (cases_order m n)
  where
    by_order : (m ≡ n) ⊎ ((m < n) ⊎ (n < m)) → YesOrNo (m ≡ n)
    by_order (inl same) = inl same
    by_order (inr (inl less)) = inr (λ same. omega (arith, less, same))
    by_order (inr (inr more)) = inr (λ same. omega (arith, more, same))

within_or_not : (m n : ℕ) → YesOrNo (m ≤ n)
within_or_not m n = by_order (cases_order m n)
  where
    by_order : (m ≡ n) ⊎ ((m < n) ⊎ (n < m)) → YesOrNo (m ≤ n)
    by_order (inl same) = inl (omega (arith, same))
    by_order (inr (inl less)) = inl (omega (arith, less))
    by_order (inr (inr more)) = inr (λ within. omega (arith, more, within))

normal_or_not : (sign size bits : ℕ) → YesOrNo (IsNormal32 sign size bits)
normal_or_not sign size bits =
    by_parts (number_or_not (sign32 bits) sign) (within_or_not 1 (exponent32 bits)) (within_or_not
    (exponent32 bits) 254)
    (number_or_not ((2 ^ 23 + fraction32 bits) * 2 ^ exponent32 bits * 2 ^ 0) (size * 2 ^ 150))
  where
    by_parts : YesOrNo (sign32 bits ≡ sign) → YesOrNo (1 ≤ exponent32 bits) → YesOrNo (exponent32 bits ≤ 254)
        → YesOrNo ((2 ^ 23 + fraction32 bits) * 2 ^ exponent32 bits * 2 ^ 0 ≡ size * 2 ^ 150)
        → YesOrNo (IsNormal32 sign size bits)
    by_parts (inl p) (inl q) (inl r) (inl v) = inl (record { sign = p; exponent = (q, r); value = v })
    by_parts (inr p) q r v = inr (λ is. p is.sign)
    by_parts (inl p) (inr q) r v = inr (λ is. q is.exponent.0)
    by_parts (inl p) (inl q) (inr r) v = inr (λ is. r is.exponent.1)
    by_parts (inl p) (inl q) (inl r) (inr v) = inr (λ is. v is.value)

up_or_not : (bits n : ℕ) → YesOrNo (IsBits32 (pos n) bits)
up_or_not bits zero = number_or_not bits 0
up_or_not bits (suc n) = normal_or_not 0 (suc n) bits

down_or_not : (bits n : ℕ) → YesOrNo (IsBits32 (negsuc n) bits)
down_or_not bits n = normal_or_not 1 (suc n) bits

pub has_height : (bits : ℕ) → (height : Option ℤ) × IsHeightWord bits height
has_height bits =
    by_each (below (λ n. IsBits32 (pos n) bits) (up_or_not bits) (2 ^ 24))
    (below (λ n. IsBits32 (negsuc n) bits) (down_or_not bits) 16777215)
  where
    by_each : ((n : ℕ) × (n < 2 ^ 24) × IsBits32 (pos n) bits) ⊎ ((n : ℕ) → n < 2 ^ 24 → IsBits32 (pos n) bits → ⊥)
        → ((n : ℕ) × (n < 16777215) × IsBits32 (negsuc n) bits) ⊎ ((n : ℕ) → n < 16777215 → IsBits32 (negsuc n) bits
        → ⊥)
        → (height : Option ℤ) × IsHeightWord bits height
    by_each (inl found) q = (Some (pos found.0), (found.1, found.2))
    by_each (inr p) (inl found) = let less = found.1 in (Some (negsuc found.0), (omega (arith, less), found.2))
    by_each (inr p) (inr q) = (None, none)
      where
        none : (n : ℤ) → unsigned_abs n < 2 ^ 24 → IsBits32 n bits → ⊥
        none (pos n) less is = p n less is
        none (negsuc n) less is = q n (omega (arith, less)) is
