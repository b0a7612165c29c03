-- The divisors of 32767 = 7 * 31 * 151 are 1, 7, 31, 151, 217, 1057, 4681 and 32767.
use Rattle.std.proofs.Common.{◌≡◌, ℕ, zero, suc, ◌+◌, ◌-◌, ◌*◌, ◌/◌, ◌%◌, ◌<◌, ◌≤◌}
use Rattle.std.proofs.Common.{Bool, true, false, nat_eq, cond}
use Rattle.std.proofs.Common.{refl, ap, sym, ◌∙◌, inl, inr, arith, subst}
use Rattle.std.specs.Int.{◌∣◌}
use Rattle.std.proofs.Math.Nat.{mul-le-mul, div-mul_cancel, dvd-mul_right, pos_of_dvd_of_pos}
use Rattle.std.proofs.lemmas.Bool.{cases_lt, cases_eq}
use Rattle.std.proofs.lemmas.Nat.Gcd.{mod-eq-zero_of_dvd}

-- none of the n numbers from lo on divides 32767
none_divide : ℕ → ℕ → Bool
none_divide lo zero = true
none_divide lo (suc n) = cond (nat_eq (32767 % (lo + n)) 0) false (none_divide lo n)

both : (b c : Bool) → cond b false c ≡ true → (b ≡ false) × (c ≡ true)
both true c e = absurd (cc)
both false c e = (refl, e)

no_divisor : (lo n r : ℕ) → none_divide lo n ≡ true → lo ≤ r → r < lo + n → 32767 % r ≡ 0 → ⊥
unfolding none_divide
no_divisor lo zero r e low high d = omega arith
no_divisor lo (suc n) r e low high d =
    let parts = both (nat_eq (32767 % (lo + n)) 0) (none_divide lo n) e in
    elim (cases_eq r (lo + n)) [
      | inl same ↦
          let rest : 32767 % (lo + n) ≡ 0 = ap (λ i. 32767 % i) (sym same) ∙ d in
          let found : nat_eq (32767 % (lo + n)) 0 ≡ true = ap (λ i. nat_eq i 0) rest in
          cc (found, parts.0)
      | inr other ↦ no_divisor lo n r parts.1 low (omega (arith, other)) d
    ]

below_7 : none_divide 2 5 ≡ true
unfolding none_divide
below_7 = refl

below_31 : none_divide 8 23 ≡ true
unfolding none_divide
below_31 = refl

below_151 : none_divide 32 119 ≡ true
unfolding none_divide
below_151 = refl

below_217 : none_divide 152 65 ≡ true
unfolding none_divide
below_217 = refl

-- the least divisor from each number on
from_gap : (lo n r : ℕ) → none_divide lo n ≡ true → r ∣ 32767 → lo ≤ r → lo + n ≤ r
from_gap lo n r e d low = elim (cases_lt r (lo + n)) [
  | inl less ↦ absurd (no_divisor lo n r e low less (mod-eq-zero_of_dvd r d))
  | inr fine ↦ fine
]

-- the other factor of 32767 beside a divisor
cofactor_divides : (r : ℕ) → r ∣ 32767 → (32767 / r) ∣ 32767
cofactor_divides r d = subst (λ (n : ℕ). (32767 / r) ∣ n) (div-mul_cancel r d) (dvd-mul_right (32767 / r) r)

-- the same for the greater divisors, whose other factors lie in a gap
from_cofactor : (lo n start hi r : ℕ) → none_divide lo n ≡ true →
    32767 < start * (lo + n) → (lo - 1) * (hi - 1) < 32767 →
    r ∣ 32767 → start ≤ r → hi ≤ r
from_cofactor lo n start hi r e above below d low =
    let k = 32767 / r in
    let whole : k * r ≡ 32767 = div-mul_cancel r d in
    elim (cases_lt r hi) [
      | inr fine ↦ fine
      | inl less ↦ elim (cases_lt k lo) [
        | inl small ↦
            let k_small : k ≤ lo - 1 = omega arith in
            let r_small : r ≤ hi - 1 = omega arith in
            absurd (omega (arith, whole, below, mul-le-mul k_small r_small))
        | inr enough ↦ elim (cases_lt k (lo + n)) [
          | inl inside ↦
              absurd (no_divisor lo n k e enough inside (mod-eq-zero_of_dvd k (cofactor_divides r d)))
          | inr beyond ↦ absurd (omega (arith, whole, above, mul-le-mul low beyond))
        ]
      ]
    ]

pub from_0 : (r : ℕ) → r ∣ 32767 → 1 ≤ r
from_0 r d = pos_of_dvd_of_pos d (omega arith)

pub from_2 : (r : ℕ) → r ∣ 32767 → 2 ≤ r → 7 ≤ r
from_2 r d low = from_gap 2 5 r below_7 d low

pub from_8 : (r : ℕ) → r ∣ 32767 → 8 ≤ r → 31 ≤ r
from_8 r d low = from_gap 8 23 r below_31 d low

pub from_32 : (r : ℕ) → r ∣ 32767 → 32 ≤ r → 151 ≤ r
from_32 r d low = from_gap 32 119 r below_151 d low

pub from_152 : (r : ℕ) → r ∣ 32767 → 152 ≤ r → 217 ≤ r
from_152 r d low = from_gap 152 65 r below_217 d low

pub from_218 : (r : ℕ) → r ∣ 32767 → 218 ≤ r → 1057 ≤ r
from_218 r d low = from_cofactor 32 119 218 1057 r below_151 (omega arith) (omega arith) d low

pub from_1058 : (r : ℕ) → r ∣ 32767 → 1058 ≤ r → 4681 ≤ r
from_1058 r d low = from_cofactor 8 23 1058 4681 r below_31 (omega arith) (omega arith) d low

pub from_4682 : (r : ℕ) → r ∣ 32767 → 4682 ≤ r → 32767 ≤ r
from_4682 r d low = from_cofactor 2 5 4682 32767 r below_7 (omega arith) (omega arith) d low
