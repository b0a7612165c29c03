-- A significand moved by powers of two.
use Rattle.std.proofs.Common.{◌≡◌, ℕ, suc, ◌+◌, ◌-◌, ◌*◌, ◌/◌, ◌%◌, ◌^◌, ◌<◌, ◌≤◌}
use Rattle.std.proofs.Common.{refl, ap, sym, ◌∙◌, inl, inr, arith}
use Rattle.std.proofs.Math.Nat.{mul-le-mul, mul-le-mul_right, mul-lt-mul_of_pos_right, eq_of_mul-eq-mul_right}
use Rattle.std.proofs.Math.Nat.{le_of_mul-le-mul_right, lt_of_mul-lt-mul_right, mod-eq_of_lt, pow-le-pow_right, mul_assoc}
use Rattle.std.proofs.lemmas.Nat.{leading_top, pow-add, pow_pos, shl-shr, shr_split}
use Rattle.std.proofs.lemmas.Bool.{cases_lt}
use lib.Count.{count_leading_zeros}

-- what a significand moved down by t - e places says, both ways
pub moved : (s n e t : ℕ) → e ≤ t → n * 2 ^ (t - e) ≡ s → s * 2 ^ e ≡ n * 2 ^ t
moved s n e t h same =
    let whole : t - e + e ≡ t = omega arith in
    ap (λ x. x * 2 ^ e) (sym same) ∙ mul_assoc n (2 ^ (t - e)) (2 ^ e)
    ∙ ap (λ x. n * x) (sym (pow-add 2 (t - e) e) ∙ ap (λ i. 2 ^ i) whole)

pub moved_back : (s n e t : ℕ) → e ≤ t → s * 2 ^ e ≡ n * 2 ^ t → n * 2 ^ (t - e) ≡ s
moved_back s n e t h same =
    eq_of_mul-eq-mul_right (2 ^ e) (pow_pos e) (n * 2 ^ (t - e)) s
    (moved (n * 2 ^ (t - e)) n e t h refl ∙ sym same)

pub twice : (k : ℕ) → 2 ^ suc k ≡ 2 * 2 ^ k
twice k = ap (λ i. 2 ^ i) (omega arith) ∙ pow-add 2 1 k

-- 2^p, where n * 2^p has its highest bit at bit top
pub record IsPlaced (top n p : ℕ) : Type 0 where
  pub few : p ≤ top
  pub low : 2 ^ top ≤ n * 2 ^ p
  pub high : n * 2 ^ p < 2 ^ suc top

top_small : (top n j : ℕ) → 2 ^ j ≤ n → n < 2 ^ suc top → j ≤ top
top_small top n j low h = elim (cases_lt top j) [
  | inl above ↦ absurd (omega (arith, low, h, pow-le-pow_right {n = 2} (omega arith) above))
  | inr below ↦ omega arith
]

-- a number whose highest bit is bit j
placed : (top n j p : ℕ) → 2 ^ j ≤ n → n < 2 ^ suc j → j + p ≡ top → IsPlaced top n p
placed top n j p low high whole =
    let next : suc j + p ≡ suc top = omega arith in
    let at_low : 2 ^ j * 2 ^ p ≡ 2 ^ top = sym (pow-add 2 j p) ∙ ap (λ i. 2 ^ i) whole in
    let at_high : 2 ^ suc j * 2 ^ p ≡ 2 ^ suc top = sym (pow-add 2 (suc j) p) ∙ ap (λ i. 2 ^ i) next in
    record {
      few = omega arith;
      low = omega (arith, at_low, mul-le-mul_right (2 ^ p) low);
      high = omega (arith, at_high, mul-lt-mul_of_pos_right high (pow_pos p));
    }

-- counted within the top bit and those below it
pub places_are : (top n : ℕ) → 0 < n → n < 2 ^ suc top → IsPlaced top n (count_leading_zeros (suc top) n)
places_are top n p h =
    let t = leading_top (suc top) n p h in
    placed top n t.0 (count_leading_zeros (suc top) n) t.2 t.3 (omega (arith, t.1))

-- counted within a word of 64 bits
pub places_in_word : (n : ℕ) → 0 < n → n < 2 ^ 53 →
    (11 ≤ count_leading_zeros 64 n) × IsPlaced 52 n (count_leading_zeros 64 n - 11)
places_in_word n p h =
    let t = leading_top 64 n p (omega arith) in
    let small : t.0 ≤ 52 = top_small 52 n t.0 t.2 h in
    (omega (arith, t.1), placed 52 n t.0 (count_leading_zeros 64 n - 11) t.2 t.3 (omega (arith, t.1)))

-- a number of top + 1 bits lies so many places higher below a bit that is so many bits above
lowered_by : (top spare n p : ℕ) → n < 2 ^ suc top → 2 ^ (top + spare) ≤ n * 2 ^ p → spare ≤ p
lowered_by top spare n p h low = elim (cases_lt p spare) [
  | inl less ↦
      let within : 2 ^ (suc top + p) ≤ 2 ^ (top + spare) = pow-le-pow_right {n = 2} (omega arith) (omega arith) in
      absurd (omega (arith, low, within, pow-add 2 (suc top) p, mul-lt-mul_of_pos_right h (pow_pos p)))
  | inr fine ↦ omega arith
]

pub lowered : (top spare n p : ℕ) → n < 2 ^ suc top → IsPlaced (top + spare) n p →
    (spare ≤ p) × IsPlaced top n (p - spare)
lowered top spare n p h fits =
    let far : spare ≤ p = lowered_by top spare n p h fits.low in
    let up : n * 2 ^ (p - spare) * 2 ^ spare ≡ n * 2 ^ p =
    moved (n * 2 ^ (p - spare)) n spare p far refl in
    let low : 2 ^ top * 2 ^ spare ≤ n * 2 ^ (p - spare) * 2 ^ spare =
    omega (arith, up, fits.low, pow-add 2 top spare) in
    let next : suc top + spare ≡ suc (top + spare) = omega arith in
    let high : n * 2 ^ (p - spare) * 2 ^ spare < 2 ^ suc top * 2 ^ spare =
    omega (arith, up, fits.high, sym (pow-add 2 (suc top) spare) ∙ ap (λ i. 2 ^ i) next) in
    let here : IsPlaced top n (p - spare) = record {
      few = omega (arith, fits.few);
      low = le_of_mul-le-mul_right low (pow_pos spare);
      high = lt_of_mul-lt-mul_right (2 ^ spare) high;
    } in
    (far, here)

-- a number below twice the significand is not moved up to it
pub not_up : (s n e t : ℕ) → t < e → n < 2 * s → s * 2 ^ e ≡ n * 2 ^ t → ⊥
not_up s n e t h small same =
    let doubled : 2 * 2 ^ t ≤ 2 ^ e = omega (arith, twice t, pow-le-pow_right {n = 2} (omega arith) h) in
    omega (arith, same, mul-le-mul_right s doubled, mul-lt-mul_of_pos_right small (pow_pos t))

-- a significand of 53 bits is not moved down by more than 52 places
pub not_far : (s n e t : ℕ) → e ≤ t → 52 < t - e → 0 < s → s < 2 ^ 53 → s * 2 ^ e ≡ n * 2 ^ t → ⊥
not_far s n e t h far above below same =
    let back = moved_back s n e t h same in
    let power : 2 ^ 53 ≤ 2 ^ (t - e) = pow-le-pow_right {n = 2} (omega arith) far in
    elim (cases_lt 0 n) [
      | inl some ↦ omega (arith, back, mul-le-mul some power)
      | inr none ↦
          let empty : n ≡ 0 = omega arith in
          omega (arith, above, sym back ∙ ap (λ m. m * 2 ^ (t - e)) empty)
    ]

-- what is moved down and up again
pub returned : (s p : ℕ) → s < 2 ^ 53 → s / 2 ^ p * 2 ^ p % 2 ^ 64 ≡ s / 2 ^ p * 2 ^ p
returned s p h = mod-eq_of_lt (omega (arith, shr_split s p))

pub quotient_above : (s p : ℕ) → 0 < s → s / 2 ^ p * 2 ^ p ≡ s → 0 < s / 2 ^ p
quotient_above s p h back = elim (cases_lt 0 (s / 2 ^ p)) [
  | inl some ↦ some
  | inr none ↦
      let empty : s / 2 ^ p ≡ 0 = omega arith in
      absurd (omega (arith, h, sym back ∙ ap (λ m. m * 2 ^ p) empty))
]

pub quotient_is : (s n e t : ℕ) → e ≤ t → s * 2 ^ e ≡ n * 2 ^ t → s / 2 ^ (t - e) ≡ n
quotient_is s n e t h same = ap (λ x. x / 2 ^ (t - e)) (sym (moved_back s n e t h same)) ∙ shl-shr n (t - e)

-- two significands of one format, scaled to the same value, have one exponent
exponents_apart : (a b d e : ℕ) → a < 2 * b → d < e → a * 2 ^ d ≡ b * 2 ^ e → ⊥
exponents_apart a b d e small less same = not_up b a e d less small (sym same)

pub same_exponent : (a b d e : ℕ) → a < 2 * b → b < 2 * a → a * 2 ^ d ≡ b * 2 ^ e → d ≡ e
same_exponent a b d e h i same = elim (cases_lt d e) [
  | inl less ↦ absurd (exponents_apart a b d e h less same)
  | inr more ↦ elim (cases_lt e d) [
    | inl less ↦ absurd (exponents_apart b a e d i less (sym same))
    | inr fine ↦ omega arith
  ]
]

pub same_significand : (a b d e : ℕ) → d ≡ e → a * 2 ^ d ≡ b * 2 ^ e → a ≡ b
same_significand a b d e one same =
    eq_of_mul-eq-mul_right (2 ^ d) (pow_pos d) a b (same ∙ ap (λ i. b * 2 ^ i) (sym one))
