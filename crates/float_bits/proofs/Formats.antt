-- A format: a pattern fixes its number, and a number its pattern.
use Rattle.std.proofs.Common.{◌≡◌, ℕ, zero, suc, ℤ, pos, negsuc, ◌+◌, ◌-◌, ◌*◌, ◌/◌, ◌%◌, ◌^◌, ◌<◌, ◌≤◌}
use Rattle.std.proofs.Common.{refl, ap, sym, ◌∙◌, arith}
use Rattle.std.proofs.Math.Nat.{eq_of_mul-eq-mul_right, mul_assoc, zero-div, zero-mod}
use Rattle.std.proofs.lemmas.Nat.{pow-add, pow_pos, shr-shr, shr_split, shr_high, mod_low, mod_below}
use Rattle.std.proofs.lemmas.Option.{none-some}
use Rattle.std.specs.Prelude.{Option, Some, None, IfSome, IfNone, unsigned_abs}
use Rattle.std.specs.Option.{OnSome}
use Rattle.float_bits.specs.Format.{Format, scale_of, sign_of, exponent_of, fraction_of, IsNormal, IsPattern, joined}
use Rattle.float_bits.specs.Binary32.{binary32, IsBits32}
use Rattle.float_bits.specs.Binary64.{binary64, IsBits64}
use Rattle.float_bits.proofs.Significands.{IsPlaced, twice, same_exponent, same_significand}

-- the sign bit stands above the exponent field
above_exponent : (format : Format) (x : ℕ) → x / 2 ^ format.fraction_width / 2 ^ format.exponent_width ≡ sign_of format x
above_exponent format x = shr-shr x format.fraction_width format.exponent_width

-- a pattern put together has its fields
fields : (format : Format) (b e f : ℕ) → e < 2 ^ format.exponent_width → f < 2 ^ format.fraction_width →
    (sign_of format (joined format b e f) ≡ b)
    × (exponent_of format (joined format b e f) ≡ e)
    × (fraction_of format (joined format b e f) ≡ f)
fields format b e f small below =
    let w = format.exponent_width in
    let t = format.fraction_width in
    let high = b * 2 ^ w + e in
    let whole : joined format b e f ≡ high * 2 ^ t + f = omega (arith, ap (λ x. b * x) (pow-add 2 t w)) in
    let upper : joined format b e f / 2 ^ t ≡ high = ap (λ x. x / 2 ^ t) whole ∙ shr_high high t f below in (
      sym (above_exponent format (joined format b e f)) ∙ ap (λ x. x / 2 ^ w) upper ∙ shr_high b w e small,
      ap (λ x. x % 2 ^ w) upper ∙ mod_low b w e small,
      ap (λ x. x % 2 ^ t) whole ∙ mod_low high t f below,
    )

-- equal fields are equal patterns
spelled : (format : Format) (x y : ℕ) → sign_of format x ≡ sign_of format y →
    exponent_of format x ≡ exponent_of format y → fraction_of format x ≡ fraction_of format y → x ≡ y
spelled format x y p q r =
    let w = format.exponent_width in
    let t = format.fraction_width in
    let sign : x / 2 ^ t / 2 ^ w ≡ y / 2 ^ t / 2 ^ w = above_exponent format x ∙ p ∙ sym (above_exponent format y) in
    let upper : x / 2 ^ t ≡ y / 2 ^ t =
    sym (shr_split (x / 2 ^ t) w) ∙ ap (λ i. i * 2 ^ w + x / 2 ^ t % 2 ^ w) sign
    ∙ ap (λ i. y / 2 ^ t / 2 ^ w * 2 ^ w + i) q ∙ shr_split (y / 2 ^ t) w in
    sym (shr_split x t) ∙ ap (λ i. i * 2 ^ t + x % 2 ^ t) upper ∙ ap (λ i. y / 2 ^ t * 2 ^ t + i) r ∙ shr_split y t

-- powers of a significand's size gathered
gathered : (n p e s : ℕ) → n * 2 ^ p * 2 ^ e * 2 ^ s ≡ n * 2 ^ (e + p + s)
gathered n p e s =
    let powers : 2 ^ (e + p + s) ≡ 2 ^ e * 2 ^ p * 2 ^ s =
    pow-add 2 (e + p) s ∙ ap (λ i. i * 2 ^ s) (pow-add 2 e p) in
    omega (arith, ap (λ i. n * i) powers)

-- a placed size, put together with its exponent field
pub normal_is : (format : Format) (b n s p e : ℕ) → IsPlaced format.fraction_width n p →
    e + p + s ≡ scale_of format → 0 < e → e + 2 ≤ 2 ^ format.exponent_width →
    IsNormal format b n s (joined format b e (n * 2 ^ p - 2 ^ format.fraction_width))
normal_is format b n s p e placed reach above below =
    let t = format.fraction_width in
    let f = n * 2 ^ p - 2 ^ t in
    let own = fields format b e f (omega arith) (omega (arith, placed.low, placed.high, twice t)) in
    let whole : 2 ^ t + f ≡ n * 2 ^ p = omega (arith, placed.low) in
    record {
      sign = own.0;
      exponent = omega (arith, own.1);
      value = ap (λ x. (2 ^ t + x) * 2 ^ exponent_of format (joined format b e f) * 2 ^ s) own.2
          ∙ ap (λ x. (2 ^ t + f) * 2 ^ x * 2 ^ s) own.1 ∙ ap (λ x. x * 2 ^ e * 2 ^ s) whole
          ∙ gathered n p e s ∙ ap (λ i. n * 2 ^ i) reach;
    }

-- the same sign, size and shift make the same pattern
same_pattern : (format : Format) (b n s x y : ℕ) → IsNormal format b n s x → IsNormal format b n s y → x ≡ y
same_pattern format b n s x y p q =
    let t = format.fraction_width in
    let d = exponent_of format x in
    let e = exponent_of format y in
    let f = fraction_of format x in
    let g = fraction_of format y in
    let few : f < 2 ^ t = mod_below x (2 ^ t) (pow_pos t) in
    let less : g < 2 ^ t = mod_below y (2 ^ t) (pow_pos t) in
    let both : (2 ^ t + f) * 2 ^ d ≡ (2 ^ t + g) * 2 ^ e =
    eq_of_mul-eq-mul_right (2 ^ s) (pow_pos s) ((2 ^ t + f) * 2 ^ d) ((2 ^ t + g) * 2 ^ e) (p.value ∙ sym q.value) in
    let exponent : d ≡ e = same_exponent (2 ^ t + f) (2 ^ t + g) d e (omega arith) (omega arith) both in
    let significand = same_significand (2 ^ t + f) (2 ^ t + g) d e exponent both in
    spelled format x y (p.sign ∙ sym q.sign) exponent (omega (arith, significand))

-- a pattern has one size
same_size : (format : Format) (a b m n s x : ℕ) → IsNormal format a m s x → IsNormal format b n s x → m ≡ n
same_size format a b m n s x p q =
    eq_of_mul-eq-mul_right (2 ^ scale_of format) (pow_pos (scale_of format)) m n (sym p.value ∙ q.value)

-- 0 is no normal number
not_zero : (format : Format) (b n s x : ℕ) → IsNormal format b n s x → x ≡ 0 → ⊥
not_zero format b n s x p e =
    let empty : exponent_of format x ≡ 0 =
    ap (λ i. exponent_of format i) e
    ∙ ap (λ i. i % 2 ^ format.exponent_width) (zero-div (2 ^ format.fraction_width))
    ∙ zero-mod (2 ^ format.exponent_width) in
    omega (arith, p.exponent.0, empty)

-- a pattern has one sign
not_both : (format : Format) (m n s x : ℕ) → IsNormal format 0 m s x → IsNormal format 1 n s x → ⊥
not_both format m n s x p q = omega (arith, sym p.sign ∙ q.sign)

-- at most one pattern stands for a number
pub one_pattern : (format : Format) (n : ℤ) (s x y : ℕ) → IsPattern format n s x → IsPattern format n s y → x ≡ y
one_pattern format (pos zero) s x y p q = p ∙ sym q
one_pattern format (pos (suc n)) s x y p q = same_pattern format 0 (suc n) s x y p q
one_pattern format (negsuc n) s x y p q = same_pattern format 1 (suc n) s x y p q

-- a pattern stands for at most one number
pub one_number : (format : Format) (m n : ℤ) (s x : ℕ) → IsPattern format m s x → IsPattern format n s x → m ≡ n
one_number format (pos zero) (pos zero) s x p q = refl
one_number format (pos zero) (pos (suc n)) s x p q = absurd (not_zero format 0 (suc n) s x q p)
one_number format (pos zero) (negsuc n) s x p q = absurd (not_zero format 1 (suc n) s x q p)
one_number format (pos (suc m)) (pos zero) s x p q = absurd (not_zero format 0 (suc m) s x p q)
one_number format (pos (suc m)) (pos (suc n)) s x p q = ap pos (same_size format 0 0 (suc m) (suc n) s x p q)
one_number format (pos (suc m)) (negsuc n) s x p q = absurd (not_both format (suc m) (suc n) s x p q)
one_number format (negsuc m) (pos zero) s x p q = absurd (not_zero format 1 (suc m) s x p q)
one_number format (negsuc m) (pos (suc n)) s x p q = absurd (not_both format (suc n) (suc m) s x q p)
one_number format (negsuc m) (negsuc n) s x p q =
    let same : m ≡ n = omega (arith, same_size format 1 1 (suc m) (suc n) s x p q) in
    ap negsuc same

-- the size of the fields of a pattern, with its shift in the exponent e, both ways
shifted : (format : Format) (a e s x : ℕ) → e ≡ exponent_of format x + s →
    a * 2 ^ exponent_of format x * 2 ^ s ≡ a * 2 ^ e
shifted format a e s x sum =
    mul_assoc a (2 ^ exponent_of format x) (2 ^ s)
    ∙ ap (λ i. a * i) (sym (pow-add 2 (exponent_of format x) s)) ∙ ap (λ i. a * 2 ^ i) (sym sum)

pub value_of : (format : Format) (b n e s x : ℕ) → e ≡ exponent_of format x + s → IsNormal format b n s x →
    (2 ^ format.fraction_width + fraction_of format x) * 2 ^ e ≡ n * 2 ^ scale_of format
value_of format b n e s x sum p =
    sym (shifted format (2 ^ format.fraction_width + fraction_of format x) e s x sum) ∙ p.value

-- of a whole number that the fields give, if there is one, the pattern is the number's; far is how many places a
-- significand is moved down at most
pub read_whole : (format : Format) (far : ℕ) (o : Option ℕ) (e s x : ℕ) → e ≡ exponent_of format x + s →
    far + s < scale_of format → scale_of format + 2 ≤ 2 ^ format.exponent_width →
    let significand = 2 ^ format.fraction_width + fraction_of format x in
    IfSome o (λ n. (0 < n) × (n ≤ significand) × (significand * 2 ^ e ≡ n * 2 ^ scale_of format)) →
    OnSome o ((e ≤ scale_of format) × (scale_of format ≤ e + far)) →
    IfSome o (λ n. (0 < n) × (n < 2 ^ suc format.fraction_width) × IsNormal format (sign_of format x) n s x)
read_whole format far None e s x sum low high p q = tt
read_whole format far (Some n) e s x sum low high p q =
    let t = format.fraction_width in
    let few : fraction_of format x < 2 ^ t = mod_below x (2 ^ t) (pow_pos t) in
    let normal : IsNormal format (sign_of format x) n s x = record {
      sign = refl;
      exponent = omega (arith, sum, q.0, q.1);
      value = shifted format (2 ^ t + fraction_of format x) e s x sum ∙ p.2;
    } in
    (p.0, omega (arith, p.1, few, twice t), normal)

-- where no size fits the fields of a pattern, no number has it
own_sign : (format : Format) (b n s x : ℕ) → IsNormal format b n s x → IsNormal format (sign_of format x) n s x
own_sign format b n s x p = record { sign = refl; exponent = p.exponent; value = p.value }

pub absent : (format : Format) (limit s x : ℕ) → (x ≡ 0 → ⊥) →
    ((n : ℕ) → n < limit → IsNormal format (sign_of format x) n s x → ◌≡◌ {A = Option ℕ} None (Some n)) →
    (n : ℤ) → unsigned_abs n < limit → IsPattern format n s x → ⊥
absent format limit s x some none (pos zero) h p = some p
absent format limit s x some none (pos (suc n)) h p =
    none-some (suc n) (none (suc n) h (own_sign format 0 (suc n) s x p))
absent format limit s x some none (negsuc n) h p =
    none-some (suc n) (none (suc n) h (own_sign format 1 (suc n) s x p))

-- what holds anyway holds where there is no value
pub on_none : {X : Type 0} (o : Option X) (P : Type 0) → P → IfNone o P
on_none None P p = p
on_none (Some x) P p = tt

-- ---- both formats
pub one_pattern64 : (n : ℤ) (s x y : ℕ) → IsBits64 n s x → IsBits64 n s y → x ≡ y
one_pattern64 n s x y p q = one_pattern binary64 n s x y p q

pub one_pattern32 : (n : ℤ) (x y : ℕ) → IsBits32 n x → IsBits32 n y → x ≡ y
one_pattern32 n x y p q = one_pattern binary32 n 0 x y p q

pub one_number64 : (m n : ℤ) (s x : ℕ) → IsBits64 m s x → IsBits64 n s x → m ≡ n
one_number64 m n s x p q = one_number binary64 m n s x p q

pub one_number32 : (m n : ℤ) (x : ℕ) → IsBits32 m x → IsBits32 n x → m ≡ n
one_number32 m n x p q = one_number binary32 m n 0 x p q
