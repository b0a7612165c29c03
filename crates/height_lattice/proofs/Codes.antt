-- A code is a whole number of metres times the codes of a metre.
use Rattle.std.proofs.Common.{◌≡◌, ℕ, ◌*◌, ◌/◌, ◌%◌, ◌<◌, ◌≤◌}
use Rattle.std.proofs.Common.{ℤ, pos, negsuc, ◌+ℤ◌, ◌-ℤ◌, ◌≤ℤ◌}
use Rattle.std.proofs.Common.{refl, ap, sym, ◌∙◌, inl, inr, arith}
use Rattle.std.specs.Int.{◌∣◌}
use Rattle.std.proofs.Math.Nat.{mul_assoc, div-mul_cancel, mul-div_cancel}
use Rattle.std.proofs.Math.Nat.{eq_of_mul-eq-mul_right, mul-le-mul_right, pos_of_dvd_of_pos, dvd-mul_left}
use Rattle.std.proofs.lemmas.Nat.Gcd.{mod-eq-zero_of_dvd, dvd_of_mod-eq-zero}
use Rattle.std.proofs.lemmas.Bool.{cases_lt}
use Rattle.std.proofs.lemmas.Int.{ints}
use Rattle.height_lattice.specs.declared.height_frame.HeightFrame.{HeightFrame}
use Rattle.height_lattice.specs.HeightCode.{IsCode}
use Rattle.height_lattice.specs.HeightFrame.{IsWithin}

pub range_above : (r : ℕ) → r ∣ 32767 → 0 < r
range_above r d = pos_of_dvd_of_pos d (omega arith)

pub step_above : (r : ℕ) → r ∣ 32767 → 0 < 32767 / r
step_above r d = elim (cases_lt 0 (32767 / r)) [
  | inl some ↦ some
  | inr none ↦
      let empty : 32767 / r ≡ 0 = omega arith in
      absurd (omega (arith, sym (div-mul_cancel r d) ∙ ap (λ k. k * r) empty))
]

-- the code of so many metres above the base
pub product : (a r : ℕ) → r ∣ 32767 → a * (32767 / r) * r ≡ a * 32767
product a r d = mul_assoc a (32767 / r) r ∙ ap (λ x. a * x) (div-mul_cancel r d)

natural : (z : ℤ) → pos 0 ≤ℤ z → (a : ℕ) × (z ≡ pos a)
natural (pos n) h = (n, refl)
natural (negsuc n) h = absurd (omega (arith, ints, h))

-- a code of a height is a product, of as many metres as the height lies above the base
pub metres_of : (frame : HeightFrame) (m : ℤ) (code : ℕ) → frame.range ∣ 32767 →
    frame.base ≤ℤ m → IsCode frame m code →
    (a : ℕ) × (m -ℤ frame.base ≡ pos a) × (code ≡ a * (32767 / frame.range))
metres_of frame m code d low place =
    let above = natural (m -ℤ frame.base) (omega (arith, ints)) in
    let scaled : code * frame.range ≡ above.0 * 32767 = omega (arith, ints, place, above.1) in
    let same : code * frame.range ≡ above.0 * (32767 / frame.range) * frame.range =
    scaled ∙ sym (product above.0 frame.range d) in
    let some = range_above frame.range d in
    (above.0, above.1, eq_of_mul-eq-mul_right frame.range some code (above.0 * (32767 / frame.range)) same)

pub same_code : (frame : HeightFrame) (m : ℤ) (code other : ℕ) → frame.range ∣ 32767 →
    IsCode frame m code → IsCode frame m other → code ≡ other
same_code frame m code other d p q =
    let same : code * frame.range ≡ other * frame.range = omega (arith, ints, p, q) in
    eq_of_mul-eq-mul_right frame.range (range_above frame.range d) code other same

-- the code of a height of the frame is at most 32767, and divides by the codes of a metre
pub code_small : (frame : HeightFrame) (m : ℤ) (code : ℕ) → frame.range ∣ 32767 →
    IsWithin frame m → IsCode frame m code → code ≤ 32767
code_small frame m code d within place =
    let above = metres_of frame m code d within.low place in
    let few : above.0 ≤ frame.range = omega (arith, ints, above.1, within.high) in
    omega (arith, above.2, div-mul_cancel frame.range d, mul-le-mul_right (32767 / frame.range) few)

pub code_divides : (frame : HeightFrame) (m : ℤ) (code : ℕ) → frame.range ∣ 32767 →
    IsWithin frame m → IsCode frame m code → code % (32767 / frame.range) ≡ 0
code_divides frame m code d within place =
    let above = metres_of frame m code d within.low place in
    let step = 32767 / frame.range in
    ap (λ n. n % step) above.2 ∙ mod-eq-zero_of_dvd step (dvd-mul_left step above.0)

-- the metres of a code, above the base
pub quotient_is : (frame : HeightFrame) (m : ℤ) (code : ℕ) → frame.range ∣ 32767 →
    IsWithin frame m → IsCode frame m code → m ≡ frame.base +ℤ pos (code / (32767 / frame.range))
quotient_is frame m code d within place =
    let above = metres_of frame m code d within.low place in
    let step = 32767 / frame.range in
    let quotient : code / step ≡ above.0 =
    ap (λ n. n / step) above.2 ∙ mul-div_cancel above.0 (step_above frame.range d) in
    omega (arith, ints, above.1, quotient)

-- a code that divides by the codes of a metre is that of a height
pub code_is : (code r : ℕ) → r ∣ 32767 → code % (32767 / r) ≡ 0 → code * r ≡ code / (32767 / r) * 32767
code_is code r d e =
    let step = 32767 / r in
    let whole : code ≡ code / step * step = sym (div-mul_cancel step (dvd_of_mod-eq-zero step e)) in
    ap (λ n. n * r) whole ∙ product (code / step) r d
