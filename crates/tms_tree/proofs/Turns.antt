-- Two spans on the circle that share a number: they share it as they stand, or one of them reaches a whole turn further.
use Rattle.std.proofs.Common.{◌≡◌, ℕ, ◌+◌, ◌*◌, ◌<◌, ◌≤◌, ◌⊎◌, inl, inr, ap, arith}
use Rattle.std.proofs.lemmas.Bool.{cases_order}
use Rattle.std.proofs.Math.Nat.{mul-le-mul_right}

-- a number w from w1 to w2, taken up by a turns and down by c, is a number from l1 to l2, taken up by b turns and
-- down by f, where a turn is 360*q
pub by_turns : (w1 w2 l1 l2 x q a b c f : ℕ) → w1 + 360 * (c * q) ≤ x + 360 * (a * q) → x + 360 * (a * q) ≤ w2 + 360 * (c * q)
    → l1 + 360 * (f * q) ≤ x + 360 * (b * q) → x + 360 * (b * q) ≤ l2 + 360 * (f * q)
    → ((w1 ≤ l2) × (l1 ≤ w2)) ⊎ ((360 * q + l1 ≤ w2) ⊎ (360 * q + w1 ≤ l2))
by_turns w1 w2 l1 l2 x q a b c f h1 h2 h3 h4 =
    elim (cases_order (a + f) (b + c)) [
      | inl e ↦
          let even : (a + f) * q ≡ (b + c) * q = ap (λ (n : ℕ). n * q) e in
          inl (omega (arith, even, h1, h4), omega (arith, even, h2, h3))
      | inr s ↦ elim s [
        | inl less ↦ inr (inr (let more : (a + f + 1) * q ≤ (b + c) * q = mul-le-mul_right q (omega arith) in omega (arith, more, h1, h4)))
        | inr less ↦ inr (inl (let more : (b + c + 1) * q ≤ (a + f) * q = mul-le-mul_right q (omega arith) in omega (arith, more, h2, h3)))
      ]
    ]

-- the same of spans without their ends
pub by_turns_inside : (w1 w2 l1 l2 x q a b c f : ℕ) → w1 + 360 * (c * q) < x + 360 * (a * q) → x + 360 * (a * q) < w2 + 360 * (c * q)
    → l1 + 360 * (f * q) < x + 360 * (b * q) → x + 360 * (b * q) < l2 + 360 * (f * q)
    → ((w1 < l2) × (l1 < w2)) ⊎ ((360 * q + l1 < w2) ⊎ (360 * q + w1 < l2))
by_turns_inside w1 w2 l1 l2 x q a b c f h1 h2 h3 h4 =
    elim (cases_order (a + f) (b + c)) [
      | inl e ↦
          let even : (a + f) * q ≡ (b + c) * q = ap (λ (n : ℕ). n * q) e in
          inl (omega (arith, even, h1, h4), omega (arith, even, h2, h3))
      | inr s ↦ elim s [
        | inl less ↦ inr (inr (let more : (a + f + 1) * q ≤ (b + c) * q = mul-le-mul_right q (omega arith) in omega (arith, more, h1, h4)))
        | inr less ↦ inr (inl (let more : (b + c + 1) * q ≤ (a + f) * q = mul-le-mul_right q (omega arith) in omega (arith, more, h2, h3)))
      ]
    ]
