-- Orders: what an `Ordering` tells, tests of natural numbers and of integers, and cases by order.
use Rattle.std.proofs.Common.{◌≡◌, ℕ, ◌+◌, ◌<◌, ◌≤◌, ◌==◌, true, false, T, ⊎_elim, Ordering, Less, Equal, Greater, is_lt, refl, sym, subst, arith}
use Rattle.std.specs.Prelude.{ℤ, pos, ◌-ℤ◌, ◌≤ℤ◌, int_le}
use Rattle.std.proofs.Math.Dec.{T_prop}
use Rattle.std.proofs.lemmas.Bool.{cases_lt}
use Rattle.std.proofs.lemmas.Bool.Decides.{nat_tests}
use Rattle.std.proofs.lemmas.Int.{ints}

-- ---- an `Ordering`
pub less_from_test : (o : Ordering) → is_lt o ≡ true → o ≡ Less
less_from_test Less e = refl
less_from_test Equal e = absurd (cc)
less_from_test Greater e = absurd (cc)

pub less_from_holds : (o : Ordering) → T (is_lt o) → o ≡ Less
less_from_holds Less h = refl
less_from_holds Equal h = absurd h
less_from_holds Greater h = absurd h

pub holds_from_less : (o : Ordering) → o ≡ Less → T (is_lt o)
holds_from_less o e = subst (λ o. T (is_lt o)) (sym e) tt

-- ---- natural numbers
pub equal_itself : (n : ℕ) → (n == n) ≡ true
equal_itself n = grind (arith, nat_tests)

pub positive_not_zero : (n : ℕ) → 0 < n → (n == 0) ≡ false
positive_not_zero n h = grind (arith, nat_tests)

-- neither of two numbers is below the other
pub same_from_neither_below : (m n : ℕ) → (m < n → ⊥) → (n < m → ⊥) → m ≡ n
same_from_neither_below m n f g = grind (arith, f, g)

module _ {P : Type 0} where
  pub by_below : (m n : ℕ) → (m < n → P) → (n ≤ m → P) → P
  by_below m n f g = ⊎_elim f g (cases_lt m n)

  pub by_at_most : (m n : ℕ) → (m ≤ n → P) → (n < m → P) → P
  by_at_most m n f g = ⊎_elim g f (cases_lt n m)

  -- either is at most the other
  pub by_order : (m n : ℕ) → (m ≤ n → P) → (n ≤ m → P) → P
  by_order m n f g = ⊎_elim (λ h. f (omega arith)) g (cases_lt m n)

  -- a number up to n is below n, or n
  pub by_last : (i n : ℕ) → i < n + 1 → (i < n → P) → (i ≡ n → P) → P
  by_last i n h f g = ⊎_elim f (λ k. g (omega arith)) (cases_lt i n)

-- ---- integers
pub at_most_prop : (a b : ℤ) → IsProp (a ≤ℤ b)
at_most_prop a b = λ x y i. record { le = T_prop _ x.le y.le i }

pub test_from_at_most : (a b : ℤ) → a ≤ℤ b → int_le a b ≡ true
test_from_at_most a b h = grind (arith, ints, h)

pub at_most_from_test : (a b : ℤ) → int_le a b ≡ true → a ≤ℤ b
at_most_from_test a b h = grind (arith, ints, h)

pub difference_nonnegative : (a b : ℤ) → a ≤ℤ b → pos 0 ≤ℤ (b -ℤ a)
difference_nonnegative a b h = omega (arith, ints, h)
