-- Expressions over whole numbers, and equations between them by sums and products of naturals.
use Rattle.std.proofs.Common.{◌≡◌, ℕ, ◌+◌, ◌*◌, ap, arith, List, [], ◌∷◌, zero, suc, Bool, true, false, not}
use Rattle.std.specs.Prelude.{ℤ, pos, ◌+ℤ◌, ◌-ℤ◌, ◌*ℤ◌, neg_ℤ}
use borrow.Author.Differences.{up, down, sum_is_lem, neg_is, product_is, same_in}

-- z is p - n
pub record Is (z : ℤ) (p n : ℕ) : Type 0 where
  pub is : up z + n ≡ down z + p

pub is_sum : (a b : ℤ) (p n q m : ℕ) → Is a p n → Is b q m → Is (a +ℤ b) (p + q) (n + m)
is_sum a b p n q m h k = record { is = omega (arith, h.is, k.is, sum_is_lem a b) }

pub is_neg : (a : ℤ) (p n : ℕ) → Is a p n → Is (neg_ℤ a) n p
is_neg a p n h = record { is = omega (arith, h.is, neg_is a) }

times_eq : (a b c d p n q m : ℕ) → a + n ≡ b + p → c + m ≡ d + q
    → (a * c + b * d) + (p * m + n * q) ≡ (a * d + b * c) + (p * q + n * m)
times_eq a b c d p n q m h k =
    omega (
      arith,
      ap (λ (t : ℕ). t * c) h,
      ap (λ (t : ℕ). t * d) h,
      ap (λ (t : ℕ). p * t) k,
      ap (λ (t : ℕ). n * t) k,
    )

pub is_product : (a b : ℤ) (p n q m : ℕ) → Is a p n → Is b q m → Is (a *ℤ b) (p * q + n * m) (p * m + n * q)
is_product a b p n q m h k =
    record { is = omega (arith, times_eq (up a) (down a) (up b) (down b) p n q m h.is k.is, product_is a b) }

pub data Expr : Type 0 where
  var : ℕ → Expr
  num : ℕ → Expr
  add : Expr → Expr → Expr
  sub : Expr → Expr → Expr
  mul : Expr → Expr → Expr

abbrev pub at : List ℤ → ℕ → ℤ
at [] i = pos 0
at (x ∷ xs) zero = x
at (x ∷ xs) (suc i) = at xs i

abbrev pub val : Expr → List ℤ → ℤ
val (var i) r = at r i
val (num n) r = pos n
val (add a b) r = val a r +ℤ val b r
val (sub a b) r = val a r -ℤ val b r
val (mul a b) r = val a r *ℤ val b r

-- the sum of the monomials of one sign
abbrev pub half : Expr → Bool → List ℤ → ℕ
half (var i) true r = up (at r i)
half (var i) false r = down (at r i)
half (num n) true r = n
half (num n) false r = 0
half (add a b) s r = half a s r + half b s r
half (sub a b) s r = half a s r + half b (not s) r
half (mul a b) s r = half a true r * half b s r + half a false r * half b (not s) r

pub reads : (e : Expr) (r : List ℤ) → Is (val e r) (half e true r) (half e false r)
reads (var i) r = record { is = omega arith }
reads (num n) r = record { is = omega arith }
reads (add a b) r =
    is_sum (val a r) (val b r) (half a true r) (half a false r) (half b true r) (half b false r) (reads a r)
    (reads b r)
reads (sub a b) r =
    is_sum (val a r) (neg_ℤ (val b r)) (half a true r) (half a false r) (half b false r) (half b true r)
    (reads a r) (is_neg (val b r) (half b true r) (half b false r) (reads b r))
reads (mul a b) r =
    is_product (val a r) (val b r) (half a true r) (half a false r) (half b true r) (half b false r)
    (reads a r) (reads b r)

pub same : (e f : Expr) (r : List ℤ) → half e true r + half f false r ≡ half f true r + half e false r
    → val e r ≡ val f r
same e f r h = same_in (val e r) (val f r) (omega (arith, (reads e r).is, (reads f r).is))
