-- Bounds of sums, products, quotients and roots, over whole numbers; k is the scale.
use Rattle.std.proofs.Common.{◌≡◌, ℕ, zero, suc, ◌*◌, ◌<◌, ◌≤◌, refl, sym, ◌∙◌, arith, [], ◌∷◌}
use Rattle.std.proofs.lemmas.Int.{ints}
use Rattle.std.proofs.Math.Nat.{mul-le-mul_right}
use Rattle.std.specs.Prelude.{ℤ, pos, negsuc, ◌+ℤ◌, ◌*ℤ◌, ◌≤ℤ◌, ◌<ℤ◌, neg_ℤ}
use Rattle.polynomial.proofs.Expressions.{var, add, mul}
use Rattle.polynomial.proofs.NormalForm.{by_ring}
use Rattle.terrain_base.specs.Division.{IsFloor, IsCeil}
use Rattle.terrain_base.proofs.Quotients.{mul_mono, mul_anti, mul_off, mul_next, root_le}

pub le_trans_z : {a b c : ℤ} → a ≤ℤ b → b ≤ℤ c → a ≤ℤ c
le_trans_z {a} {b} {c} h k = omega (arith, ints, h, k)

pub sum_mono : {a b c d : ℤ} → a ≤ℤ b → c ≤ℤ d → (a +ℤ c) ≤ℤ (b +ℤ d)
sum_mono {a} {b} {c} {d} h k = omega (arith, ints, h, k)

-- the denominators of a sum's bound are multiplied
sum_left : (x y d e : ℤ) → (x +ℤ y) *ℤ (d *ℤ e) ≡ ((x *ℤ d) *ℤ e) +ℤ ((y *ℤ e) *ℤ d)
sum_left x y d e = by_ring
    (mul (add (var 0) (var 1)) (mul (var 2) (var 3)))
    (add (mul (mul (var 0) (var 2)) (var 3)) (mul (mul (var 1) (var 3)) (var 2)))
    (x ∷ y ∷ d ∷ e ∷ []) refl

sum_right : (n m d e k : ℤ) → ((n *ℤ e) +ℤ (m *ℤ d)) *ℤ k ≡ ((n *ℤ k) *ℤ e) +ℤ ((m *ℤ k) *ℤ d)
sum_right n m d e k = by_ring
    (mul (add (mul (var 0) (var 3)) (mul (var 1) (var 2))) (var 4))
    (add (mul (mul (var 0) (var 4)) (var 3)) (mul (mul (var 1) (var 4)) (var 2)))
    (n ∷ m ∷ d ∷ e ∷ k ∷ []) refl

pub sum_low : (k x y n m : ℤ) (d e : ℕ) → (x *ℤ pos d) ≤ℤ (n *ℤ k) → (y *ℤ pos e) ≤ℤ (m *ℤ k)
    → ((x +ℤ y) *ℤ pos (d * e)) ≤ℤ (((n *ℤ pos e) +ℤ (m *ℤ pos d)) *ℤ k)
sum_low k x y n m d e h g = rw (sum_left x y (pos d) (pos e), sum_right n m (pos d) (pos e) k)
    (sum_mono (mul_mono e (x *ℤ pos d) (n *ℤ k) h) (mul_mono d (y *ℤ pos e) (m *ℤ k) g))

pub sum_high : (k x y n m : ℤ) (d e : ℕ) → (n *ℤ k) ≤ℤ (x *ℤ pos d) → (m *ℤ k) ≤ℤ (y *ℤ pos e)
    → (((n *ℤ pos e) +ℤ (m *ℤ pos d)) *ℤ k) ≤ℤ ((x +ℤ y) *ℤ pos (d * e))
sum_high k x y n m d e h g = rw (sum_left x y (pos d) (pos e), sum_right n m (pos d) (pos e) k)
    (sum_mono (mul_mono e (n *ℤ k) (x *ℤ pos d) h) (mul_mono d (m *ℤ k) (y *ℤ pos e) g))

pub neg_order : {a b : ℤ} → a ≤ℤ b → neg_ℤ b ≤ℤ neg_ℤ a
neg_order {a} {b} h = omega (arith, ints, h)

-- a product lies above what lies below its four corners
above_corners : (m x y a1 a2 b1 b2 : ℤ) → a1 ≤ℤ x → x ≤ℤ a2 → b1 ≤ℤ y → y ≤ℤ b2
    → m ≤ℤ (a1 *ℤ b1) → m ≤ℤ (a1 *ℤ b2) → m ≤ℤ (a2 *ℤ b1) → m ≤ℤ (a2 *ℤ b2) → m ≤ℤ (x *ℤ y)
above_corners m (pos x) y a1 a2 (pos b) b2 p q r s h i j k = omega
    (arith, ints, mul_mono x (pos b) y r, mul_mono b a1 (pos x) p)
above_corners m (pos x) y a1 a2 (negsuc b) b2 p q r s h i j k = omega
    (arith, ints, mul_mono x (negsuc b) y r, mul_anti b (pos x) a2 q)
above_corners m (negsuc x) y a1 a2 b1 (pos b) p q r s h i j k = omega
    (arith, ints, mul_anti x y (pos b) s, mul_mono b a1 (negsuc x) p)
above_corners m (negsuc x) y a1 a2 b1 (negsuc b) p q r s h i j k = omega
    (arith, ints, mul_anti x y (negsuc b) s, mul_anti b (negsuc x) a2 q)

below_corners : (m x y a1 a2 b1 b2 : ℤ) → a1 ≤ℤ x → x ≤ℤ a2 → b1 ≤ℤ y → y ≤ℤ b2
    → (a1 *ℤ b1) ≤ℤ m → (a1 *ℤ b2) ≤ℤ m → (a2 *ℤ b1) ≤ℤ m → (a2 *ℤ b2) ≤ℤ m → (x *ℤ y) ≤ℤ m
below_corners m (pos x) y a1 a2 b1 (pos b) p q r s h i j k = omega
    (arith, ints, mul_mono x y (pos b) s, mul_mono b (pos x) a2 q)
below_corners m (pos x) y a1 a2 b1 (negsuc b) p q r s h i j k = omega
    (arith, ints, mul_mono x y (negsuc b) s, mul_anti b a1 (pos x) p)
below_corners m (negsuc x) y a1 a2 (pos b) b2 p q r s h i j k = omega
    (arith, ints, mul_anti x (pos b) y r, mul_mono b (negsuc x) a2 q)
below_corners m (negsuc x) y a1 a2 (negsuc b) b2 p q r s h i j k = omega
    (arith, ints, mul_anti x (negsuc b) y r, mul_anti b a1 (negsuc x) p)

-- the factors of two products change places
pub regroup : (a d b e : ℤ) → (a *ℤ d) *ℤ (b *ℤ e) ≡ (a *ℤ b) *ℤ (d *ℤ e)
regroup a d b e = by_ring
    (mul (mul (var 0) (var 1)) (mul (var 2) (var 3)))
    (mul (mul (var 0) (var 2)) (mul (var 1) (var 3)))
    (a ∷ d ∷ b ∷ e ∷ []) refl

pub swapped : (a b c : ℤ) → (a *ℤ b) *ℤ c ≡ (a *ℤ c) *ℤ b
swapped a b c = by_ring (mul (mul (var 0) (var 1)) (var 2)) (mul (mul (var 0) (var 2)) (var 1))
    (a ∷ b ∷ c ∷ []) refl

pub assoc : (a b c : ℤ) → (a *ℤ b) *ℤ c ≡ a *ℤ (b *ℤ c)
assoc a b c = by_ring (mul (mul (var 0) (var 1)) (var 2)) (mul (var 0) (mul (var 1) (var 2)))
    (a ∷ b ∷ c ∷ []) refl

-- a bound of a product of the ends, times the denominators
scaled_low : (m k a b : ℤ) (d e : ℕ) → (m *ℤ k) ≤ℤ (a *ℤ b)
    → ((m *ℤ k) *ℤ pos (d * e)) ≤ℤ ((a *ℤ pos d) *ℤ (b *ℤ pos e))
scaled_low m k a b d e h = rw (regroup a (pos d) b (pos e)) (mul_mono (d * e) (m *ℤ k) (a *ℤ b) h)

scaled_high : (m k a b : ℤ) (d e : ℕ) → (a *ℤ b) ≤ℤ (m *ℤ k)
    → ((a *ℤ pos d) *ℤ (b *ℤ pos e)) ≤ℤ ((m *ℤ k) *ℤ pos (d * e))
scaled_high m k a b d e h = rw (regroup a (pos d) b (pos e)) (mul_mono (d * e) (a *ℤ b) (m *ℤ k) h)

-- the product of two numerators, with one scale taken off
pub product_low : (k : ℕ) (m n1 n2 al ah bl bh : ℤ) (d e : ℕ) → 0 < k
    → (al *ℤ pos d) ≤ℤ (n1 *ℤ pos k) → (n1 *ℤ pos k) ≤ℤ (ah *ℤ pos d)
    → (bl *ℤ pos e) ≤ℤ (n2 *ℤ pos k) → (n2 *ℤ pos k) ≤ℤ (bh *ℤ pos e)
    → (m *ℤ pos k) ≤ℤ (al *ℤ bl) → (m *ℤ pos k) ≤ℤ (al *ℤ bh) → (m *ℤ pos k) ≤ℤ (ah *ℤ bl)
    → (m *ℤ pos k) ≤ℤ (ah *ℤ bh)
    → (m *ℤ pos (d * e)) ≤ℤ ((n1 *ℤ n2) *ℤ pos k)
product_low k m n1 n2 al ah bl bh d e p f1 f2 g1 g2 h1 h2 h3 h4 =
    let all = above_corners ((m *ℤ pos k) *ℤ pos (d * e)) (n1 *ℤ pos k) (n2 *ℤ pos k)
    (al *ℤ pos d) (ah *ℤ pos d) (bl *ℤ pos e) (bh *ℤ pos e) f1 f2 g1 g2
    (scaled_low m (pos k) al bl d e h1) (scaled_low m (pos k) al bh d e h2)
    (scaled_low m (pos k) ah bl d e h3) (scaled_low m (pos k) ah bh d e h4) in
    let there = rw (
      regroup n1 (pos k) n2 (pos k),
      swapped m (pos k) (pos (d * e)),
      sym
          (assoc (n1 *ℤ n2) (pos k) (pos k)),
    ) at all in
    mul_off k (m *ℤ pos (d * e)) ((n1 *ℤ n2) *ℤ pos k) p there

pub product_high : (k : ℕ) (m n1 n2 al ah bl bh : ℤ) (d e : ℕ) → 0 < k
    → (al *ℤ pos d) ≤ℤ (n1 *ℤ pos k) → (n1 *ℤ pos k) ≤ℤ (ah *ℤ pos d)
    → (bl *ℤ pos e) ≤ℤ (n2 *ℤ pos k) → (n2 *ℤ pos k) ≤ℤ (bh *ℤ pos e)
    → (al *ℤ bl) ≤ℤ (m *ℤ pos k) → (al *ℤ bh) ≤ℤ (m *ℤ pos k) → (ah *ℤ bl) ≤ℤ (m *ℤ pos k)
    → (ah *ℤ bh) ≤ℤ (m *ℤ pos k)
    → ((n1 *ℤ n2) *ℤ pos k) ≤ℤ (m *ℤ pos (d * e))
product_high k m n1 n2 al ah bl bh d e p f1 f2 g1 g2 h1 h2 h3 h4 =
    let all = below_corners ((m *ℤ pos k) *ℤ pos (d * e)) (n1 *ℤ pos k) (n2 *ℤ pos k)
    (al *ℤ pos d) (ah *ℤ pos d) (bl *ℤ pos e) (bh *ℤ pos e) f1 f2 g1 g2
    (scaled_high m (pos k) al bl d e h1) (scaled_high m (pos k) al bh d e h2)
    (scaled_high m (pos k) ah bl d e h3) (scaled_high m (pos k) ah bh d e h4) in
    let there = rw (
      regroup n1 (pos k) n2 (pos k),
      swapped m (pos k) (pos (d * e)),
      sym
          (assoc (n1 *ℤ n2) (pos k) (pos k)),
    ) at all in
    mul_off k ((n1 *ℤ n2) *ℤ pos k) (m *ℤ pos (d * e)) p there

-- the quotient by a whole number
pub whole_low : (k : ℤ) (q x n : ℤ) (d j : ℕ) → (q *ℤ pos j) ≤ℤ x → (x *ℤ pos d) ≤ℤ (n *ℤ k)
    → (q *ℤ pos (d * j)) ≤ℤ (n *ℤ k)
whole_low k q x n d j f h =
    let e : q *ℤ (pos d *ℤ pos j) ≡ (q *ℤ pos j) *ℤ pos d = sym (assoc q (pos d) (pos j)) ∙ swapped q
    (pos d) (pos j) in
    le_trans_z (rw e (mul_mono d (q *ℤ pos j) x f)) h

pub whole_high : (k : ℤ) (q x n : ℤ) (d j : ℕ) → x ≤ℤ (q *ℤ pos j) → (n *ℤ k) ≤ℤ (x *ℤ pos d)
    → (n *ℤ k) ≤ℤ (q *ℤ pos (d * j))
whole_high k q x n d j f h =
    let e : q *ℤ (pos d *ℤ pos j) ≡ (q *ℤ pos j) *ℤ pos d = sym (assoc q (pos d) (pos j)) ∙ swapped q
    (pos d) (pos j) in
    le_trans_z h (rw e (mul_mono d x (q *ℤ pos j) f))

-- a factor from 0 on keeps the order, and one up to 0 turns it
pub keep_order : (q x y : ℤ) → pos 0 ≤ℤ q → x ≤ℤ y → (q *ℤ x) ≤ℤ (q *ℤ y)
keep_order (pos q) x y p h = omega (arith, ints, mul_mono q x y h)
keep_order (negsuc q) x y p h = absurd (omega (arith, ints))

pub turn_order : (q x y : ℤ) → q ≤ℤ pos 0 → x ≤ℤ y → (q *ℤ y) ≤ℤ (q *ℤ x)
turn_order (pos zero) x y p h = omega (arith, ints)
turn_order (pos (suc q)) x y p h = absurd (omega (arith, ints))
turn_order (negsuc q) x y p h = omega (arith, ints, mul_anti q x y h)

-- the quotient a / b with b at its better end: q * (m / e) is at most n / d
ratio_first : (q m k d : ℤ) → (q *ℤ (m *ℤ k)) *ℤ d ≡ (q *ℤ (d *ℤ m)) *ℤ k
ratio_first q m k d = by_ring
    (mul (mul (var 0) (mul (var 1) (var 2))) (var 3)) (mul (mul (var 0) (mul (var 3) (var 1))) (var 2))
    (q ∷ m ∷ k ∷ d ∷ []) refl

ratio_second : (q b e d : ℤ) → (q *ℤ (b *ℤ e)) *ℤ d ≡ (q *ℤ b) *ℤ (d *ℤ e)
ratio_second q b e d = by_ring
    (mul (mul (var 0) (mul (var 1) (var 2))) (var 3)) (mul (mul (var 0) (var 1)) (mul (var 3) (var 2)))
    (q ∷ b ∷ e ∷ d ∷ []) refl

ratio_last : (n k e : ℤ) → (n *ℤ k) *ℤ (k *ℤ e) ≡ ((n *ℤ e) *ℤ k) *ℤ k
ratio_last n k e = by_ring
    (mul (mul (var 0) (var 1)) (mul (var 1) (var 2))) (mul (mul (mul (var 0) (var 2)) (var 1)) (var 1))
    (n ∷ k ∷ e ∷ []) refl

pub ratio_low : (k m d e : ℕ) (q a b n : ℤ) → 0 < k
    → (q *ℤ (pos m *ℤ pos k)) ≤ℤ (q *ℤ (b *ℤ pos e)) → (q *ℤ b) ≤ℤ (a *ℤ pos k)
    → (a *ℤ pos d) ≤ℤ (n *ℤ pos k)
    → (q *ℤ pos (d * m)) ≤ℤ ((n *ℤ pos e) *ℤ pos k)
ratio_low k m d e q a b n p key f h =
    let one = rw (ratio_first q (pos m) (pos k) (pos d), ratio_second q b (pos e) (pos d))
    at (mul_mono d _ _ key) in
    let two = rw (regroup a (pos k) (pos d) (pos e)) at (mul_mono (d * e) (q *ℤ b) (a *ℤ pos k) f) in
    let three = rw (ratio_last n (pos k) (pos e)) at (mul_mono (k * e) (a *ℤ pos d) (n *ℤ pos k) h) in
    mul_off k (q *ℤ pos (d * m)) ((n *ℤ pos e) *ℤ pos k) p (le_trans_z one (le_trans_z two three))

pub ratio_high : (k m d e : ℕ) (q a b n : ℤ) → 0 < k
    → (q *ℤ (b *ℤ pos e)) ≤ℤ (q *ℤ (pos m *ℤ pos k)) → (a *ℤ pos k) ≤ℤ (q *ℤ b)
    → (n *ℤ pos k) ≤ℤ (a *ℤ pos d)
    → ((n *ℤ pos e) *ℤ pos k) ≤ℤ (q *ℤ pos (d * m))
ratio_high k m d e q a b n p key f h =
    let one = rw (ratio_second q b (pos e) (pos d), ratio_first q (pos m) (pos k) (pos d))
    at (mul_mono d _ _ key) in
    let two = rw (regroup a (pos k) (pos d) (pos e)) at (mul_mono (d * e) (a *ℤ pos k) (q *ℤ b) f) in
    let three = rw (ratio_last n (pos k) (pos e)) at (mul_mono (k * e) (n *ℤ pos k) (a *ℤ pos d) h) in
    mul_off k ((n *ℤ pos e) *ℤ pos k) (q *ℤ pos (d * m)) p (le_trans_z three (le_trans_z two one))

-- the sign of a quotient
pub floor_from_nought : (a b q : ℤ) → pos 0 ≤ℤ a → pos 0 <ℤ b → IsFloor a b q → pos 0 ≤ℤ q
floor_from_nought a b (pos q) p r f = omega (arith, ints)
floor_from_nought a (pos n) (negsuc q) p r f = absurd
    (omega (
      arith,
      ints,
      f.high,
      p,
      mul_next (negsuc q) (pos n),
      mul_mono n (negsuc q +ℤ pos 1) (pos 0)
          (omega (arith, ints)),
    ))
floor_from_nought a (negsuc n) (negsuc q) p r f = absurd (omega (arith, ints))

pub floor_below_nought : (a b q : ℤ) → a <ℤ pos 0 → pos 0 <ℤ b → IsFloor a b q → q <ℤ pos 0
floor_below_nought a (pos n) (pos q) p r f = absurd (omega (arith, ints, f.low, p))
floor_below_nought a (negsuc n) (pos q) p r f = absurd (omega (arith, ints))
floor_below_nought a b (negsuc q) p r f = omega (arith, ints)

pub ceil_from_nought : (a b q : ℤ) → pos 0 ≤ℤ a → pos 0 <ℤ b → IsCeil a b q → pos 0 ≤ℤ q
ceil_from_nought a b (pos q) p r f = omega (arith, ints)
ceil_from_nought a (pos n) (negsuc q) p r f = absurd
    (omega (arith, ints, f.high, p, mul_mono n (negsuc q) (negsuc 0) (omega (arith, ints))))
ceil_from_nought a (negsuc n) (negsuc q) p r f = absurd (omega (arith, ints))

pub ceil_up_to_nought : (a b q : ℤ) → a <ℤ pos 0 → pos 0 <ℤ b → IsCeil a b q → q ≤ℤ pos 0
ceil_up_to_nought a b (pos zero) p r f = omega (arith, ints)
ceil_up_to_nought a (pos n) (pos (suc q)) p r f = absurd (omega (arith, ints, f.low, p))
ceil_up_to_nought a (negsuc n) (pos (suc q)) p r f = absurd (omega (arith, ints))
ceil_up_to_nought a b (negsuc q) p r f = omega (arith, ints)

-- the ends of a root, as natural numbers
pub root_bound_low : (k a r n d : ℕ) → r * r ≤ a * k → a * (d * d) ≤ (n * n) * k → r * d ≤ n * k
root_bound_low k a r n d h g = root_le (r * d) (n * k)
    (omega (arith, mul-le-mul_right (d * d) h, mul-le-mul_right k g))

pub root_bound_high : (k a r n d : ℕ) → a * k ≤ r * r → (n * n) * k ≤ a * (d * d) → n * k ≤ r * d
root_bound_high k a r n d h g = root_le (n * k) (r * d)
    (omega (arith, mul-le-mul_right (d * d) h, mul-le-mul_right k g))
