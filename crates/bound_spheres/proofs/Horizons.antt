-- What hides a corner.
use Rattle.std.proofs.Common.{◌≡◌, ℕ, ◌+◌, ◌*◌, ◌-◌, ◌≤◌, ◌^◌, ◌∙◌, ap, refl, sym, arith, Fits, Bool, true, false, ◌&&◌, [], ◌∷◌}
use Rattle.std.proofs.lemmas.Int.{ints, clamps}
use Rattle.std.proofs.Math.Nat.{mul-le-mul}
use Rattle.std.specs.Prelude.{ℤ, pos, negsuc, ◌+ℤ◌, ◌-ℤ◌, ◌*ℤ◌, ◌≤ℤ◌, ◌<ℤ◌, int_le, nat_le, unsigned_abs}
use lib.Signed.{lt_z}
use mir.Syntax.{w128}
use Rattle.std.specs.Int.{int_max}
use Rattle.std.proofs.lemmas.Bool.{and_parts}
use Rattle.common_laws.proofs.Orders.{test_from_at_most, at_most_from_test}
use Rattle.common_laws.proofs.Sizes.{size_product}
use Rattle.polynomial.proofs.Expressions.{Expr, var, num, add, sub, mul}
use Rattle.polynomial.proofs.NormalForm.{by_ring}
use Rattle.polynomial.proofs.Signs.{times_nonneg, times_pos, factor_nonneg}
use Rattle.bound_spheres.specs.declared.scaled.Vector.{Vector}
use Rattle.bound_spheres.specs.Horizon.{Hides, hides_of, cross, dot, length_squared, reach, vector}
use Rattle.bound_spheres.proofs.Farthest.{square_is}

-- ---- inner products

abbrev dot_expr : (a b c d e f : Expr) → Expr
dot_expr a b c d e f = add (add (mul a d) (mul b e)) (mul c f)

-- Lagrange's identity
pub lagrange : (c p : Vector) → length_squared (cross c p) ≡ (length_squared p *ℤ length_squared c) -ℤ (dot c p *ℤ dot c p)
lagrange c p =
    let i : Expr = sub (mul (var 1) (var 5)) (mul (var 2) (var 4)) in
    let j : Expr = sub (mul (var 2) (var 3)) (mul (var 0) (var 5)) in
    let k : Expr = sub (mul (var 0) (var 4)) (mul (var 1) (var 3)) in
    by_ring (dot_expr i j k i j k)
    (sub (mul (dot_expr (var 3) (var 4) (var 5) (var 3) (var 4) (var 5)) (dot_expr (var 0) (var 1) (var 2) (var 0) (var 1) (var 2)))
    (mul (dot_expr (var 0) (var 1) (var 2) (var 3) (var 4) (var 5)) (dot_expr (var 0) (var 1) (var 2) (var 3) (var 4) (var 5))))
    (c.x ∷ c.y ∷ c.z ∷ p.x ∷ p.y ∷ p.z ∷ []) refl

square_nonneg : (a : ℤ) → pos 0 ≤ℤ (a *ℤ a)
square_nonneg a = rw (square_is a) (omega (arith, ints))

sum_nonneg : (a b c : ℤ) → pos 0 ≤ℤ a → pos 0 ≤ℤ b → pos 0 ≤ℤ c → pos 0 ≤ℤ ((a +ℤ b) +ℤ c)
sum_nonneg a b c h k l = omega (arith, ints, h, k, l)

pub length_nonneg : (a : Vector) → pos 0 ≤ℤ length_squared a
length_nonneg a = sum_nonneg (a.x *ℤ a.x) (a.y *ℤ a.y) (a.z *ℤ a.z) (square_nonneg a.x) (square_nonneg a.y) (square_nonneg a.z)

apart_is : (c p : Vector) → length_squared (vector (c.x -ℤ p.x) (c.y -ℤ p.y) (c.z -ℤ p.z))
    ≡ (length_squared c +ℤ length_squared p) -ℤ pos 2 *ℤ dot c p
apart_is c p =
    let i : Expr = sub (var 0) (var 3) in
    let j : Expr = sub (var 1) (var 4) in
    let k : Expr = sub (var 2) (var 5) in
    by_ring (dot_expr i j k i j k)
    (sub (add (dot_expr (var 0) (var 1) (var 2) (var 0) (var 1) (var 2)) (dot_expr (var 3) (var 4) (var 5) (var 3) (var 4) (var 5)))
    (mul (num 2) (dot_expr (var 0) (var 1) (var 2) (var 3) (var 4) (var 5))))
    (c.x ∷ c.y ∷ c.z ∷ p.x ∷ p.y ∷ p.z ∷ []) refl

joined_is : (c p : Vector) → length_squared (vector (c.x +ℤ p.x) (c.y +ℤ p.y) (c.z +ℤ p.z))
    ≡ (length_squared c +ℤ length_squared p) +ℤ pos 2 *ℤ dot c p
joined_is c p =
    let i : Expr = add (var 0) (var 3) in
    let j : Expr = add (var 1) (var 4) in
    let k : Expr = add (var 2) (var 5) in
    by_ring (dot_expr i j k i j k)
    (add (add (dot_expr (var 0) (var 1) (var 2) (var 0) (var 1) (var 2)) (dot_expr (var 3) (var 4) (var 5) (var 3) (var 4) (var 5)))
    (mul (num 2) (dot_expr (var 0) (var 1) (var 2) (var 3) (var 4) (var 5))))
    (c.x ∷ c.y ∷ c.z ∷ p.x ∷ p.y ∷ p.z ∷ []) refl

both_by : (a b n i j : ℤ) → pos 0 ≤ℤ i → pos 0 ≤ℤ j → i ≡ (a +ℤ b) -ℤ pos 2 *ℤ n → j ≡ (a +ℤ b) +ℤ pos 2 *ℤ n
    → a ≤ℤ pos (2 ^ 36 + 2 ^ 29) → b ≤ℤ pos (2 ^ 36 + 2 ^ 29) → unsigned_abs n ≤ 2 ^ 37
both_by a b n i j h k e f p q = omega (arith, ints, h, k, e, f, p, q)

pub both_small : (c p : Vector) → length_squared c ≤ℤ pos (2 ^ 36 + 2 ^ 29) → length_squared p ≤ℤ pos (2 ^ 36 + 2 ^ 29)
    → unsigned_abs (dot c p) ≤ 2 ^ 37
both_small c p h k = both_by (length_squared c) (length_squared p) (dot c p) _ _
    (length_nonneg (vector (c.x -ℤ p.x) (c.y -ℤ p.y) (c.z -ℤ p.z)))
    (length_nonneg (vector (c.x +ℤ p.x) (c.y +ℤ p.y) (c.z +ℤ p.z))) (apart_is c p) (joined_is c p) h k

-- ---- the square of the cross product, by natural numbers
abs_is : (n : ℤ) → pos 0 ≤ℤ n → n ≡ pos (unsigned_abs n)
abs_is n h = omega (arith, ints, h)

nat_products : (a b n x : ℤ) → pos 0 ≤ℤ a → pos 0 ≤ℤ b → pos 0 ≤ℤ x → x ≡ (a *ℤ b) -ℤ (n *ℤ n)
    → (unsigned_abs n * unsigned_abs n ≤ unsigned_abs a * unsigned_abs b)
    × (x ≡ pos (unsigned_abs a * unsigned_abs b - unsigned_abs n * unsigned_abs n))
nat_products (pos a) (pos b) n x h k l e =
    let f : x ≡ pos (a * b) -ℤ pos (unsigned_abs n * unsigned_abs n) = e ∙ ap (λ i. pos (a * b) -ℤ i) (square_is n) in
    by (a * b) (unsigned_abs n * unsigned_abs n) x l f
  where
    by : (u v : ℕ) (x : ℤ) → pos 0 ≤ℤ x → x ≡ pos u -ℤ pos v → (v ≤ u) × (x ≡ pos (u - v))
    by u v x h e = (omega (arith, ints, h, e), omega (arith, ints, h, e))
nat_products (negsuc a) b n x h k l e = absurd (omega (arith, ints, h))
nat_products (pos a) (negsuc b) n x h k l e = absurd (omega (arith, ints, k))

pub cross_fits : (c p : Vector) → unsigned_abs (dot c p) * unsigned_abs (dot c p)
    ≤ unsigned_abs (length_squared p) * unsigned_abs (length_squared c)
cross_fits c p = (nat_products (length_squared p) (length_squared c) (dot c p) (length_squared (cross c p))
    (length_nonneg p) (length_nonneg c) (length_nonneg (cross c p)) (lagrange c p)).0

pub cross_is : (c p : Vector) → length_squared (cross c p) ≡ pos (unsigned_abs (length_squared p) * unsigned_abs (length_squared c)
    - unsigned_abs (dot c p) * unsigned_abs (dot c p))
cross_is c p = (nat_products (length_squared p) (length_squared c) (dot c p) (length_squared (cross c p))
    (length_nonneg p) (length_nonneg c) (length_nonneg (cross c p)) (lagrange c p)).1

-- ---- the test, part by part
int_le_no : (m n : ℤ) → n <ℤ m → int_le m n ≡ false
int_le_no m n h = grind (arith, ints, h)

first_false : (a b : Bool) → a ≡ false → false ≡ (a && b)
first_false a b e = rw e refl

second_false : (a b : Bool) → false ≡ b → false ≡ (a && b)
second_false true b e = e
second_false false b e = refl

pub far_corner : (c p : Vector) (m : ℕ) → pos (2 ^ 36 + 2 ^ 29) <ℤ length_squared p → false ≡ hides_of c p m
unfolding hides_of
far_corner c p m h = first_false _ _ (int_le_no _ _ h)

pub far_centre : (c p : Vector) (m : ℕ) → pos (2 ^ 36 + 2 ^ 29) <ℤ length_squared c → false ≡ hides_of c p m
unfolding hides_of
far_centre c p m h = second_false _ _ (first_false _ _ (int_le_no _ _ h))

pub not_above : (c p : Vector) (m : ℕ) → reach m c p <ℤ pos 0 → false ≡ hides_of c p m
unfolding hides_of
not_above c p m h = second_false _ _ (second_false _ _ (first_false _ _ (int_le_no _ _ h)))

pub max_nonneg : (n : ℤ) → pos 0 ≤ℤ int_max n (pos 0)
max_nonneg n = omega (arith, ints, clamps)

pub nat_test : (e x v : ℤ) (k n : ℕ) → pos 0 ≤ℤ e → pos 0 ≤ℤ v → x ≡ pos n
    → nat_le ((unsigned_abs e * k) * n) ((unsigned_abs v * unsigned_abs v) * 2 ^ 36)
    ≡ int_le ((e *ℤ pos k) *ℤ x) ((v *ℤ v) *ℤ pos (2 ^ 36))
nat_test (pos e) x (pos v) k n h i f = rw f refl
nat_test (negsuc e) x v k n h i f = absurd (omega (arith, ints, h))
nat_test (pos e) x (negsuc v) k n h i f = absurd (omega (arith, ints, i))

three_true : (a b c d e : Bool) → a ≡ true → b ≡ true → c ≡ true → e ≡ d → e ≡ (a && (b && (c && d)))
three_true a b c d e p q r f = rw (p, q, r) f

pub near_test : (c p : Vector) (m : ℕ) → length_squared p ≤ℤ pos (2 ^ 36 + 2 ^ 29) → length_squared c ≤ℤ pos (2 ^ 36 + 2 ^ 29)
    → pos 0 ≤ℤ reach m c p
    → nat_le ((unsigned_abs (int_max (length_squared p -ℤ pos (2 ^ 36)) (pos 0)) * (m * m))
    * (unsigned_abs (length_squared p) * unsigned_abs (length_squared c) - unsigned_abs (dot c p) * unsigned_abs (dot c p)))
    ((unsigned_abs (reach m c p) * unsigned_abs (reach m c p)) * 2 ^ 36) ≡ hides_of c p m
unfolding hides_of
near_test c p m h k l = three_true _ _ _ _ _ (test_from_at_most _ _ h) (test_from_at_most _ _ k) (test_from_at_most _ _ l)
    (nat_test (int_max (length_squared p -ℤ pos (2 ^ 36)) (pos 0)) (length_squared (cross c p)) (reach m c p) (m * m) _
    (max_nonneg (length_squared p -ℤ pos (2 ^ 36))) l (cross_is c p))

-- ---- the test and the words
pub hides_is : (c p : Vector) (m : ℕ) → hides_of c p m ≡ true → Hides m c p
unfolding hides_of
hides_is c p m e =
    let a = and_parts (int_le (length_squared p) (pos (2 ^ 36 + 2 ^ 29))) _ e in
    let b = and_parts (int_le (length_squared c) (pos (2 ^ 36 + 2 ^ 29))) _ a.1 in
    let d = and_parts (int_le (pos 0) (reach m c p)) _ b.1 in
    record {
      corner = at_most_from_test _ _ a.0;
      centre = at_most_from_test _ _ b.0;
      above = at_most_from_test _ _ d.0;
      beyond = at_most_from_test _ _ d.1;
    }

pub hides_back : (c p : Vector) (m : ℕ) → Hides m c p → hides_of c p m ≡ true
unfolding hides_of
hides_back c p m h = sym (three_true _ _ _ _ _ (test_from_at_most _ _ h.corner) (test_from_at_most _ _ h.centre) (test_from_at_most _ _ h.above)
    (sym (test_from_at_most _ _ h.beyond)))

-- ---- the condition rises with the multiple

-- a greater multiple reaches farther: m and k, the inner product a and the square b
reaches : (m k : ℕ) (a b : ℤ) → 1 ≤ m → m ≤ k → pos 0 ≤ℤ b → pos 0 ≤ℤ (pos m *ℤ a -ℤ pos 256 *ℤ b)
    → pos 0 ≤ℤ (pos k *ℤ a -ℤ pos 256 *ℤ b)
reaches m k a b h l n r =
    let product : pos 0 ≤ℤ (pos m *ℤ a) = omega (arith, ints, n, r) in
    let up : pos 0 ≤ℤ a = factor_nonneg (pos m) a (omega (arith, ints, h)) product in
    let more : pos 0 ≤ℤ ((pos k -ℤ pos m) *ℤ a) = times_nonneg (pos k -ℤ pos m) a (omega (arith, ints, l)) up in
    let e : (pos k -ℤ pos m) *ℤ a ≡ pos k *ℤ a -ℤ pos m *ℤ a =
    by_ring (mul (sub (var 0) (var 1)) (var 2)) (sub (mul (var 0) (var 2)) (mul (var 1) (var 2))) (pos k ∷ pos m ∷ a ∷ []) refl in
    chain (pos m *ℤ a) (pos k *ℤ a) ((pos k -ℤ pos m) *ℤ a) (pos 256 *ℤ b) r more e
  where
    chain : (x y d z : ℤ) → pos 0 ≤ℤ (x -ℤ z) → pos 0 ≤ℤ d → d ≡ y -ℤ x → pos 0 ≤ℤ (y -ℤ z)
    chain x y d z p q e = omega (arith, ints, p, q, e)

-- v * k is at most w * m
in_ratio : (m k : ℕ) (a b : ℤ) → m ≤ k → pos 0 ≤ℤ b
    → ((pos m *ℤ a -ℤ pos 256 *ℤ b) *ℤ pos k) ≤ℤ ((pos k *ℤ a -ℤ pos 256 *ℤ b) *ℤ pos m)
in_ratio m k a b h n =
    let d : pos 0 ≤ℤ ((pos 256 *ℤ b) *ℤ (pos k -ℤ pos m)) = times_nonneg (pos 256 *ℤ b) (pos k -ℤ pos m)
    (omega (arith, ints, n)) (omega (arith, ints, h)) in
    let e : (pos k *ℤ a -ℤ pos 256 *ℤ b) *ℤ pos m -ℤ (pos m *ℤ a -ℤ pos 256 *ℤ b) *ℤ pos k
    ≡ (pos 256 *ℤ b) *ℤ (pos k -ℤ pos m) =
    by_ring (sub (mul (sub (mul (var 1) (var 2)) (mul (num 256) (var 3))) (var 0)) (mul (sub (mul (var 0) (var 2)) (mul (num 256) (var 3))) (var 1)))
    (mul (mul (num 256) (var 3)) (sub (var 1) (var 0))) (pos m ∷ pos k ∷ a ∷ b ∷ []) refl in
    less _ _ _ d e
  where
    less : (x y d : ℤ) → pos 0 ≤ℤ d → y -ℤ x ≡ d → x ≤ℤ y
    less x y d h e = omega (arith, ints, h, e)

-- squares of numbers from 0 on
pub squares : (x y : ℤ) → pos 0 ≤ℤ x → x ≤ℤ y → (x *ℤ x) ≤ℤ (y *ℤ y)
squares (pos x) (pos y) h k = let l : x ≤ y = omega (arith, ints, k) in omega (arith, ints, mul-le-mul l l)
squares (negsuc x) y h k = absurd (omega (arith, ints, h))
squares (pos x) (negsuc y) h k = absurd (omega (arith, ints, k))

-- from e * m^2 * s at most v^2 * u to e * k^2 * s at most w^2 * u, where v * k is at most w * m
by_ratio : (e s v w u : ℤ) (m k : ℕ) → 1 ≤ m → pos 0 ≤ℤ v → pos 0 ≤ℤ u → (v *ℤ pos k) ≤ℤ (w *ℤ pos m)
    → ((e *ℤ pos (m * m)) *ℤ s) ≤ℤ ((v *ℤ v) *ℤ u) → ((e *ℤ pos (k * k)) *ℤ s) ≤ℤ ((w *ℤ w) *ℤ u)
by_ratio e s v w u m k h n o r i =
    let sq : ((v *ℤ pos k) *ℤ (v *ℤ pos k)) ≤ℤ ((w *ℤ pos m) *ℤ (w *ℤ pos m)) =
    squares (v *ℤ pos k) (w *ℤ pos m) (times_nonneg v (pos k) n (omega (arith, ints))) r in
    let one : pos 0 ≤ℤ ((((w *ℤ pos m) *ℤ (w *ℤ pos m)) -ℤ ((v *ℤ pos k) *ℤ (v *ℤ pos k))) *ℤ u) =
    times_nonneg _ u (gap _ _ sq) o in
    let two : pos 0 ≤ℤ ((pos k *ℤ pos k) *ℤ (((v *ℤ v) *ℤ u) -ℤ ((e *ℤ (pos m *ℤ pos m)) *ℤ s))) =
    times_nonneg (pos k *ℤ pos k) _ (omega (arith, ints)) (gap _ _ i) in
    let same : ((((w *ℤ pos m) *ℤ (w *ℤ pos m)) -ℤ ((v *ℤ pos k) *ℤ (v *ℤ pos k))) *ℤ u)
    +ℤ ((pos k *ℤ pos k) *ℤ (((v *ℤ v) *ℤ u) -ℤ ((e *ℤ (pos m *ℤ pos m)) *ℤ s)))
    ≡ (pos m *ℤ pos m) *ℤ (((w *ℤ w) *ℤ u) -ℤ ((e *ℤ (pos k *ℤ pos k)) *ℤ s)) =
    by_ring
    (add (mul (sub (mul (mul (var 3) (var 5)) (mul (var 3) (var 5))) (mul (mul (var 2) (var 6)) (mul (var 2) (var 6)))) (var 4))
    (mul (mul (var 6) (var 6)) (sub (mul (mul (var 2) (var 2)) (var 4)) (mul (mul (var 0) (mul (var 5) (var 5))) (var 1)))))
    (mul (mul (var 5) (var 5)) (sub (mul (mul (var 3) (var 3)) (var 4)) (mul (mul (var 0) (mul (var 6) (var 6))) (var 1))))
    (e ∷ s ∷ v ∷ w ∷ u ∷ pos m ∷ pos k ∷ []) refl in
    let last : pos 0 ≤ℤ ((pos m *ℤ pos m) *ℤ (((w *ℤ w) *ℤ u) -ℤ ((e *ℤ (pos k *ℤ pos k)) *ℤ s))) = sums _ _ _ one two same in
    let some : pos 0 <ℤ (pos m *ℤ pos m) = times_pos (pos m) (pos m) (omega (arith, ints, h)) (omega (arith, ints, h)) in
    back _ _ (factor_nonneg (pos m *ℤ pos m) _ some last)
  where
    gap : (x y : ℤ) → x ≤ℤ y → pos 0 ≤ℤ (y -ℤ x)
    gap x y h = omega (arith, ints, h)

    back : (x y : ℤ) → pos 0 ≤ℤ (y -ℤ x) → x ≤ℤ y
    back x y h = omega (arith, ints, h)

    sums : (x y z : ℤ) → pos 0 ≤ℤ x → pos 0 ≤ℤ y → x +ℤ y ≡ z → pos 0 ≤ℤ z
    sums x y z h k e = omega (arith, ints, h, k, e)

pub rises : (c p : Vector) (m k : ℕ) → 1 ≤ m → m ≤ k → Hides m c p → Hides k c p
rises c p m k h l i = record {
  corner = i.corner;
  centre = i.centre;
  above = reaches m k (dot c p) (length_squared p) h l (length_nonneg p) i.above;
  beyond = by_ratio (int_max (length_squared p -ℤ pos (2 ^ 36)) (pos 0)) (length_squared (cross c p)) (reach m c p) (reach k c p)
      (pos (2 ^ 36)) m k h i.above (omega (arith, ints)) (in_ratio m k (dot c p) (length_squared p) l (length_nonneg p)) i.beyond;
}

pub rises_test : (c p : Vector) (m k : ℕ) → 1 ≤ m → m ≤ k → hides_of c p m ≡ true → hides_of c p k ≡ true
rises_test c p m k h l e = hides_back c p k (rises c p m k h l (hides_is c p m e))

-- ---- sizes
needed_most : (e m x : ℕ) → e ≤ 2 ^ 29 → m ≤ 4096 → x ≤ 2 ^ 73 → (e * (m * m)) * x ≤ 2 ^ 126
needed_most e m x h k l =
    let square : m * m ≤ 2 ^ 24 = omega (arith, mul-le-mul k k) in
    let left : e * (m * m) ≤ 2 ^ 53 = omega (arith, mul-le-mul h square) in
    omega (arith, mul-le-mul left l)

pub needed_fits : (e m x : ℕ) → e ≤ 2 ^ 29 → m ≤ 4096 → x ≤ 2 ^ 73 → Fits w128 ((e * (m * m)) * x)
needed_fits e m x h k l = omega (arith, needed_most e m x h k l)

pub needed_few : (e m x : ℕ) → e ≤ 2 ^ 29 → m ≤ 4096 → x ≤ 2 ^ 73 → Fits w128 ((e * (m * m)) * x + 68719476735)
needed_few e m x h k l = omega (arith, needed_most e m x h k l)

pub product_few : (a b : ℤ) → unsigned_abs a ≤ 2 ^ 21 → unsigned_abs b ≤ 2 ^ 21 → unsigned_abs (a *ℤ b) ≤ 2 ^ 42
product_few a b h k = omega (arith, size_product a b (2 ^ 21) (2 ^ 21) h k)

pub multiple_few : (m : ℕ) (a : ℤ) → m ≤ 4096 → unsigned_abs a ≤ 2 ^ 37 → unsigned_abs (pos m *ℤ a) ≤ 2 ^ 49
multiple_few m a h k = omega (arith, size_product (pos m) a 4096 (2 ^ 37) h k)

pub over_few : (m : ℕ) (a b : ℤ) → m ≤ 4096 → unsigned_abs a ≤ 2 ^ 37 → unsigned_abs b ≤ 2 ^ 37
    → unsigned_abs (pos m *ℤ a -ℤ pos 256 *ℤ b) ≤ 2 ^ 50
over_few m a b h k l = by (pos m *ℤ a) (multiple_few m a h k)
  where
    by : (x : ℤ) → unsigned_abs x ≤ 2 ^ 49 → unsigned_abs (x -ℤ pos 256 *ℤ b) ≤ 2 ^ 50
    by x h = omega (arith, ints, h, l)

-- ---- tests in the code
pub is_less : (a b : ℤ) → lt_z a b ≡ true → a <ℤ b
is_less a b h = grind (arith, ints, h)

pub is_not_less : (a b : ℤ) → lt_z a b ≡ false → b ≤ℤ a
is_not_less a b h = grind (arith, ints, h)
