-- One test for several corners.
use Rattle.std.proofs.Common.{◌≡◌, ℕ, ◌+◌, ◌-◌, ◌*◌, ◌^◌, ◌<◌, ◌≤◌, ◌∙◌, arith, true, refl, sym, subst, take_all, List, [], ◌∷◌, length, All}
use Rattle.std.proofs.lemmas.Int.{ints, clamps}
use Rattle.std.proofs.lemmas.List.Elements.{All-nil, All-more, All-weaker, All-head, All-tail}
use lib.ListN.{get_or, take}
use Rattle.std.specs.Prelude.{ℤ, pos, negsuc, ◌+ℤ◌, ◌-ℤ◌, ◌*ℤ◌, ◌≤ℤ◌, nat_le, unsigned_abs}
use Rattle.std.specs.Int.{int_max, int_min}
use Rattle.std.specs.List.{list_all}
use Rattle.std.proofs.lemmas.Bool.{and_from}
use Rattle.common_laws.proofs.Orders.{at_most_from_test}
use Rattle.polynomial.proofs.Expressions.{var, num, add, sub, mul}
use Rattle.polynomial.proofs.NormalForm.{by_ring}
use Rattle.polynomial.proofs.Signs.{times_nonneg}
use Rattle.bound_spheres.specs.declared.scaled.Vector.{Vector}
use Rattle.bound_spheres.specs.Horizon.{Bounds, Hides, hides_of, cross, dot, length_squared, reach}
use Rattle.bound_spheres.proofs.Horizons.{hides_back, lagrange, length_nonneg, max_nonneg, nat_test, squares}
use Rattle.bound_spheres.proofs.Farthest.{square_is}

-- the test of a corner of which only the square of its length and its product with the centre are known
pub record HidesBy (m : ℕ) (c : Vector) (square product : ℤ) : Type 0 where
  pub corner : square ≤ℤ pos (2 ^ 36 + 2 ^ 29)
  pub centre : length_squared c ≤ℤ pos (2 ^ 36 + 2 ^ 29)
  pub along : pos 0 ≤ℤ product
  pub above : pos 0 ≤ℤ (pos m *ℤ product -ℤ pos 256 *ℤ square)
  pub beyond : ((int_max (square -ℤ pos (2 ^ 36)) (pos 0) *ℤ pos (m * m))
      *ℤ ((square *ℤ length_squared c) -ℤ (product *ℤ product)))
      ≤ℤ (((pos m *ℤ product -ℤ pos 256 *ℤ square) *ℤ (pos m *ℤ product -ℤ pos 256 *ℤ square)) *ℤ pos (2 ^ 36))

gap : (a b : ℤ) → a ≤ℤ b → pos 0 ≤ℤ (b -ℤ a)
gap a b h = omega (arith, ints, h)

from_gap : (a b d : ℤ) → pos 0 ≤ℤ d → d ≡ b -ℤ a → a ≤ℤ b
from_gap a b d h e = omega (arith, ints, h, e)

-- a product grows with both factors
grows : (a b c d : ℤ) → pos 0 ≤ℤ a → a ≤ℤ c → pos 0 ≤ℤ d → b ≤ℤ d → (a *ℤ b) ≤ℤ (c *ℤ d)
grows a b c d h k l n =
    let left : pos 0 ≤ℤ (a *ℤ (d -ℤ b)) = times_nonneg a (d -ℤ b) h (gap b d n) in
    let right : pos 0 ≤ℤ ((c -ℤ a) *ℤ d) = times_nonneg (c -ℤ a) d (gap a c k) l in
    from_gap (a *ℤ b) (c *ℤ d) ((a *ℤ (d -ℤ b)) +ℤ ((c -ℤ a) *ℤ d)) (omega (arith, ints, left, right))
    (by_ring (add (mul (var 0) (sub (var 3) (var 1))) (mul (sub (var 2) (var 0)) (var 3)))
    (sub (mul (var 2) (var 3)) (mul (var 0) (var 1))) (a ∷ b ∷ c ∷ d ∷ []) refl)

reach_more : (m : ℕ) (product square more less : ℤ) → product ≤ℤ more → less ≤ℤ square
    → (pos m *ℤ product -ℤ pos 256 *ℤ square) ≤ℤ (pos m *ℤ more -ℤ pos 256 *ℤ less)
reach_more m product square more less h k =
    let rise : pos 0 ≤ℤ (pos m *ℤ (more -ℤ product)) =
    times_nonneg (pos m) (more -ℤ product) (omega (arith, ints)) (gap product more h) in
    let fall : pos 0 ≤ℤ (pos 256 *ℤ (square -ℤ less)) = omega (arith, ints, k) in
    from_gap (pos m *ℤ product -ℤ pos 256 *ℤ square) (pos m *ℤ more -ℤ pos 256 *ℤ less)
    ((pos m *ℤ (more -ℤ product)) +ℤ (pos 256 *ℤ (square -ℤ less))) (omega (arith, ints, rise, fall))
    (by_ring (add (mul (var 0) (sub (var 2) (var 1))) (mul (num 256) (sub (var 3) (var 4))))
    (sub (sub (mul (var 0) (var 2)) (mul (num 256) (var 4))) (sub (mul (var 0) (var 1)) (mul (num 256) (var 3))))
    (pos m ∷ product ∷ more ∷ square ∷ less ∷ []) refl)

excess_more : (a b : ℤ) → a ≤ℤ b → int_max (a -ℤ pos (2 ^ 36)) (pos 0) ≤ℤ int_max (b -ℤ pos (2 ^ 36)) (pos 0)
excess_more a b h = omega (arith, ints, clamps, h)

through : (a b c : ℤ) → a ≤ℤ b → b ≤ℤ c → a ≤ℤ c
through a b c h k = omega (arith, ints, h, k)

less_left : (a b c d : ℤ) → a ≤ℤ c → d ≤ℤ b → (a -ℤ b) ≤ℤ (c -ℤ d)
less_left a b c d h k = omega (arith, ints, h, k)

-- what hides a corner of these bounds hides each corner within them
pub one_hidden : (m : ℕ) (c p : Vector) (square product : ℤ) → HidesBy m c square product → length_squared p ≤ℤ square
    → product ≤ℤ dot c p → Hides m c p
one_hidden m c p square product h shorter farther =
    let over : (pos m *ℤ product -ℤ pos 256 *ℤ square) ≤ℤ reach m c p =
    reach_more m product square (dot c p) (length_squared p) farther shorter in
    let left : (length_squared p *ℤ length_squared c) ≤ℤ (square *ℤ length_squared c) =
    grows (length_squared p) (length_squared c) square (length_squared c) (length_nonneg p) shorter (length_nonneg c)
    (omega (arith, ints)) in
    let right : (product *ℤ product) ≤ℤ (dot c p *ℤ dot c p) = squares product (dot c p) h.along farther in
    let narrow : length_squared (cross c p) ≤ℤ ((square *ℤ length_squared c) -ℤ (product *ℤ product)) =
    rw (lagrange c p) (less_left _ _ _ _ left right) in
    let outer : (int_max (length_squared p -ℤ pos (2 ^ 36)) (pos 0) *ℤ pos (m * m))
    ≤ℤ (int_max (square -ℤ pos (2 ^ 36)) (pos 0) *ℤ pos (m * m)) =
    grows _ (pos (m * m)) _ (pos (m * m)) (max_nonneg (length_squared p -ℤ pos (2 ^ 36))) (excess_more _ _ shorter)
    (omega (arith, ints)) (omega (arith, ints)) in
    record {
      corner = through _ _ _ shorter h.corner;
      centre = h.centre;
      above = through _ _ _ h.above over;
      beyond = through _ _ _
          (grows _ (length_squared (cross c p)) _ ((square *ℤ length_squared c) -ℤ (product *ℤ product))
          (times_nonneg _ (pos (m * m)) (max_nonneg (length_squared p -ℤ pos (2 ^ 36))) (omega (arith, ints))) outer
          (through _ _ _ (length_nonneg (cross c p)) narrow) narrow)
          (through _ _ _ h.beyond
          (grows _ (pos (2 ^ 36)) _ (pos (2 ^ 36)) (times_nonneg _ _ h.above h.above) (squares _ _ h.above over)
          (omega (arith, ints)) (omega (arith, ints))));
    }

pub all_hidden_by : (m : ℕ) (c : Vector) (ps : List Vector) (square product : ℤ) → HidesBy m c square product
    → All (λ p. length_squared p ≤ℤ square) ps → All (λ p. product ≤ℤ dot c p) ps
    → list_all (λ p. hides_of c p m) ps ≡ true
all_hidden_by m c [] square product h shorter farther = refl
all_hidden_by m c (p ∷ ps) square product h shorter farther =
    and_from (hides_of c p m) (list_all (λ q. hides_of c q m) ps)
    (hides_back c p m (one_hidden m c p square product h (All-head (λ q. length_squared q ≤ℤ square) p ps shorter)
    (All-head (λ q. product ≤ℤ dot c q) p ps farther)))
    (all_hidden_by m c ps square product h (All-tail (λ q. length_squared q ≤ℤ square) p ps shorter)
    (All-tail (λ q. product ≤ℤ dot c q) p ps farther))

-- ---- the same by natural numbers, as the code has it
difference_is : (a b n : ℤ) → pos 0 ≤ℤ a → pos 0 ≤ℤ b → unsigned_abs n * unsigned_abs n ≤ unsigned_abs a * unsigned_abs b
    → (a *ℤ b) -ℤ (n *ℤ n) ≡ pos (unsigned_abs a * unsigned_abs b - unsigned_abs n * unsigned_abs n)
difference_is (pos a) (pos b) n h k l = rw (square_is n) (by (a * b) (unsigned_abs n * unsigned_abs n) l)
  where
    by : (u v : ℕ) → v ≤ u → pos u -ℤ pos v ≡ pos (u - v)
    by u v h = omega (arith, ints, h)
difference_is (negsuc a) b n h k l = absurd (omega (arith, ints, h))
difference_is (pos a) (negsuc b) n h k l = absurd (omega (arith, ints, k))

pub by_naturals : (m : ℕ) (c : Vector) (square product : ℤ) → pos 0 ≤ℤ square → square ≤ℤ pos (2 ^ 36 + 2 ^ 29)
    → length_squared c ≤ℤ pos (2 ^ 36 + 2 ^ 29) → pos 0 ≤ℤ product
    → pos 0 ≤ℤ (pos m *ℤ product -ℤ pos 256 *ℤ square)
    → unsigned_abs product * unsigned_abs product ≤ unsigned_abs square * unsigned_abs (length_squared c)
    → nat_le ((unsigned_abs (int_max (square -ℤ pos (2 ^ 36)) (pos 0)) * (m * m))
    * (unsigned_abs square * unsigned_abs (length_squared c) - unsigned_abs product * unsigned_abs product))
    ((unsigned_abs (pos m *ℤ product -ℤ pos 256 *ℤ square) * unsigned_abs (pos m *ℤ product -ℤ pos 256 *ℤ square)) * 2 ^ 36) ≡ true
    → HidesBy m c square product
by_naturals m c square product low near close along above narrow test =
    let over = pos m *ℤ product -ℤ pos 256 *ℤ square in
    record {
      corner = near;
      centre = close;
      along = along;
      above = above;
      beyond = at_most_from_test _ _ (sym (nat_test (int_max (square -ℤ pos (2 ^ 36)) (pos 0))
          ((square *ℤ length_squared c) -ℤ (product *ℤ product)) over (m * m) _ (max_nonneg (square -ℤ pos (2 ^ 36))) above
          (difference_is square (length_squared c) product low (length_nonneg c) narrow)) ∙ test);
    }

-- ---- for the code's loop
pub bounds_first : (c : Vector) (square product : ℤ) → Bounds c [] square product
bounds_first c square product = record { squares = All-nil _; products = All-nil _ }

pub bounds_next : (c : Vector) (ps : List Vector) (i : ℕ) (d : Vector) (square product here along : ℤ) → i < length ps
    → here ≡ length_squared (get_or ps i d) → along ≡ dot c (get_or ps i d) → Bounds c (take i ps) square product
    → Bounds c (take (i + 1) ps) (int_max square here) (int_min product along)
bounds_next c ps i d square product here along h here_is along_is b = record {
  squares = All-more (λ p. length_squared p ≤ℤ int_max square here) ps i d h
      (All-weaker (λ p. length_squared p ≤ℤ square) (λ p. length_squared p ≤ℤ int_max square here)
      (λ p less. omega (arith, ints, clamps, less)) (take i ps) b.squares)
      (rw (sym here_is) (omega (arith, ints, clamps)));
  products = All-more (λ p. int_min product along ≤ℤ dot c p) ps i d h
      (All-weaker (λ p. product ≤ℤ dot c p) (λ p. int_min product along ≤ℤ dot c p)
      (λ p more. omega (arith, ints, clamps, more)) (take i ps) b.products)
      (rw (sym along_is) (omega (arith, ints, clamps)));
}

pub bounds_end : (c : Vector) (ps : List Vector) (i : ℕ) (square product : ℤ) → length ps ≤ i
    → Bounds c (take i ps) square product → Bounds c ps square product
bounds_end c ps i square product h b = subst (λ qs. Bounds c qs square product) (take_all i ps h) b
