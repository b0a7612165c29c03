-- The farthest corner of boxes.
use Rattle.std.proofs.Common.{◌≡◌, ℕ, ◌+◌, ◌*◌, ◌<◌, ◌≤◌, ◌^◌, ◌∙◌, ap, refl, sym, arith, inl, inr, List, [], ◌∷◌}
use Rattle.std.proofs.Common.{length, take_all, All}
use Rattle.std.proofs.lemmas.Int.{ints}
use Rattle.std.proofs.lemmas.Bool.{cases_lt}
use Rattle.std.proofs.lemmas.List.Elements.{All-nil, All-cons, All-head, All-tail, All-weaker}
use Rattle.std.proofs.lemmas.List.Sums.{fold_more}
use Rattle.std.proofs.Math.Nat.{mul-le-mul}
use lib.ListN.{get_or, take}
use Rattle.std.specs.Prelude.{◌⊎◌, ℤ, pos, negsuc, ◌-ℤ◌, ◌*ℤ◌, ◌≤ℤ◌, fold, max, unsigned_abs}
use Rattle.ecef_boxes.specs.declared.ecef_box.EcefBox.{EcefBox}
use Rattle.ecef_boxes.specs.Bounds.{IsBoxWithin}
use Rattle.bound_spheres.specs.declared.sphere.Sphere.{Sphere}
use Rattle.bound_spheres.specs.Sphere.{IsReached}
use Rattle.bound_spheres.specs.Reach.{farthest_of, reach_of, span_reach}

-- ---- sizes
pub square_few : (r : ℕ) → r ≤ 2 ^ 34 → r * r ≤ 2 ^ 68
square_few r h = omega (arith, mul-le-mul h h)

pub span_few : (at lo hi : ℤ) → unsigned_abs at ≤ 2 ^ 33 → unsigned_abs lo ≤ 2 ^ 33 → unsigned_abs hi ≤ 2 ^ 33
    → span_reach at lo hi ≤ 2 ^ 34
unfolding span_reach
span_few at lo hi p q r =
    let a : unsigned_abs (lo -ℤ at) ≤ 2 ^ 34 = omega (arith, ints, p, q) in
    let b : unsigned_abs (hi -ℤ at) ≤ 2 ^ 34 = omega (arith, ints, p, r) in
    omega (arith, a, b)

pub reach_few : (x y z : ℤ) (box : EcefBox) → unsigned_abs x ≤ 2 ^ 33 → unsigned_abs y ≤ 2 ^ 33
    → unsigned_abs z ≤ 2 ^ 33 → IsBoxWithin 33 box → reach_of x y z box ≤ 2 ^ 70
unfolding reach_of
reach_few x y z box p q r h = omega (
  arith,
  square_few _ (span_few x box.x_lo box.x_hi p h.x_lo h.x_hi),
  square_few _ (span_few y box.y_lo box.y_hi q h.y_lo h.y_hi),
  square_few _ (span_few z box.z_lo box.z_hi r h.z_lo h.z_hi),
)

-- for the code
pub span_is : (at lo hi : ℤ) (p q r : ℕ) → p ≡ unsigned_abs (lo -ℤ at) → q ≡ unsigned_abs (hi -ℤ at)
    → r ≡ max p q → r ≡ span_reach at lo hi
unfolding span_reach
span_is at lo hi p q r e f g = rw (g, e, f) refl

pub reach_is : (x y z : ℤ) (box : EcefBox) (p q r : ℕ)
    → p ≡ span_reach x box.x_lo box.x_hi * span_reach x box.x_lo box.x_hi
    → q ≡ span_reach y box.y_lo box.y_hi * span_reach y box.y_lo box.y_hi
    → r ≡ span_reach z box.z_lo box.z_hi * span_reach z box.z_lo box.z_hi
    → (p + q) + r ≡ reach_of x y z box
unfolding reach_of
reach_is x y z box p q r e f g = rw (e, f, g) refl

-- ---- the greatest of all
abbrev step : (x y z : ℤ) → ℕ → EcefBox → ℕ
step x y z far box = max far (reach_of x y z box)

fold_first : (x y z : ℤ) (a : ℕ) (xs : List EcefBox) → a ≤ fold (step x y z) a xs
fold_first x y z a [] = omega arith
fold_first x y z a (b ∷ xs) = omega (arith, fold_first x y z (step x y z a b) xs)

fold_each : (x y z : ℤ) (a : ℕ) (xs : List EcefBox) → All (λ b. reach_of x y z b ≤ fold (step x y z) a xs) xs
fold_each x y z a [] = All-nil _
fold_each x y z a (b ∷ xs) = All-cons (λ c. reach_of x y z c ≤ fold (step x y z) (step x y z a b) xs) b xs
    (omega (arith, fold_first x y z (step x y z a b) xs)) (fold_each x y z (step x y z a b) xs)

fold_most : (x y z : ℤ) (m a : ℕ) (xs : List EcefBox) → a ≤ m → All (λ b. reach_of x y z b ≤ m) xs
    → fold (step x y z) a xs ≤ m
fold_most x y z m a [] p h = p
fold_most x y z m a (b ∷ xs) p h = fold_most x y z m (step x y z a b) xs
    (omega (arith, p, All-head (λ c. reach_of x y z c ≤ m) b xs h)) (All-tail (λ c. reach_of x y z c ≤ m) b xs h)

pub farthest_each : (x y z : ℤ) (xs : List EcefBox) → All (λ b. reach_of x y z b ≤ farthest_of x y z xs) xs
unfolding farthest_of
farthest_each x y z xs = fold_each x y z 0 xs

pub farthest_most : (x y z : ℤ) (m : ℕ) (xs : List EcefBox) → All (λ b. reach_of x y z b ≤ m) xs
    → farthest_of x y z xs ≤ m
unfolding farthest_of
farthest_most x y z m xs h = fold_most x y z m 0 xs (omega arith) h

pub farthest_few : (x y z : ℤ) (xs : List EcefBox) → unsigned_abs x ≤ 2 ^ 33 → unsigned_abs y ≤ 2 ^ 33
    → unsigned_abs z ≤ 2 ^ 33 → All (IsBoxWithin 33) xs → farthest_of x y z xs ≤ 2 ^ 70
farthest_few x y z xs p q r h = farthest_most x y z (2 ^ 70) xs
    (All-weaker (IsBoxWithin 33) (λ b. reach_of x y z b ≤ 2 ^ 70) (λ b k. reach_few x y z b p q r k) xs h)

-- for the code's loop
pub farthest_next : (x y z : ℤ) (far q r : ℕ) (xs : List EcefBox) (i : ℕ) (d : EcefBox) → i < length xs
    → far ≡ farthest_of x y z (take i xs) → q ≡ reach_of x y z (get_or xs i d) → r ≡ max far q
    → r ≡ farthest_of x y z (take (i + 1) xs)
unfolding farthest_of
farthest_next x y z far q r xs i d p e f g =
    g ∙ ap (λ n. max n q) e ∙ ap (λ n. max (fold (step x y z) 0 (take i xs)) n) f
    ∙ sym (fold_more (step x y z) 0 xs i d p)

pub farthest_end : (x y z : ℤ) (far : ℕ) (xs : List EcefBox) (i : ℕ) → length xs ≤ i
    → far ≡ farthest_of x y z (take i xs) → far ≡ farthest_of x y z xs
farthest_end x y z far xs i p e = e ∙ ap (λ ys. farthest_of x y z ys) (take_all i xs p)

-- ---- corners
pub square_is : (v : ℤ) → v *ℤ v ≡ pos (unsigned_abs v * unsigned_abs v)
square_is (pos n) = refl
square_is (negsuc n) = refl

-- an end is no farther than the farther one
end_within : (at lo hi v : ℤ) → (v ≡ lo) ⊎ (v ≡ hi)
    → ((v -ℤ at) *ℤ (v -ℤ at)) ≤ℤ pos (span_reach at lo hi * span_reach at lo hi)
unfolding span_reach
end_within at lo hi v h =
    let w : unsigned_abs (v -ℤ at) ≤ max (unsigned_abs (lo -ℤ at)) (unsigned_abs (hi -ℤ at)) =
    elim h [ inl e ↦ rw e (omega arith) | inr e ↦ rw e (omega arith) ] in
    rw (square_is (v -ℤ at)) (omega (arith, ints, mul-le-mul w w))

pub box_reached : (sphere : Sphere) (r : ℕ) (box : EcefBox) → reach_of sphere.x sphere.y sphere.z box ≤ r * r
    → IsReached sphere (pos r) box
unfolding reach_of
box_reached sphere r box h = record {
  corner = λ x y z c. omega (
    arith,
    ints,
    h,
    end_within sphere.x box.x_lo box.x_hi x c.on_x,
    end_within sphere.y box.y_lo box.y_hi y c.on_y,
    end_within sphere.z box.z_lo box.z_hi z c.on_z,
  );
}

-- and the farther one is an end
record IsFarEnd (at lo hi : ℤ) : Type 0 where
  end : ℤ
  one : (end ≡ lo) ⊎ (end ≡ hi)
  reached : (end -ℤ at) *ℤ (end -ℤ at) ≡ pos (span_reach at lo hi * span_reach at lo hi)

far_by : (at v : ℤ) (m : ℕ) → unsigned_abs (v -ℤ at) ≡ m → (v -ℤ at) *ℤ (v -ℤ at) ≡ pos (m * m)
far_by at v m e = square_is (v -ℤ at) ∙ ap (λ n. pos (n * n)) e

far_end : (at lo hi : ℤ) → IsFarEnd at lo hi
unfolding span_reach
far_end at lo hi = elim (cases_lt (unsigned_abs (lo -ℤ at)) (unsigned_abs (hi -ℤ at))) [
  | inl less ↦ record { end = hi; one = inr refl; reached = far_by at hi _ (omega (arith, less)) }
  | inr fine ↦ record { end = lo; one = inl refl; reached = far_by at lo _ (omega (arith, fine)) }
]

pub reached_back : (sphere : Sphere) (r : ℕ) (box : EcefBox) → IsReached sphere (pos r) box
    → reach_of sphere.x sphere.y sphere.z box ≤ r * r
unfolding reach_of
reached_back sphere r box h =
    let x = far_end sphere.x box.x_lo box.x_hi in
    let y = far_end sphere.y box.y_lo box.y_hi in
    let z = far_end sphere.z box.z_lo box.z_hi in
    let corner = h.corner x.end y.end z.end (record { on_x = x.one; on_y = y.one; on_z = z.one }) in
    omega (arith, ints, corner, x.reached, y.reached, z.reached)
