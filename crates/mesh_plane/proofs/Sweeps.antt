-- Sweeps: triangles between two parallel lines, from segment to segment.
use Rattle.std.proofs.Common.{◌≡◌, refl, ap, arith, sym, ◌∙◌, List, [], ◌∷◌, ◌++◌, inl, inr}
use Rattle.std.specs.Prelude.{ℤ, pos, ◌+ℤ◌, ◌-ℤ◌, ◌*ℤ◌, ◌≤ℤ◌, ◌<ℤ◌}
use Rattle.std.proofs.lemmas.Int.{ints}
use Rattle.polynomial.proofs.Expressions.{var, num, sub, mul}
use Rattle.polynomial.proofs.NormalForm.{by_ring}
use Rattle.polynomial.proofs.Signs.{times_nonneg, times_pos, factor_nonneg, factor_pos, weaken, by_le_z}
use Rattle.mesh_plane.specs.Plane.{Point}
use Rattle.mesh_plane.specs.Triangles.{Triple, Step, Outer, Inner, outer_end, inner_end}
use Rattle.mesh_plane.proofs.Turns.{turn, turned_back, turned_on, three_sides}
use Rattle.mesh_plane.proofs.Tilings.{area, Within, Inside, Tiling, tiling_append, tiling_same, tiling_one}

-- from a to b along a line from which h grows to the left
pub record Goes (h : Point → ℤ) (a b : Point) : Type 0 where
  pub w : ℤ
  pub far : pos 0 <ℤ w
  pub turns : (p : Point) → turn a b p ≡ w *ℤ h p

-- from 0 to m, and between two segments: x is how far inside of the outer line the point lies, `first` and `last` are
-- the turns about the segments
pub record Between (x m first last : ℤ) : Type 0 where
  pub above : pos 0 ≤ℤ x
  pub below : x ≤ℤ m
  pub right : first ≤ℤ pos 0
  pub left : pos 0 ≤ℤ last

pub record StrictlyBetween (x m first last : ℤ) : Type 0 where
  pub above : pos 0 <ℤ x
  pub below : x <ℤ m
  pub right : first <ℤ pos 0
  pub left : pos 0 <ℤ last

-- ---- one step, in numbers: d and e are the turns of the segments before and after it
pub difference : (w m k : ℤ) → w *ℤ (m -ℤ k) ≡ w *ℤ m -ℤ w *ℤ k
difference w m k =
    by_ring (mul (var 0) (sub (var 1) (var 2))) (sub (mul (var 0) (var 1)) (mul (var 0) (var 2)))
    (w ∷ m ∷ k ∷ []) refl

step_in : (d e w k m : ℤ) → pos 0 <ℤ w → (w *ℤ k +ℤ e) -ℤ d ≡ w *ℤ m → pos 0 ≤ℤ (w *ℤ k) → pos 0 ≤ℤ e
    → d ≤ℤ pos 0
    → (pos 0 ≤ℤ k) × (k ≤ℤ m)
step_in d e w k m far eq h i j =
    let a : pos 0 ≤ℤ (m -ℤ k) = factor_nonneg w (m -ℤ k) far (omega (arith, ints, difference w m k)) in
    (factor_nonneg w k far h, omega (arith, ints))

step_inside : (d e w k m : ℤ) → pos 0 <ℤ w → (w *ℤ k +ℤ e) -ℤ d ≡ w *ℤ m → pos 0 <ℤ (w *ℤ k) → pos 0 <ℤ e
    → d <ℤ pos 0
    → (pos 0 <ℤ k) × (k <ℤ m)
step_inside d e w k m far eq h i j =
    let a : pos 0 <ℤ (m -ℤ k) = factor_pos w (m -ℤ k) far (omega (arith, ints, difference w m k)) in
    (factor_pos w k far h, omega (arith, ints))

step_grows : (d e w k m : ℤ) → pos 0 <ℤ w → (w *ℤ k +ℤ e) -ℤ d ≡ w *ℤ m → k ≤ℤ m → d ≤ℤ e
step_grows d e w k m far eq h =
    let a : pos 0 ≤ℤ (w *ℤ (m -ℤ k)) = times_nonneg w (m -ℤ k) (weaken far) (omega (arith, ints)) in
    omega (arith, ints, difference w m k)

pub outer_sum : (h : Point → ℤ) (m : ℤ) (o n x : Point) (g : Goes h o x) → h n ≡ m
    → (p : Point) → (g.w *ℤ h p +ℤ turn x n p) -ℤ turn o n p ≡ g.w *ℤ m
outer_sum h m o n x g hn p =
    let a : turn o x n ≡ g.w *ℤ m = g.turns n ∙ ap (λ z. g.w *ℤ z) hn in
    omega (arith, ints, a, g.turns p, three_sides o x n p, turned_back o n p)

inner_area : (h : Point → ℤ) (m : ℤ) (o n x : Point) (g : Goes (λ p. m -ℤ h p) x n) → h o ≡ pos 0
    → turn o x n ≡ g.w *ℤ m
inner_area h m o n x g ho =
    sym (turned_on o x n) ∙ g.turns o ∙ ap (λ z. g.w *ℤ (m -ℤ z)) ho
    ∙ by_ring (mul (var 0) (sub (var 1) (num 0))) (mul (var 0) (var 1)) (g.w ∷ m ∷ []) refl

pub inner_sum : (h : Point → ℤ) (m : ℤ) (o n x : Point) (g : Goes (λ p. m -ℤ h p) x n) → h o ≡ pos 0
    → (p : Point) → (g.w *ℤ (m -ℤ h p) +ℤ turn o x p) -ℤ turn o n p ≡ g.w *ℤ m
inner_sum h m o n x g ho p =
    omega (arith, ints, inner_area h m o n x g ho, g.turns p, three_sides o x n p, turned_back o n p)

module _ {A : Type 0} (at : A → Point) where
  -- the triangles from the segment that joins o on the outer line to n on the inner one
  abbrev pub sweep : A → A → List (Step A) → List (Triple A)
  sweep o n [] = []
  sweep o n (Outer x ∷ steps) = record { a = o; b = x; c = n } ∷ sweep x n steps
  sweep o n (Inner x ∷ steps) = record { a = o; b = x; c = n } ∷ sweep o x steps

  -- h is 0 on the outer line and m on the inner one
  abbrev pub Moves : (Point → ℤ) → ℤ → A → A → List (Step A) → Type 0
  Moves h m o n [] = Unit {0}
  Moves h m o n (Outer x ∷ steps) = Goes h (at o) (at x) × (h (at x) ≡ pos 0) × Moves h m x n steps
  Moves h m o n (Inner x ∷ steps) = Goes (λ p. m -ℤ h p) (at x) (at n) × (h (at x) ≡ m) × Moves h m o x steps

  -- what lies between two segments
  abbrev pub Band : (Point → ℤ) → ℤ → A → A → A → A → Point → Type 0
  Band h m o n o' n' p = Between (h p) m (turn (at o) (at n) p) (turn (at o') (at n') p)

  abbrev pub OpenBand : (Point → ℤ) → ℤ → A → A → A → A → Point → Type 0
  OpenBand h m o n o' n' p = StrictlyBetween (h p) m (turn (at o) (at n) p) (turn (at o') (at n') p)

  -- one step, of which the third side lies on a line: k is how far inside of that line a point lies, and `after` the turn
  -- about the next segment
  step_tiles : (k after : Point → ℤ) (m w : ℤ) (o n x : A) → pos 0 <ℤ w → pos 0 <ℤ m
      → let t : Triple A = record { a = o; b = x; c = n } in
      area at t ≡ w *ℤ m → ((p : Point) → (w *ℤ k p +ℤ after p) -ℤ turn (at o) (at n) p ≡ w *ℤ m)
      → ((p : Point) → Within at t p → (pos 0 ≤ℤ (w *ℤ k p)) × (pos 0 ≤ℤ after p))
      → ((p : Point) → pos 0 ≤ℤ (w *ℤ k p) → pos 0 ≤ℤ after p → pos 0 ≤ℤ turn (at n) (at o) p → Within at t p)
      → ((p : Point) → Inside at t p → (pos 0 <ℤ (w *ℤ k p)) × (pos 0 <ℤ after p))
      → Tiling at (λ p. Between (k p) m (turn (at o) (at n) p) (after p))
      (λ p. StrictlyBetween (k p) m (turn (at o) (at n) p) (after p)) (t ∷ [])
  step_tiles k after m w o n x far hm size sum held holds inside =
      tiling_one at (λ p. Between (k p) m (turn (at o) (at n) p) (after p))
      (λ p. StrictlyBetween (k p) m (turn (at o) (at n) p) (after p)) (record { a = o; b = x; c = n })
      (omega (arith, ints, size, times_pos w m far hm))
      (λ p i.
      let first : turn (at o) (at n) p ≤ℤ pos 0 = omega (arith, ints, i.ca, turned_back (at o) (at n) p) in
      let j = step_in (turn (at o) (at n) p) (after p) w (k p) m far (sum p) (held p i).0 (held p i).1 first in
      record { above = j.0; below = j.1; right = first; left = (held p i).1 })
      (λ p i. holds p (times_nonneg w (k p) (weaken far) i.above) i.left
      (omega (arith, ints, i.right, turned_back (at o) (at n) p)))
      (λ p i.
      let first : turn (at o) (at n) p <ℤ pos 0 = omega (arith, ints, i.ca, turned_back (at o) (at n) p) in
      let j = step_inside (turn (at o) (at n) p) (after p) w (k p) m far (sum p) (inside p i).0 (inside p i).1 first in
      record { above = j.0; below = j.1; right = first; left = (inside p i).1 })

  outer_one : (h : Point → ℤ) (m : ℤ) (o n x : A) → pos 0 <ℤ m → h (at n) ≡ m → Goes h (at o) (at x)
      → Tiling at (Band h m o n x n) (OpenBand h m o n x n) (record { a = o; b = x; c = n } ∷ [])
  outer_one h m o n x hm hn g =
      step_tiles h (turn (at x) (at n)) m g.w o n x g.far hm (g.turns (at n) ∙ ap (λ z. g.w *ℤ z) hn)
      (outer_sum h m (at o) (at n) (at x) g hn)
      (λ p i. (omega (arith, ints, i.ab, g.turns p), i.bc))
      (λ p a b c. record { ab = omega (arith, ints, a, g.turns p); bc = b; ca = c })
      (λ p i. (omega (arith, ints, i.ab, g.turns p), i.bc))

  inner_one : (h : Point → ℤ) (m : ℤ) (o n x : A) → pos 0 <ℤ m → h (at o) ≡ pos 0
      → Goes (λ p. m -ℤ h p) (at x) (at n)
      → Tiling at (Band h m o n o x) (OpenBand h m o n o x) (record { a = o; b = x; c = n } ∷ [])
  inner_one h m o n x hm ho g =
      tiling_same at (λ p. Between (m -ℤ h p) m (turn (at o) (at n) p) (turn (at o) (at x) p))
      (λ p. StrictlyBetween (m -ℤ h p) m (turn (at o) (at n) p) (turn (at o) (at x) p))
      (Band h m o n o x) (OpenBand h m o n o x) (record { a = o; b = x; c = n } ∷ [])
      (λ p i. omega (arith, ints, i)) (λ p i. omega (arith, ints, i)) (λ p i. omega (arith, ints, i))
      (step_tiles (λ p. m -ℤ h p) (turn (at o) (at x)) m g.w o n x g.far hm (inner_area h m (at o) (at n) (at x) g ho)
      (inner_sum h m (at o) (at n) (at x) g ho)
      (λ p i. (omega (arith, ints, i.bc, g.turns p), i.ab))
      (λ p a b c. record { ab = b; bc = omega (arith, ints, a, g.turns p); ca = c })
      (λ p i. (omega (arith, ints, i.bc, g.turns p), i.ab)))

  -- between the lines, what is left of one segment is left of every later one
  pub grows : (h : Point → ℤ) (m : ℤ) (o n : A) (steps : List (Step A)) → h (at o) ≡ pos 0 → h (at n) ≡ m
      → Moves h m o n steps → (p : Point) → pos 0 ≤ℤ h p → h p ≤ℤ m
      → turn (at o) (at n) p ≤ℤ turn (at (outer_end o steps)) (at (inner_end n steps)) p
  grows h m o n [] ho hn s p a b = omega (arith, ints)
  grows h m o n (Outer x ∷ steps) ho hn s p a b =
      let k : turn (at o) (at n) p ≤ℤ turn (at x) (at n) p =
      step_grows (turn (at o) (at n) p) (turn (at x) (at n) p)
      s.0.w (h p) m s.0.far (outer_sum h m (at o) (at n) (at x) s.0 hn p) b in
      omega (arith, ints, k, grows h m x n steps s.1 hn s.2 p a b)
  grows h m o n (Inner x ∷ steps) ho hn s p a b =
      let k : turn (at o) (at n) p ≤ℤ turn (at o) (at x) p =
      step_grows (turn (at o) (at n) p) (turn (at o) (at x) p)
      s.0.w (m -ℤ h p) m s.0.far (inner_sum h m (at o) (at n) (at x) s.0 ho p) (omega (arith, ints)) in
      omega (arith, ints, k, grows h m o x steps ho s.1 s.2 p a b)

  -- a first piece, up to the segment from a to b, and the rest
  two_pieces : (h : Point → ℤ) (m : ℤ) (o n a b o' n' : A) (ts us : List (Triple A))
      → Tiling at (Band h m o n a b) (OpenBand h m o n a b) ts
      → Tiling at (Band h m a b o' n') (OpenBand h m a b o' n') us
      → ((p : Point) → pos 0 ≤ℤ h p → h p ≤ℤ m → turn (at o) (at n) p ≤ℤ turn (at a) (at b) p)
      → ((p : Point) → pos 0 ≤ℤ h p → h p ≤ℤ m → turn (at a) (at b) p ≤ℤ turn (at o') (at n') p)
      → Tiling at (Band h m o n o' n') (OpenBand h m o n o' n') (ts ++ us)
  two_pieces h m o n a b o' n' ts us i k first second =
      tiling_append at (Band h m o n o' n') (OpenBand h m o n o' n') (Band h m o n a b) (OpenBand h m o n a b)
      (Band h m a b o' n') (OpenBand h m a b o' n') ts us i k
      (λ p r. by_le_z (turn (at a) (at b) p) (pos 0)
      (λ w. inr (record { above = r.above; below = r.below; right = w; left = r.left }))
      (λ w. inl (record { above = r.above; below = r.below; right = r.right; left = w })))
      (λ p r. record {
        above = r.above;
        below = r.below;
        right = r.right;
        left = omega (arith, ints, r.left, second p r.above r.below);
      })
      (λ p r. record {
        above = r.above;
        below = r.below;
        left = r.left;
        right = omega (arith, ints, r.right, first p r.above r.below);
      })
      (λ p r. record {
        above = r.above;
        below = r.below;
        right = r.right;
        left = omega (arith, ints, r.left, second p (weaken r.above) (weaken r.below));
      })
      (λ p r. record {
        above = r.above;
        below = r.below;
        left = r.left;
        right = omega (arith, ints, r.right, first p (weaken r.above) (weaken r.below));
      })
      (λ p r q. omega (arith, ints, r.left, q.right))

  -- a sweep tiles what lies between its first segment and its last
  pub sweep_tiles : (h : Point → ℤ) (m : ℤ) (o n : A) (s : Step A) (steps : List (Step A)) → pos 0 <ℤ m
      → h (at o) ≡ pos 0 → h (at n) ≡ m → Moves h m o n (s ∷ steps)
      → Tiling at (Band h m o n (outer_end o (s ∷ steps)) (inner_end n (s ∷ steps)))
      (OpenBand h m o n (outer_end o (s ∷ steps)) (inner_end n (s ∷ steps))) (sweep o n (s ∷ steps))
  sweep_tiles h m o n (Outer x) [] hm ho hn s = outer_one h m o n x hm hn s.0
  sweep_tiles h m o n (Inner x) [] hm ho hn s = inner_one h m o n x hm ho s.0
  sweep_tiles h m o n (Outer x) (t ∷ steps) hm ho hn s =
      two_pieces h m o n x n (outer_end x (t ∷ steps)) (inner_end n (t ∷ steps))
      (record { a = o; b = x; c = n } ∷ [])
      (sweep x n (t ∷ steps)) (outer_one h m o n x hm hn s.0) (sweep_tiles h m x n t steps hm s.1 hn s.2)
      (grows h m o n (Outer x ∷ []) ho hn (s.0, s.1, tt)) (grows h m x n (t ∷ steps) s.1 hn s.2)
  sweep_tiles h m o n (Inner x) (t ∷ steps) hm ho hn s =
      two_pieces h m o n o x (outer_end o (t ∷ steps)) (inner_end x (t ∷ steps))
      (record { a = o; b = x; c = n } ∷ [])
      (sweep o x (t ∷ steps)) (inner_one h m o n x hm ho s.0) (sweep_tiles h m o x t steps hm ho s.1 s.2)
      (grows h m o n (Inner x ∷ []) ho hn (s.0, s.1, tt)) (grows h m o x (t ∷ steps) ho s.1 s.2)
