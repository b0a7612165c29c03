-- Which nodes of half the side lie in a node or beside it.
use Rattle.std.proofs.Common.{◌≡◌, ◌∙◌, ℕ, zero, suc, ◌+◌, ◌-◌, ◌*◌, ◌≤◌, refl, sym, ap, arith, Bool, true, false, not, ◌&&◌, ◌||◌, List, inl, inr}
use Rattle.std.specs.Prelude.{ℤ, ◌⊎◌, ◌↔◌, IsTrue}
use Rattle.std.proofs.lemmas.Bool.{or_left, or_right}
use Rattle.mesh_plane.specs.Quadtree.{line_of}
use Rattle.mesh_plane.proofs.Quads.{line_left, line_right}
use Rattle.quad_split.specs.Node.{is_node}
use Rattle.quad_split.specs.Fits.{Fits, fits_at}
use Rattle.quad_split.specs.Split.{touching, is_split}
use Rattle.quad_split.specs.Laws.{lines_of, LiesIn, LiesBeside, Overlap, SplitNear}
use Rattle.quad_split.proofs.NodeLines.{line_le, line_lt, number_le, number_lt}
use Rattle.quad_split.proofs.Meanings.{fit_test}

next_is : (k x : ℕ) → line_of k (2 * x + 2) ≡ line_of (suc k) (x + 1)
next_is k x = ap (line_of k) (two x) ∙ line_right k x
  where
    two : (x : ℕ) → 2 * x + 2 ≡ 2 * x + 1 + 1
    two x = omega arith

-- ---- from numbers to lines
module _ (k x u : ℕ) where
  half_low : 2 * x ≤ u → line_of (suc k) x ≤ line_of k u
  half_low h = omega (arith, line_left k x, line_le k (2 * x) u h)

  half_high : u ≤ 2 * x + 1 → line_of k (u + 1) ≤ line_of (suc k) (x + 1)
  half_high h = omega (arith, next_is k x, line_le k (u + 1) (2 * x + 2) (omega arith))

  half_overlap : 2 * x ≤ u → u ≤ 2 * x + 1
      → Overlap (line_of k u) (line_of k (u + 1)) (line_of (suc k) x) (line_of (suc k) (x + 1))
  half_overlap h l = (
    omega (arith, next_is k x, line_lt k u (2 * x + 2) (omega arith)),
    omega
        (arith, line_left k x, line_lt k (2 * x) (u + 1) (omega arith)),
  )

  before_is : u + 1 ≡ 2 * x → line_of k (u + 1) ≡ line_of (suc k) x
  before_is e = ap (line_of k) e ∙ line_left k x

  after_is : u ≡ 2 * x + 2 → line_of (suc k) (x + 1) ≡ line_of k u
  after_is e = sym (ap (line_of k) e ∙ next_is k x)

  -- ---- and back
  from_half : line_of (suc k) x ≤ line_of k u → line_of k (u + 1) ≤ line_of (suc k) (x + 1)
      → (2 * x ≤ u) × (u ≤ 2 * x + 1)
  from_half h l =
      let r = number_le k (u + 1) (2 * x + 2) (omega (arith, next_is k x)) in
      (number_le k (2 * x) u (omega (arith, line_left k x)), omega (arith, r))

  from_overlap : Overlap (line_of k u) (line_of k (u + 1)) (line_of (suc k) x) (line_of (suc k) (x + 1))
      → (2 * x ≤ u) × (u ≤ 2 * x + 1)
  from_overlap o =
      let l = number_lt k u (2 * x + 2) (omega (arith, next_is k x, o.0)) in
      let r = number_lt k (2 * x) (u + 1) (omega (arith, line_left k x, o.1)) in
      (omega arith, omega arith)

  from_before : line_of k (u + 1) ≡ line_of (suc k) x → u + 1 ≡ 2 * x
  from_before e =
      let l = number_le k (u + 1) (2 * x) (omega (arith, e, line_left k x)) in
      let r = number_le k (2 * x) (u + 1) (omega (arith, e, line_left k x)) in
      omega arith

  from_after : line_of (suc k) (x + 1) ≡ line_of k u → u ≡ 2 * x + 2
  from_after e =
      let l = number_le k u (2 * x + 2) (omega (arith, e, next_is k x)) in
      let r = number_le k (2 * x + 2) u (omega (arith, e, next_is k x)) in
      omega arith

abbrev pub IsNear : (k x y u v : ℕ) → Type 0
IsNear k x y u v = LiesIn (lines_of k u v) (lines_of (suc k) x y) ⊎ LiesBeside (lines_of k u v) (lines_of
    (suc k) x y)

-- both numbers are halves
near_in : (k x y u v : ℕ) → 2 * x ≤ u → u ≤ 2 * x + 1 → 2 * y ≤ v → v ≤ 2 * y + 1 → IsNear k x y u v
near_in k x y u v a b c d = inl (record {
  west = half_low k x u a;
  south = half_low k y v c;
  east = half_high k x u b;
  north = half_high k y v d;
})

near_west : (k x y u v : ℕ) → u + 1 ≡ 2 * x → 2 * y ≤ v → v ≤ 2 * y + 1 → IsNear k x y u v
near_west k x y u v e c d = inr (inl (inl (before_is k x u e), half_overlap k y v c d))

near_east : (k x y u v : ℕ) → u ≡ 2 * x + 2 → 2 * y ≤ v → v ≤ 2 * y + 1 → IsNear k x y u v
near_east k x y u v e c d = inr (inl (inr (after_is k x u e), half_overlap k y v c d))

near_south : (k x y u v : ℕ) → v + 1 ≡ 2 * y → 2 * x ≤ u → u ≤ 2 * x + 1 → IsNear k x y u v
near_south k x y u v e a b = inr (inr (inl (before_is k y v e), half_overlap k x u a b))

near_north : (k x y u v : ℕ) → v ≡ 2 * y + 2 → 2 * x ≤ u → u ≤ 2 * x + 1 → IsNear k x y u v
near_north k x y u v e a b = inr (inr (inr (after_is k y v e), half_overlap k x u a b))

-- west of column 0 the place is the node's own
west_or_in : (k x y v : ℕ) → 2 * y ≤ v → v ≤ 2 * y + 1 → IsNear k x y (2 * x - 1) v
west_or_in k x y v c d =
    by_zero x (λ h. near_in k x y (2 * x - 1) v (omega arith) (omega arith) c d)
    (λ h. near_west k x y (2 * x - 1) v (omega arith) c d)
  where
    by_zero : {P : Type 0} (n : ℕ) → (n ≡ 0 → P) → (1 ≤ n → P) → P
    by_zero n f g = grind arith

south_or_in : (k x y u : ℕ) → 2 * x ≤ u → u ≤ 2 * x + 1 → IsNear k x y u (2 * y - 1)
south_or_in k x y u a b =
    by_zero y (λ h. near_in k x y u (2 * y - 1) a b (omega arith) (omega arith))
    (λ h. near_south k x y u (2 * y - 1) (omega arith) a b)
  where
    by_zero : {P : Type 0} (n : ℕ) → (n ≡ 0 → P) → (1 ≤ n → P) → P
    by_zero n f g = grind arith

-- ---- the twelve places
or_case : {P : Type 0} (a b : Bool) → (a || b) ≡ true → (a ≡ true → P) → (b ≡ true → P) → P
or_case true b e f g = f refl
or_case false b e f g = g e

-- where the test holds at one of them there is a node near at which it does
pub touched : {P : Type 0} (f : ℕ → ℕ → Bool) (k x y : ℕ) → touching f x y ≡ true
    → ((u v : ℕ) → f u v ≡ true → IsNear k x y u v → P) → P
touched f k x y t go =
    or_case (f (2 * x) (2 * y)) _ t (λ h. go (2 * x) (2 * y) h (near_in k x y (2 * x) (2 * y)
    (omega arith) (omega arith) (omega arith) (omega arith))) (λ t.
    or_case (f (2 * x + 1) (2 * y)) _ t (λ h. go (2 * x + 1) (2 * y) h (near_in k x y (2 * x + 1) (2 * y)
    (omega arith) (omega arith) (omega arith) (omega arith))) (λ t.
    or_case (f (2 * x) (2 * y + 1)) _ t (λ h. go (2 * x) (2 * y + 1) h (near_in k x y (2 * x) (2 * y + 1)
    (omega arith) (omega arith) (omega arith) (omega arith))) (λ t.
    or_case (f (2 * x + 1) (2 * y + 1)) _ t (λ h. go (2 * x + 1) (2 * y + 1) h (near_in k x y (2 * x + 1)
    (2 * y + 1) (omega arith) (omega arith) (omega arith) (omega arith))) (λ t.
    or_case (f (2 * x - 1) (2 * y)) _ t (λ h. go (2 * x - 1) (2 * y) h (west_or_in k x y (2 * y)
    (omega arith) (omega arith))) (λ t.
    or_case (f (2 * x - 1) (2 * y + 1)) _ t (λ h. go (2 * x - 1) (2 * y + 1) h (west_or_in k x y
    (2 * y + 1) (omega arith) (omega arith))) (λ t.
    or_case (f (2 * x + 2) (2 * y)) _ t (λ h. go (2 * x + 2) (2 * y) h (near_east k x y (2 * x + 2)
    (2 * y) refl (omega arith) (omega arith))) (λ t.
    or_case (f (2 * x + 2) (2 * y + 1)) _ t (λ h. go (2 * x + 2) (2 * y + 1) h (near_east k x y
    (2 * x + 2) (2 * y + 1) refl (omega arith) (omega arith))) (λ t.
    or_case (f (2 * x) (2 * y - 1)) _ t (λ h. go (2 * x) (2 * y - 1) h (south_or_in k x y (2 * x)
    (omega arith) (omega arith))) (λ t.
    or_case (f (2 * x + 1) (2 * y - 1)) _ t (λ h. go (2 * x + 1) (2 * y - 1) h (south_or_in k x y
    (2 * x + 1) (omega arith) (omega arith))) (λ t.
    or_case (f (2 * x) (2 * y + 2)) _ t (λ h. go (2 * x) (2 * y + 2) h (near_north k x y (2 * x)
    (2 * y + 2) refl (omega arith) (omega arith))) (λ h.
    go (2 * x + 1) (2 * y + 2) h (near_north k x y (2 * x + 1) (2 * y + 2) refl (omega arith)
    (omega arith)))))))))))))

-- ---- back: where the test holds at a node near it holds at one of the twelve places
module _ (f : ℕ → ℕ → Bool) (x y : ℕ) where
  south_west : f (2 * x) (2 * y) ≡ true → touching f x y ≡ true
  south_west h = or_left (f (2 * x) (2 * y)) _ h

  south_east : f (2 * x + 1) (2 * y) ≡ true → touching f x y ≡ true
  south_east h = or_right (f (2 * x) (2 * y)) _ (or_left (f (2 * x + 1) (2 * y)) _ h)

  north_west : f (2 * x) (2 * y + 1) ≡ true → touching f x y ≡ true
  north_west h = or_right (f (2 * x) (2 * y)) _ (or_right (f (2 * x + 1) (2 * y)) _ (or_left (f (2 * x)
      (2 * y + 1)) _ h))

  north_east : f (2 * x + 1) (2 * y + 1) ≡ true → touching f x y ≡ true
  north_east h = or_right (f (2 * x) (2 * y)) _ (or_right (f (2 * x + 1) (2 * y)) _ (or_right (f (2 * x)
      (2 * y + 1)) _ (or_left (f (2 * x + 1) (2 * y + 1)) _ h)))

  west_low : f (2 * x - 1) (2 * y) ≡ true → touching f x y ≡ true
  west_low h = or_right (f (2 * x) (2 * y)) _ (or_right (f (2 * x + 1) (2 * y)) _ (or_right (f (2 * x)
      (2 * y + 1)) _ (or_right (f (2 * x + 1) (2 * y + 1)) _ (or_left (f (2 * x - 1) (2 * y)) _ h))))

  west_high : f (2 * x - 1) (2 * y + 1) ≡ true → touching f x y ≡ true
  west_high h = or_right (f (2 * x) (2 * y)) _ (or_right (f (2 * x + 1) (2 * y)) _ (or_right (f (2 * x)
      (2 * y + 1)) _ (or_right (f (2 * x + 1) (2 * y + 1)) _ (or_right (f (2 * x - 1) (2 * y)) _ (or_left (f
      (2 * x - 1) (2 * y + 1)) _ h)))))

  east_low : f (2 * x + 2) (2 * y) ≡ true → touching f x y ≡ true
  east_low h = or_right (f (2 * x) (2 * y)) _ (or_right (f (2 * x + 1) (2 * y)) _ (or_right (f (2 * x)
      (2 * y + 1)) _ (or_right (f (2 * x + 1) (2 * y + 1)) _ (or_right (f (2 * x - 1) (2 * y)) _ (or_right (f
      (2 * x - 1) (2 * y + 1)) _ (or_left (f (2 * x + 2) (2 * y)) _ h))))))

  east_high : f (2 * x + 2) (2 * y + 1) ≡ true → touching f x y ≡ true
  east_high h = or_right (f (2 * x) (2 * y)) _ (or_right (f (2 * x + 1) (2 * y)) _ (or_right (f (2 * x)
      (2 * y + 1)) _ (or_right (f (2 * x + 1) (2 * y + 1)) _ (or_right (f (2 * x - 1) (2 * y)) _ (or_right (f
      (2 * x - 1) (2 * y + 1)) _ (or_right (f (2 * x + 2) (2 * y)) _ (or_left (f (2 * x + 2)
      (2 * y + 1)) _ h)))))))

  south_first : f (2 * x) (2 * y - 1) ≡ true → touching f x y ≡ true
  south_first h = or_right (f (2 * x) (2 * y)) _ (or_right (f (2 * x + 1) (2 * y)) _ (or_right (f (2 * x)
      (2 * y + 1)) _ (or_right (f (2 * x + 1) (2 * y + 1)) _ (or_right (f (2 * x - 1) (2 * y)) _ (or_right (f
      (2 * x - 1) (2 * y + 1)) _ (or_right (f (2 * x + 2) (2 * y)) _ (or_right (f (2 * x + 2) (2 * y + 1)) _
      (or_left (f (2 * x) (2 * y - 1)) _ h))))))))

  south_last : f (2 * x + 1) (2 * y - 1) ≡ true → touching f x y ≡ true
  south_last h = or_right (f (2 * x) (2 * y)) _ (or_right (f (2 * x + 1) (2 * y)) _ (or_right (f (2 * x)
      (2 * y + 1)) _ (or_right (f (2 * x + 1) (2 * y + 1)) _ (or_right (f (2 * x - 1) (2 * y)) _ (or_right (f
      (2 * x - 1) (2 * y + 1)) _ (or_right (f (2 * x + 2) (2 * y)) _ (or_right (f (2 * x + 2) (2 * y + 1)) _
      (or_right (f (2 * x) (2 * y - 1)) _ (or_left (f (2 * x + 1) (2 * y - 1)) _ h)))))))))

  north_first : f (2 * x) (2 * y + 2) ≡ true → touching f x y ≡ true
  north_first h = or_right (f (2 * x) (2 * y)) _ (or_right (f (2 * x + 1) (2 * y)) _ (or_right (f (2 * x)
      (2 * y + 1)) _ (or_right (f (2 * x + 1) (2 * y + 1)) _ (or_right (f (2 * x - 1) (2 * y)) _ (or_right (f
      (2 * x - 1) (2 * y + 1)) _ (or_right (f (2 * x + 2) (2 * y)) _ (or_right (f (2 * x + 2) (2 * y + 1)) _
      (or_right (f (2 * x) (2 * y - 1)) _ (or_right (f (2 * x + 1) (2 * y - 1)) _ (or_left (f (2 * x)
      (2 * y + 2)) _ h))))))))))

  north_last : f (2 * x + 1) (2 * y + 2) ≡ true → touching f x y ≡ true
  north_last h = or_right (f (2 * x) (2 * y)) _ (or_right (f (2 * x + 1) (2 * y)) _ (or_right (f (2 * x)
      (2 * y + 1)) _ (or_right (f (2 * x + 1) (2 * y + 1)) _ (or_right (f (2 * x - 1) (2 * y)) _ (or_right (f
      (2 * x - 1) (2 * y + 1)) _ (or_right (f (2 * x + 2) (2 * y)) _ (or_right (f (2 * x + 2) (2 * y + 1)) _
      (or_right (f (2 * x) (2 * y - 1)) _ (or_right (f (2 * x + 1) (2 * y - 1)) _ (or_right (f (2 * x)
      (2 * y + 2)) _ h))))))))))

  by_two : {P : Type 0} (n a : ℕ) → a ≤ n → n ≤ a + 1 → (n ≡ a → P) → (n ≡ a + 1 → P) → P
  by_two n a h l p q = grind arith

  moved : (u v a b : ℕ) → u ≡ a → v ≡ b → f u v ≡ true → f a b ≡ true
  moved u v a b e g h = sym (ap (λ (n : ℕ). f n v) e ∙ ap (f a) g) ∙ h

  hit_in : (u v : ℕ) → 2 * x ≤ u → u ≤ 2 * x + 1 → 2 * y ≤ v → v ≤ 2 * y + 1 → f u v ≡ true
      → touching f x y ≡ true
  hit_in u v a b c d h =
      by_two u (2 * x) a b
      (λ e. by_two v (2 * y) c d (λ g. south_west (moved u v _ _ e g h)) (λ g. north_west
      (moved u v _ _ e g h)))
      (λ e. by_two v (2 * y) c d (λ g. south_east (moved u v _ _ e g h)) (λ g. north_east
      (moved u v _ _ e g h)))

  hit_west : (u v : ℕ) → u + 1 ≡ 2 * x → 2 * y ≤ v → v ≤ 2 * y + 1 → f u v ≡ true → touching f x y ≡ true
  hit_west u v e c d h =
      let i : u ≡ 2 * x - 1 = omega arith in
      by_two v (2 * y) c d (λ g. west_low (moved u v _ _ i g h)) (λ g. west_high (moved u v _ _ i g h))

  hit_east : (u v : ℕ) → u ≡ 2 * x + 2 → 2 * y ≤ v → v ≤ 2 * y + 1 → f u v ≡ true → touching f x y ≡ true
  hit_east u v e c d h =
      by_two v (2 * y) c d (λ g. east_low (moved u v _ _ e g h)) (λ g. east_high (moved u v _ _ e g h))

  hit_south : (u v : ℕ) → v + 1 ≡ 2 * y → 2 * x ≤ u → u ≤ 2 * x + 1 → f u v ≡ true → touching f x y ≡ true
  hit_south u v e a b h =
      let i : v ≡ 2 * y - 1 = omega arith in
      by_two u (2 * x) a b (λ g. south_first (moved u v _ _ g i h)) (λ g. south_last (moved u v _ _ g i h))

  hit_north : (u v : ℕ) → v ≡ 2 * y + 2 → 2 * x ≤ u → u ≤ 2 * x + 1 → f u v ≡ true → touching f x y ≡ true
  hit_north u v e a b h =
      by_two u (2 * x) a b (λ g. north_first (moved u v _ _ g e h)) (λ g. north_last (moved u v _ _ g e h))

  pub hit : (k u v : ℕ) → IsNear k x y u v → f u v ≡ true → touching f x y ≡ true
  hit k u v (inl r) h =
      let a = from_half k x u r.west r.east in let b = from_half k y v r.south r.north in
      hit_in u v a.0 a.1 b.0 b.1 h
  hit k u v (inr (inl (inl e, o))) h =
      let b = from_overlap k y v o in hit_west u v (from_before k x u e) b.0 b.1 h
  hit k u v (inr (inl (inr e, o))) h =
      let b = from_overlap k y v o in hit_east u v (from_after k x u e) b.0 b.1 h
  hit k u v (inr (inr (inl e, o))) h =
      let a = from_overlap k x u o in hit_south u v (from_before k y v e) a.0 a.1 h
  hit k u v (inr (inr (inr e, o))) h =
      let a = from_overlap k x u o in hit_north u v (from_after k y v e) a.0 a.1 h

-- ---- the law
pub outside : (grid : List ℤ) (tol k x y : ℕ) → is_node k x y ≡ false → is_split grid tol k x y ≡ false
outside grid tol zero x y h = refl
outside grid tol (suc k) x y h = rw h

-- what is split is a node
pub split_is_node : (grid : List ℤ) (tol k x y : ℕ) → is_split grid tol k x y ≡ true → is_node k x y ≡ true
split_is_node grid tol k x y h = go (is_node k x y) refl
  where
    go : (b : Bool) → is_node k x y ≡ b → b ≡ true
    go true e = refl
    go false e = absurd (let z = outside grid tol k x y e in cc (z, h))

pub larger : (grid : List ℤ) (tol k x y : ℕ) → is_node (suc k) x y ≡ true
    → IsTrue (is_split grid tol (suc k) x y) ↔ ((¬ Fits grid tol k x y) ⊎ SplitNear grid tol k (lines_of
    (suc k) x y))
larger grid tol k x y n = (λ h. there (is_node (suc k) x y) (fits_at grid tol (suc k) x y) refl h, back)
  where
    there : (a b : Bool) → fits_at grid tol (suc k) x y ≡ b
        → (a && (not b || touching (is_split grid tol k) x y)) ≡ true
        → (¬ Fits grid tol k x y) ⊎ SplitNear grid tol k (lines_of (suc k) x y)
    there false b e h = absurd (let z = h in cc)
    there true false e h = inl (λ f. let z = (fit_test grid tol k x y).1 f in absurd (cc (z, e)))
    there true true e h =
        inr (touched (is_split grid tol k) k x y h
        (λ u v s r. record { x = u; y = v; place = split_is_node grid tol k u v s; split = s; near = r }))

    by : (a b t : Bool) → a ≡ true → (b ≡ false) ⊎ (t ≡ true) → (a && (not b || t)) ≡ true
    by false b t e h = absurd (let z = e in cc)
    by true false t e h = refl
    by true true t e (inl h) = absurd (let z = h in cc)
    by true true t e (inr h) = h

    unfit : (¬ Fits grid tol k x y) → (b : Bool) → fits_at grid tol (suc k) x y ≡ b → b ≡ false
    unfit g true e = absurd (g ((fit_test grid tol k x y).0 e))
    unfit g false e = refl

    back : (¬ Fits grid tol k x y) ⊎ SplitNear grid tol k (lines_of (suc k) x y)
        → IsTrue (is_split grid tol (suc k) x y)
    back (inl g) =
        by (is_node (suc k) x y) (fits_at grid tol (suc k) x y) (touching (is_split grid tol k) x y) n
        (inl (unfit g (fits_at grid tol (suc k) x y) refl))
    back (inr s) =
        by (is_node (suc k) x y) (fits_at grid tol (suc k) x y) (touching (is_split grid tol k) x y) n
        (inr (hit (is_split grid tol k) x y k s.x s.y s.near s.split))
