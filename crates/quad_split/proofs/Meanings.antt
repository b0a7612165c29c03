-- The tests of one triangle say what they are meant to.
use Rattle.std.proofs.Common.{◌≡◌, ℕ, zero, suc, ◌+◌, ◌<◌, ◌≤◌, refl, ap, ◌∙◌, arith, Bool, true, false, not, ◌&&◌, ◌||◌, List, get_or}
use Rattle.std.specs.Prelude.{ℤ, pos, ◌*ℤ◌, ◌≤ℤ◌, int_le, ◌↔◌, IsTrue, All}
use Rattle.std.specs.List.{list_all}
use Rattle.std.proofs.lemmas.List.Sums.{AllPass-from_list_all, list_all-from_AllPass}
use Rattle.std.proofs.lemmas.Int.{ints}
use Rattle.terrain_base.specs.Grid.{line_position, height_in}
use Rattle.mesh_plane.specs.declared.corner.Tri.{Tri}
use Rattle.mesh_plane.specs.Plane.{side_of}
use Rattle.mesh_plane.specs.Surface.{gap_over, gap_under}
use Rattle.mesh_plane.specs.declared.corner.Corner.{Corner}
use Rattle.mesh_plane.specs.Triangles.{Triple, tri_of}
use Rattle.quad_split.specs.Fan.{grid_corner, fan_triangles}
use Rattle.quad_split.specs.Fits.{HoldsPoint, IsNearPlane, Follows, holds_point, is_near_plane, follows_at, follows_row, follows_rows, follows, Fits, fits_at}

le_test : (a b : ℤ) → IsTrue (int_le a b) ↔ (a ≤ℤ b)
le_test a b = (λ h. grind (arith, ints), λ h. grind (arith, ints))

and_test : (a b : Bool) {P Q : Type 0} → IsTrue a ↔ P → IsTrue b ↔ Q → IsTrue (a && b) ↔ (P × Q)
and_test true b p q = (λ h. (p.0 refl, q.0 h), λ h. q.1 h.1)
and_test false b p q = (λ h. absurd (let z = h in cc), λ h. absurd (let z = p.1 h.0 in cc))

pub holds_test : (t : Tri) (i j : ℕ) → IsTrue (holds_point t i j) ↔ HoldsPoint t i j
unfolding holds_point
holds_test t i j =
    let ab = side_of t.a t.b (pos 1) (pos (line_position i)) (pos (line_position j)) in
    let bc = side_of t.b t.c (pos 1) (pos (line_position i)) (pos (line_position j)) in
    let ca = side_of t.c t.a (pos 1) (pos (line_position i)) (pos (line_position j)) in
    let all = and_test (int_le (pos 0) ab) (int_le (pos 0) bc && int_le (pos 0) ca) (le_test (pos 0) ab)
    (and_test (int_le (pos 0) bc) (int_le (pos 0) ca) (le_test (pos 0) bc) (le_test (pos 0) ca)) in (
      λ h. let r = all.0 h in record { ab = r.0; bc = r.1.0; ca = r.1.1 },
      λ h. all.1 (h.ab, (h.bc, h.ca)),
    )

pub near_test : (grid : List ℤ) (tol : ℕ) (t : Tri) (i j : ℕ)
    → IsTrue (is_near_plane grid tol t i j) ↔ IsNearPlane grid tol t i j
unfolding is_near_plane
near_test grid tol t i j =
    le_test (gap_over t (pos 1) (pos (line_position i)) (pos (line_position j)) (height_in grid i j))
    (pos tol *ℤ gap_under t (pos 1))

-- the same truth, as a test's value
pub same_value : (r s : Bool) {P : Type 0} → IsTrue r ↔ P → IsTrue s ↔ P → r ≡ s
same_value true true f g = refl
same_value true false f g = absurd (let z = g.1 (f.0 refl) in cc)
same_value false true f g = absurd (let z = f.1 (g.0 refl) in cc)
same_value false false f g = refl

pub at_test : (grid : List ℤ) (tol : ℕ) (t : Tri) (i j : ℕ)
    → IsTrue (follows_at grid tol t i j) ↔ (HoldsPoint t i j → IsNearPlane grid tol t i j)
unfolding follows_at
at_test grid tol t i j =
    go (holds_point t i j) (is_near_plane grid tol t i j) (holds_test t i j) (near_test grid tol t i j)
  where
    go : (a b : Bool) → IsTrue a ↔ HoldsPoint t i j → IsTrue b ↔ IsNearPlane grid tol t i j
        → IsTrue (not a || b) ↔ (HoldsPoint t i j → IsNearPlane grid tol t i j)
    go true b f g = (λ h k. g.0 h, λ h. g.1 (h (f.0 refl)))
    go false b f g = (λ h k. absurd (let z = f.1 k in cc), λ h. refl)

-- ---- points of rows
pub row_each : (grid : List ℤ) (tol : ℕ) (t : Tri) (i j n : ℕ)
    → ((a : ℕ) → i ≤ a → a < i + n → follows_at grid tol t a j ≡ true) → follows_row grid tol t i j n ≡ true
row_each grid tol t i j zero h = refl
row_each grid tol t i j (suc n) h =
    rw (h i (omega arith) (omega arith)) (row_each grid tol t (suc i) j n (λ a l k. h a (omega arith)
    (omega arith)))

pub row_at : (grid : List ℤ) (tol : ℕ) (t : Tri) (i j n : ℕ) → follows_row grid tol t i j n ≡ true
    → (a : ℕ) → i ≤ a → a < i + n → follows_at grid tol t a j ≡ true
row_at grid tol t i j zero h a l k = absurd (omega arith)
row_at grid tol t i j (suc n) h a l k =
    go (follows_at grid tol t i j) refl h (λ r. row_at grid tol t (suc i) j n r a)
  where
    by_first : {P : Type 0} → (a ≡ i → P) → (suc i ≤ a → P) → P
    by_first f g = grind arith

    go : (v : Bool) → follows_at grid tol t i j ≡ v → (v && follows_row grid tol t (suc i) j n) ≡ true
        → (follows_row grid tol t (suc i) j n ≡ true → suc i ≤ a → a < suc i + n
        → follows_at grid tol t a j ≡ true)
        → follows_at grid tol t a j ≡ true
    go true e r f = by_first (λ d. ap (λ b. follows_at grid tol t b j) d ∙ e) (λ d. f r d (omega arith))
    go false e r f = absurd (let z = r in cc)

pub rows_each : (grid : List ℤ) (tol : ℕ) (t : Tri) (i j m n : ℕ)
    → ((b : ℕ) → j ≤ b → b < j + n → follows_row grid tol t i b m ≡ true)
    → follows_rows grid tol t i j m n ≡ true
rows_each grid tol t i j m zero h = refl
rows_each grid tol t i j m (suc n) h =
    rw (h j (omega arith) (omega arith)) (rows_each grid tol t i (suc j) m n (λ b l k. h b (omega arith)
    (omega arith)))

pub rows_at : (grid : List ℤ) (tol : ℕ) (t : Tri) (i j m n : ℕ) → follows_rows grid tol t i j m n ≡ true
    → (b : ℕ) → j ≤ b → b < j + n → follows_row grid tol t i b m ≡ true
rows_at grid tol t i j m zero h b l k = absurd (omega arith)
rows_at grid tol t i j m (suc n) h b l k =
    go (follows_row grid tol t i j m) refl h (λ r. rows_at grid tol t i (suc j) m n r b)
  where
    by_first : {P : Type 0} → (b ≡ j → P) → (suc j ≤ b → P) → P
    by_first f g = grind arith

    go : (v : Bool) → follows_row grid tol t i j m ≡ v → (v && follows_rows grid tol t i (suc j) m n) ≡ true
        → (follows_rows grid tol t i (suc j) m n ≡ true → suc j ≤ b → b < suc j + n
        → follows_row grid tol t i b m ≡ true)
        → follows_row grid tol t i b m ≡ true
    go true e r f = by_first (λ d. ap (λ a. follows_row grid tol t i a m) d ∙ e) (λ d. f r d (omega arith))
    go false e r f = absurd (let z = r in cc)

-- the points of a square
pub square_test : (grid : List ℤ) (tol : ℕ) (t : Tri) (i j m n : ℕ) → IsTrue (follows_rows grid tol t i j m n)
    ↔ ((a b : ℕ) → i ≤ a → a < i + m → j ≤ b → b < j + n → HoldsPoint t a b → IsNearPlane grid tol t a b)
square_test grid tol t i j m n = (
  λ h a b ia am jb bn. (at_test grid tol t a b).0 (row_at grid tol t i b m
      (rows_at grid tol t i j m n h b jb bn) a ia am),
  λ h. rows_each grid tol t i j m n (λ b jb bn. row_each grid tol t i b m (λ a ia am.
      (at_test grid tol t a b).1 (h a b ia am jb bn))),
)

-- all grid points
pub all_test : (grid : List ℤ) (tol : ℕ) (t : Tri) → IsTrue (follows grid tol t) ↔ Follows grid tol t
unfolding follows
all_test grid tol t =
    let h = square_test grid tol t 0 0 67 67 in (
      λ r i j a b. h.0 r i j (omega arith) (omega arith) (omega arith) (omega arith),
      λ f. h.1 (λ i j a b c d. f i j (omega arith) (omega arith)),
    )

-- a node fits by its test where its twelve triangles follow the heights
pub fit_test : (grid : List ℤ) (tol k x y : ℕ) → IsTrue (fits_at grid tol (suc k) x y) ↔ Fits grid tol k x y
unfolding fits_at
fit_test grid tol k x y = each (fan_triangles (grid_corner grid) k x y)
  where
    each : (ts : List (Triple Corner)) → IsTrue (list_all (λ t. follows grid tol (tri_of t)) ts)
        ↔ All (λ t. Follows grid tol (tri_of t)) ts
    each ts = (
      λ h n d l. (all_test grid tol (tri_of (get_or ts n d))).0
          (AllPass-from_list_all (λ t. follows grid tol (tri_of t)) ts h n d l),
      λ f. list_all-from_AllPass (λ t. follows grid tol (tri_of t)) ts
          (λ n d l. (all_test grid tol (tri_of (get_or ts n d))).1 (f n d l)),
    )
