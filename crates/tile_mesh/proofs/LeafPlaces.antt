-- The leaves of the quadtree, in the order of their triangles.
use Rattle.std.proofs.Common.{◌≡◌, ℕ, zero, suc, ◌+◌, ◌-◌, ◌*◌, ◌/◌, ◌^◌, ◌<◌, ◌≤◌, arith, Bool, true, false, cond, List, [], ◌∷◌, ◌++◌, refl, ap, sym, subst, inl, inr}
use Rattle.std.specs.Prelude.{ℤ, ◌⊎◌, ◌≢◌, Contains, flat_map}
use Rattle.std.specs.List.{AllByRecursion}
use Rattle.std.proofs.lemmas.Nat.{pow_pos}
use Rattle.std.proofs.lemmas.Grind.{flat_map-append}
use Rattle.std.proofs.lemmas.List.Elements.{Contains-append_left, Contains-append_right, All-contains}
use Rattle.std.proofs.Math.Nat.{pow-succ'}
use Rattle.common_laws.proofs.Lists.{all_append, all_weaker}
use Rattle.mesh_plane.specs.Triangles.{Triple}
use Rattle.mesh_plane.specs.Quadtree.{leaves}
use Rattle.mesh_plane.proofs.ListWords.{all_from}
use Rattle.quad_split.specs.Midpoints.{midpoints_of}
use Rattle.quad_split.specs.Node.{is_node}
use Rattle.quad_split.specs.Split.{is_split}
use Rattle.quad_split.proofs.Nodes.{node_x, node_y, is_node_yes, level_small}
use Rattle.tile_mesh.specs.declared.point.GridPoint.{GridPoint}
use Rattle.tile_mesh.specs.InnerPoints.{IsLeaf}
use Rattle.tile_mesh.specs.LeafTriangles.{NodePlace, triangles_at, AreLeaves}
use Rattle.tile_mesh.specs.Rule.{leaf_triangles}
use Rattle.tile_mesh.specs.Sides.{grid_point}
use Rattle.tile_mesh.proofs.MergeOrder.{Pairs, pairs_from}
use Rattle.tile_mesh.proofs.Parents.{halves_of, parent_split, half_place}

abbrev node : ℕ → ℕ → ℕ → NodePlace
node k x y = record { level = k; x = x; y = y }

-- the leaves of a node
abbrev leaf_places : (ℕ → ℕ → ℕ → Bool) → ℕ → ℕ → ℕ → List NodePlace
leaf_places p zero x y = node zero x y ∷ []
leaf_places p (suc k) x y =
    cond (p (suc k) x y) (leaf_places p k (2 * x) (2 * y) ++ (leaf_places p k (2 * x + 1) (2 * y)
    ++ (leaf_places p k (2 * x) (2 * y + 1) ++ leaf_places p k (2 * x + 1) (2 * y + 1)))) (node (suc k) x y ∷ [])

abbrev triangles_of_place : (ℕ → ℕ → ℕ → Bool) → NodePlace → List (Triple GridPoint)
triangles_of_place p n = triangles_at p n.level n.x n.y

one_piece : {A : Type 0} (xs : List A) → xs ≡ xs ++ []
one_piece [] = refl
one_piece (x ∷ xs) = ap (λ (ys : List _). x ∷ ys) (one_piece xs)

-- ---- their triangles
four_pieces : (f : NodePlace → List (Triple GridPoint)) (t₁ t₂ t₃ t₄ : List (Triple GridPoint)) (s₁ s₂ s₃ s₄ : List NodePlace)
    → t₁ ≡ flat_map f s₁ → t₂ ≡ flat_map f s₂ → t₃ ≡ flat_map f s₃ → t₄ ≡ flat_map f s₄
    → t₁ ++ (t₂ ++ (t₃ ++ t₄)) ≡ flat_map f (s₁ ++ (s₂ ++ (s₃ ++ s₄)))
four_pieces f t₁ t₂ t₃ t₄ s₁ s₂ s₃ s₄ e₁ e₂ e₃ e₄ =
    rw (e₁, e₂, e₃, e₄, flat_map-append f s₁ (s₂ ++ (s₃ ++ s₄)), flat_map-append f s₂ (s₃ ++ s₄), flat_map-append f s₃ s₄)
    refl

triangles_are : (p : ℕ → ℕ → ℕ → Bool) (k x y : ℕ)
    → leaves grid_point p (midpoints_of p) k x y ≡ flat_map (triangles_of_place p) (leaf_places p k x y)
triangles_are p zero x y = refl
triangles_are p (suc k) x y =
    go (p (suc k) x y) _ _
    (four_pieces (triangles_of_place p) _ _ _ _ _ _ _ _
    (triangles_are p k (2 * x) (2 * y)) (triangles_are p k (2 * x + 1) (2 * y))
    (triangles_are p k (2 * x) (2 * y + 1)) (triangles_are p k (2 * x + 1) (2 * y + 1)))
  where
    go : (b : Bool) (ts : List (Triple GridPoint)) (ns : List NodePlace) → ts ≡ flat_map (triangles_of_place p) ns
        → cond b ts (triangles_at p (suc k) x y)
        ≡ flat_map (triangles_of_place p) (cond b ns (node (suc k) x y ∷ []))
    go true ts ns e = e
    go false ts ns e = one_piece (triangles_at p (suc k) x y)

-- ---- each once
-- it begins within the node (x, y) of level k
record BeginsIn (k x y : ℕ) (n : NodePlace) : Type 0 where
  west : x * 2 ^ k ≤ n.x * 2 ^ n.level
  east : n.x * 2 ^ n.level < (x + 1) * 2 ^ k
  south : y * 2 ^ k ≤ n.y * 2 ^ n.level
  north : n.y * 2 ^ n.level < (y + 1) * 2 ^ k

low_half : (k x m : ℕ) → 2 * x * 2 ^ k ≤ m → m < (2 * x + 1) * 2 ^ k → (x * 2 ^ suc k ≤ m) × (m < (x + 1) * 2 ^ suc k)
low_half k x m a b =
    subst (λ (q : ℕ). (x * q ≤ m) × (m < (x + 1) * q)) (sym (pow-succ' 2 k)) (go (2 ^ k) a b)
  where
    go : (p : ℕ) → 2 * x * p ≤ m → m < (2 * x + 1) * p → (x * (2 * p) ≤ m) × (m < (x + 1) * (2 * p))
    go p a b = (omega (arith, a), omega (arith, b))

high_half : (k x m : ℕ) → (2 * x + 1) * 2 ^ k ≤ m → m < (2 * x + 1 + 1) * 2 ^ k
    → (x * 2 ^ suc k ≤ m) × (m < (x + 1) * 2 ^ suc k)
high_half k x m a b =
    subst (λ (q : ℕ). (x * q ≤ m) × (m < (x + 1) * q)) (sym (pow-succ' 2 k)) (go (2 ^ k) a b)
  where
    go : (p : ℕ) → (2 * x + 1) * p ≤ m → m < (2 * x + 1 + 1) * p → (x * (2 * p) ≤ m) × (m < (x + 1) * (2 * p))
    go p a b = (omega (arith, a), omega (arith, b))

module _ (k x y : ℕ) where
  wider₁ : (n : NodePlace) → BeginsIn k (2 * x) (2 * y) n → BeginsIn (suc k) x y n
  wider₁ n h =
      let i = low_half k x (n.x * 2 ^ n.level) h.west h.east in let j = low_half k y (n.y * 2 ^ n.level) h.south h.north in
      record { west = i.0; east = i.1; south = j.0; north = j.1 }

  wider₂ : (n : NodePlace) → BeginsIn k (2 * x + 1) (2 * y) n → BeginsIn (suc k) x y n
  wider₂ n h =
      let i = high_half k x (n.x * 2 ^ n.level) h.west h.east in let j = low_half k y (n.y * 2 ^ n.level) h.south h.north in
      record { west = i.0; east = i.1; south = j.0; north = j.1 }

  wider₃ : (n : NodePlace) → BeginsIn k (2 * x) (2 * y + 1) n → BeginsIn (suc k) x y n
  wider₃ n h =
      let i = low_half k x (n.x * 2 ^ n.level) h.west h.east in let j = high_half k y (n.y * 2 ^ n.level) h.south h.north in
      record { west = i.0; east = i.1; south = j.0; north = j.1 }

  wider₄ : (n : NodePlace) → BeginsIn k (2 * x + 1) (2 * y + 1) n → BeginsIn (suc k) x y n
  wider₄ n h =
      let i = high_half k x (n.x * 2 ^ n.level) h.west h.east in let j = high_half k y (n.y * 2 ^ n.level) h.south h.north in
      record { west = i.0; east = i.1; south = j.0; north = j.1 }

  -- it begins in the eastern or in the northern half
  abbrev Beyond : NodePlace → Type 0
  Beyond n = ((2 * x + 1) * 2 ^ k ≤ n.x * 2 ^ n.level) ⊎ ((2 * y + 1) * 2 ^ k ≤ n.y * 2 ^ n.level)

  abbrev North : NodePlace → Type 0
  North n = (2 * y + 1) * 2 ^ k ≤ n.y * 2 ^ n.level

  apart₁ : (n m : NodePlace) → BeginsIn k (2 * x) (2 * y) n → Beyond m → n ≢ m
  apart₁ n m h (inl l) e = omega (arith, h.east, l, ap (λ (z : NodePlace). z.x * 2 ^ z.level) e)
  apart₁ n m h (inr l) e = omega (arith, h.north, l, ap (λ (z : NodePlace). z.y * 2 ^ z.level) e)

  apart₂ : (n m : NodePlace) → BeginsIn k (2 * x + 1) (2 * y) n → North m → n ≢ m
  apart₂ n m h l e = omega (arith, h.north, l, ap (λ (z : NodePlace). z.y * 2 ^ z.level) e)

  apart₃ : (n m : NodePlace) → BeginsIn k (2 * x) (2 * y + 1) n → BeginsIn k (2 * x + 1) (2 * y + 1) m → n ≢ m
  apart₃ n m h l e = omega (arith, h.east, l.west, ap (λ (z : NodePlace). z.x * 2 ^ z.level) e)

starts : (k x y : ℕ) → BeginsIn k x y (node k x y)
starts k x y = record {
  west = omega arith;
  east = omega (arith, pow_pos k);
  south = omega arith;
  north = omega (arith, pow_pos k);
}

begin_within : (p : ℕ → ℕ → ℕ → Bool) (k x y : ℕ) → AllByRecursion (BeginsIn k x y) (leaf_places p k x y)
begin_within p zero x y = (starts zero x y, tt)
begin_within p (suc k) x y =
    go (p (suc k) x y) _
    (all_append (BeginsIn (suc k) x y) _ _
    (all_weaker (BeginsIn k (2 * x) (2 * y)) (BeginsIn (suc k) x y) (wider₁ k x y) _ (begin_within p k (2 * x) (2 * y)))
    (all_append (BeginsIn (suc k) x y) _ _
    (all_weaker (BeginsIn k (2 * x + 1) (2 * y)) (BeginsIn (suc k) x y) (wider₂ k x y) _ (begin_within p k (2 * x + 1) (2 * y)))
    (all_append (BeginsIn (suc k) x y) _ _
    (all_weaker (BeginsIn k (2 * x) (2 * y + 1)) (BeginsIn (suc k) x y) (wider₃ k x y) _ (begin_within p k (2 * x) (2 * y + 1)))
    (all_weaker (BeginsIn k (2 * x + 1) (2 * y + 1)) (BeginsIn (suc k) x y) (wider₄ k x y) _ (begin_within p k (2 * x + 1) (2 * y + 1))))))
  where
    go : (b : Bool) (ns : List NodePlace) → AllByRecursion (BeginsIn (suc k) x y) ns
        → AllByRecursion (BeginsIn (suc k) x y) (cond b ns (node (suc k) x y ∷ []))
    go true ns h = h
    go false ns h = (starts (suc k) x y, tt)

abbrev Apart : List NodePlace → Type 0
Apart ns = Pairs (λ n m. n ≢ m) ns

apart_append : (A B : NodePlace → Type 0) → ((n m : NodePlace) → A n → B m → n ≢ m) → (xs ys : List NodePlace)
    → AllByRecursion A xs → AllByRecursion B ys → Apart xs → Apart ys → Apart (xs ++ ys)
apart_append A B f [] ys a b c d = d
apart_append A B f (x ∷ xs) ys a b c d = (
  all_append (λ m. x ≢ m) xs ys c.0 (all_weaker B (λ m. x ≢ m) (λ m h. f x m a.0 h) ys b),
  apart_append A B f xs ys a.1 b c.1 d,
)

all_apart : (p : ℕ → ℕ → ℕ → Bool) (k x y : ℕ) → Apart (leaf_places p k x y)
all_apart p zero x y = (tt, tt)
all_apart p (suc k) x y =
    let s₁ = leaf_places p k (2 * x) (2 * y) in let s₂ = leaf_places p k (2 * x + 1) (2 * y) in
    let s₃ = leaf_places p k (2 * x) (2 * y + 1) in let s₄ = leaf_places p k (2 * x + 1) (2 * y + 1) in
    let b₁ = begin_within p k (2 * x) (2 * y) in let b₂ = begin_within p k (2 * x + 1) (2 * y) in
    let b₃ = begin_within p k (2 * x) (2 * y + 1) in let b₄ = begin_within p k (2 * x + 1) (2 * y + 1) in
    go (p (suc k) x y) (s₁ ++ (s₂ ++ (s₃ ++ s₄)))
    (apart_append (BeginsIn k (2 * x) (2 * y)) (Beyond k x y) (apart₁ k x y) s₁ (s₂ ++ (s₃ ++ s₄)) b₁
    (all_append (Beyond k x y) s₂ (s₃ ++ s₄)
    (all_weaker (BeginsIn k (2 * x + 1) (2 * y)) (Beyond k x y) (λ n h. inl h.west) s₂ b₂)
    (all_append (Beyond k x y) s₃ s₄
    (all_weaker (BeginsIn k (2 * x) (2 * y + 1)) (Beyond k x y) (λ n h. inr h.south) s₃ b₃)
    (all_weaker (BeginsIn k (2 * x + 1) (2 * y + 1)) (Beyond k x y) (λ n h. inr h.south) s₄ b₄)))
    (all_apart p k (2 * x) (2 * y))
    (apart_append (BeginsIn k (2 * x + 1) (2 * y)) (North k x y) (apart₂ k x y) s₂ (s₃ ++ s₄) b₂
    (all_append (North k x y) s₃ s₄
    (all_weaker (BeginsIn k (2 * x) (2 * y + 1)) (North k x y) (λ n h. h.south) s₃ b₃)
    (all_weaker (BeginsIn k (2 * x + 1) (2 * y + 1)) (North k x y) (λ n h. h.south) s₄ b₄))
    (all_apart p k (2 * x + 1) (2 * y))
    (apart_append (BeginsIn k (2 * x) (2 * y + 1)) (BeginsIn k (2 * x + 1) (2 * y + 1)) (apart₃ k x y) s₃ s₄ b₃ b₄
    (all_apart p k (2 * x) (2 * y + 1)) (all_apart p k (2 * x + 1) (2 * y + 1)))))
  where
    go : (b : Bool) (ns : List NodePlace) → Apart ns → Apart (cond b ns (node (suc k) x y ∷ []))
    go true ns h = h
    go false ns h = (tt, tt)

-- ---- each is a leaf
half_place_of : (k x : ℕ) → suc k ≤ 6 → x < 64 / 2 ^ suc k → 2 * x + 1 < 64 / 2 ^ k
half_place_of zero x h l = omega (arith, l)
half_place_of (suc zero) x h l = omega (arith, l)
half_place_of (suc (suc zero)) x h l = omega (arith, l)
half_place_of (suc (suc (suc zero))) x h l = omega (arith, l)
half_place_of (suc (suc (suc (suc zero)))) x h l = omega (arith, l)
half_place_of (suc (suc (suc (suc (suc zero))))) x h l = omega (arith, l)
half_place_of (suc (suc (suc (suc (suc (suc k)))))) x h l = absurd (omega (arith, h))

-- the root, or a node whose parent is split
abbrev HasSplitParent : List ℤ → ℕ → ℕ → ℕ → ℕ → Type 0
HasSplitParent grid tol k x y = (k ≡ 6) ⊎ (is_split grid tol (suc k) (x / 2) (y / 2) ≡ true)

abbrev IsLeafPlace : List ℤ → ℕ → NodePlace → Type 0
IsLeafPlace grid tol n = IsLeaf grid tol n.level n.x n.y

module _ (grid : List ℤ) (tol : ℕ) where
  abbrev places : ℕ → ℕ → ℕ → List NodePlace
  places k x y = leaf_places (is_split grid tol) k x y

  quarter_parent : (k x y u v : ℕ) → is_split grid tol (suc k) x y ≡ true → u / 2 ≡ x → v / 2 ≡ y
      → HasSplitParent grid tol k u v
  quarter_parent k x y u v e f g =
      inr (subst (λ (i : ℕ). is_split grid tol (suc k) i (v / 2) ≡ true) (sym f)
      (subst (λ (j : ℕ). is_split grid tol (suc k) x j ≡ true) (sym g) e))

  are_leaves : (k x y : ℕ) → is_node k x y ≡ true → HasSplitParent grid tol k x y
      → AllByRecursion (IsLeafPlace grid tol) (places k x y)
  are_leaves zero x y n h = (record { place = n; whole = refl; parent = h }, tt)
  are_leaves (suc k) x y n h =
      go (is_split grid tol (suc k) x y) refl
      (λ e. are_leaves k (2 * x) (2 * y) (is_node_yes k (2 * x) (2 * y) (omega (arith, right)) (omega (arith, up)))
      (quarter_parent k x y (2 * x) (2 * y) e (omega arith) (omega arith)))
      (λ e. are_leaves k (2 * x + 1) (2 * y) (is_node_yes k (2 * x + 1) (2 * y) right (omega (arith, up)))
      (quarter_parent k x y (2 * x + 1) (2 * y) e (omega arith) (omega arith)))
      (λ e. are_leaves k (2 * x) (2 * y + 1) (is_node_yes k (2 * x) (2 * y + 1) (omega (arith, right)) up)
      (quarter_parent k x y (2 * x) (2 * y + 1) e (omega arith) (omega arith)))
      (λ e. are_leaves k (2 * x + 1) (2 * y + 1) (is_node_yes k (2 * x + 1) (2 * y + 1) right up)
      (quarter_parent k x y (2 * x + 1) (2 * y + 1) e (omega arith) (omega arith)))
    where
      right : 2 * x + 1 < 64 / 2 ^ k
      right = half_place_of k x (level_small (suc k) x y n) (node_x (suc k) x y n)

      up : 2 * y + 1 < 64 / 2 ^ k
      up = half_place_of k y (level_small (suc k) x y n) (node_y (suc k) x y n)

      go : (b : Bool) → is_split grid tol (suc k) x y ≡ b
          → (is_split grid tol (suc k) x y ≡ true → AllByRecursion (IsLeafPlace grid tol) (places k (2 * x) (2 * y)))
          → (is_split grid tol (suc k) x y ≡ true → AllByRecursion (IsLeafPlace grid tol) (places k (2 * x + 1) (2 * y)))
          → (is_split grid tol (suc k) x y ≡ true → AllByRecursion (IsLeafPlace grid tol) (places k (2 * x) (2 * y + 1)))
          → (is_split grid tol (suc k) x y ≡ true → AllByRecursion (IsLeafPlace grid tol) (places k (2 * x + 1) (2 * y + 1)))
          → AllByRecursion (IsLeafPlace grid tol)
          (cond b (places k (2 * x) (2 * y) ++ (places k (2 * x + 1) (2 * y)
          ++ (places k (2 * x) (2 * y + 1) ++ places k (2 * x + 1) (2 * y + 1)))) (node (suc k) x y ∷ []))
      go true e a b c d =
          all_append (IsLeafPlace grid tol) (places k (2 * x) (2 * y)) _ (a e)
          (all_append (IsLeafPlace grid tol) (places k (2 * x + 1) (2 * y)) _ (b e)
          (all_append (IsLeafPlace grid tol) (places k (2 * x) (2 * y + 1)) _ (c e) (d e)))
      go false e a b c d = (record { place = n; whole = e; parent = h }, tt)

  -- ---- each leaf is there
  at_quarter : (k x y u v : ℕ) (n : NodePlace) → is_split grid tol (suc k) x y ≡ true
      → (u ≡ 2 * x) ⊎ (u ≡ 2 * x + 1) → (v ≡ 2 * y) ⊎ (v ≡ 2 * y + 1)
      → Contains (places k u v) n → Contains (places (suc k) x y) n
  at_quarter k x y u v n e f g h =
      subst (λ (b : Bool). Contains (cond b (places k (2 * x) (2 * y) ++ (places k (2 * x + 1) (2 * y)
      ++ (places k (2 * x) (2 * y + 1) ++ places k (2 * x + 1) (2 * y + 1)))) (node (suc k) x y ∷ [])) n) (sym e)
      (go f g)
    where
      go : (u ≡ 2 * x) ⊎ (u ≡ 2 * x + 1) → (v ≡ 2 * y) ⊎ (v ≡ 2 * y + 1)
          → Contains (places k (2 * x) (2 * y) ++ (places k (2 * x + 1) (2 * y)
          ++ (places k (2 * x) (2 * y + 1) ++ places k (2 * x + 1) (2 * y + 1)))) n
      go (inl f) (inl g) =
          Contains-append_left (places k (2 * x) (2 * y)) _ n
          (subst (λ (i : ℕ). Contains (places k i (2 * y)) n) f (subst (λ (j : ℕ). Contains (places k u j) n) g h))
      go (inr f) (inl g) =
          Contains-append_right (places k (2 * x) (2 * y)) _ n (Contains-append_left (places k (2 * x + 1) (2 * y)) _ n
          (subst (λ (i : ℕ). Contains (places k i (2 * y)) n) f (subst (λ (j : ℕ). Contains (places k u j) n) g h)))
      go (inl f) (inr g) =
          Contains-append_right (places k (2 * x) (2 * y)) _ n (Contains-append_right (places k (2 * x + 1) (2 * y)) _ n
          (Contains-append_left (places k (2 * x) (2 * y + 1)) _ n
          (subst (λ (i : ℕ). Contains (places k i (2 * y + 1)) n) f (subst (λ (j : ℕ). Contains (places k u j) n) g h))))
      go (inr f) (inr g) =
          Contains-append_right (places k (2 * x) (2 * y)) _ n (Contains-append_right (places k (2 * x + 1) (2 * y)) _ n
          (Contains-append_right (places k (2 * x) (2 * y + 1)) _ n
          (subst (λ (i : ℕ). Contains (places k i (2 * y + 1)) n) f (subst (λ (j : ℕ). Contains (places k u j) n) g h))))

  -- from a node up to the root, in d steps
  climbed : (d k x y : ℕ) (n : NodePlace) → d + k ≡ 6 → is_node k x y ≡ true → HasSplitParent grid tol k x y
      → Contains (places k x y) n → Contains (places 6 0 0) n
  climbed zero k x y n e i h c =
      let top : k ≡ 6 = omega (arith, e) in
      subst (λ (j : ℕ). Contains (places 6 0 j) n) (first y (subst (λ (j : ℕ). y < 64 / 2 ^ j) top (node_y k x y i)))
      (subst (λ (j : ℕ). Contains (places 6 j y) n) (first x (subst (λ (j : ℕ). x < 64 / 2 ^ j) top (node_x k x y i)))
      (subst (λ (j : ℕ). Contains (places j x y) n) top c))
    where
      first : (x : ℕ) → x < 64 / 2 ^ 6 → x ≡ 0
      first x l = omega (arith, l)
  climbed (suc d) k x y n e i (inl h) c = absurd (omega (arith, e, h))
  climbed (suc d) k x y n e i (inr h) c =
      let u = x / 2 in let v = y / 2 in
      climbed d (suc k) u v n (omega (arith, e))
      (is_node_yes (suc k) u v (half_place k x (omega (arith, e)) (node_x k x y i)) (half_place k y (omega (arith, e)) (node_y k x y i)))
      (grand d (omega (arith, e)))
      (at_quarter k u v x y n h (halves_of x) (halves_of y) c)
    where
      grand : (d : ℕ) → d + suc k ≡ 6 → HasSplitParent grid tol (suc k) (x / 2) (y / 2)
      grand zero f = inl (omega (arith, f))
      grand (suc d) f = inr (parent_split grid tol (suc k) (x / 2) (y / 2) h (omega (arith, f)))

  itself : (k x y : ℕ) → is_split grid tol k x y ≡ false → Contains (places k x y) (node k x y)
  itself zero x y e = (0, omega arith, refl)
  itself (suc k) x y e =
      subst (λ (b : Bool). Contains (cond b (places k (2 * x) (2 * y) ++ (places k (2 * x + 1) (2 * y)
      ++ (places k (2 * x) (2 * y + 1) ++ places k (2 * x + 1) (2 * y + 1)))) (node (suc k) x y ∷ [])) (node (suc k) x y))
      (sym e) (0, omega arith, refl)

  leaf_is_there : (n : NodePlace) → IsLeafPlace grid tol n → Contains (places 6 0 0) n
  leaf_is_there n h =
      climbed (6 - n.level) n.level n.x n.y n (omega (arith, level_small n.level n.x n.y h.place)) h.place h.parent
      (itself n.level n.x n.y h.whole)

pub leaf_law : (grid : List ℤ) (tol : ℕ) → AreLeaves grid tol
unfolding leaf_triangles
leaf_law grid tol =
    let ns = leaf_places (is_split grid tol) 6 0 0 in
    record {
      nodes = ns;
      members = λ n. (
        (λ h. All-contains (IsLeafPlace grid tol) ns n
            (all_from (IsLeafPlace grid tol) ns
            (are_leaves grid tol 6 0 0 (is_node_yes 6 0 0 (omega arith) (omega arith)) (inl refl))) h),
        leaf_is_there grid tol n,
      );
      once = pairs_from (λ n m. n ≢ m) ns (all_apart (is_split grid tol) 6 0 0);
      triangles = triangles_are (is_split grid tol) 6 0 0;
    }
