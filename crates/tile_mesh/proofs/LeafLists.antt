-- The triangles of a node's leaves, by those of its quarters and by its corners.
use Rattle.std.proofs.Common.{◌≡◌, ℕ, zero, suc, ◌+◌, ◌-◌, ◌*◌, ◌/◌, ◌^◌, Bool, true, false, List, [], ◌∷◌, ◌++◌, refl, ap, sym, ◌∙◌, subst, arith, add-zero}
use Rattle.std.proofs.Math.Nat.{pow-succ'}
use Rattle.mesh_plane.specs.Triangles.{Triple, fan}
use Rattle.mesh_plane.specs.Fan.{Ring, round, south_of, east_of, north_of, west_of}
use Rattle.mesh_plane.specs.Quadtree.{line_of, halves, midpoint, Midpoints, leaves}
use Rattle.terrain_base.specs.declared.indexes.Indexes.{Indexes}
use Rattle.tile_mesh.specs.declared.leaves.PlacedNode.{PlacedNode}
use Rattle.tile_mesh.specs.declared.point.GridPoint.{GridPoint}
use Rattle.tile_mesh.specs.Numbers.{Adds}
use Rattle.tile_mesh.specs.Sides.{grid_point}
use Rattle.tile_mesh.specs.PlacedNodes.{IsPlacedNode, IsQuarter, leaf_at}
use Rattle.tile_mesh.proofs.Steps.{adds_append}

-- ---- a fan by the sides of its ring
fan_append : {A : Type 0} (c o e : A) (xs rest : List A)
    → fan c o ((xs ++ e ∷ []) ++ rest) ≡ fan c o (xs ++ e ∷ []) ++ fan c e rest
fan_append c o e [] rest = refl
fan_append {A} c o e (x ∷ xs) rest =
    ap (λ (ts : List (Triple A)). record { a = c; b = o; c = x } ∷ ts) (fan_append c x e xs rest)

pub fan_sides : {A : Type 0} (c : A) (g : Ring A)
    → fan c g.south_west (south_of g) ++ (fan c g.south_east (east_of g)
    ++ (fan c g.north_east (north_of g) ++ fan c g.north_west (west_of g)))
    ≡ fan c g.south_west (round g)
fan_sides {A} c g =
    sym (fan_append c g.south_west g.south_east g.south (east_of g ++ (north_of g ++ west_of g))
    ∙ ap (λ (ts : List (Triple A)). fan c g.south_west (south_of g) ++ ts)
    (fan_append c g.south_east g.north_east g.east (north_of g ++ west_of g)
    ∙ ap (λ (ts : List (Triple A)). fan c g.south_east (east_of g) ++ ts)
    (fan_append c g.north_east g.north_west g.north (west_of g))))

-- ---- corners of nodes
middle_is : (x n : ℕ) → 1 + (2 * x + 1) * n ≡ 1 + x * (2 * n) + n
middle_is x n = omega arith

end_is : (x n : ℕ) → 1 + (x + 1) * (2 * n) ≡ 1 + x * (2 * n) + 2 * n
end_is x n = omega arith

-- a leaf over the grid points of six lines
abbrev leaf_on : ℕ → ℕ → ℕ → ℕ → ℕ → ℕ → Midpoints → List (Triple GridPoint)
leaf_on w x e s y n m = fan (grid_point x y) (grid_point w s) (round (record {
  south_west = grid_point w s;
  south = midpoint m.south (grid_point x s);
  south_east = grid_point e s;
  east = midpoint m.east (grid_point e y);
  north_east = grid_point e n;
  north = midpoint m.north (grid_point x n);
  north_west = grid_point w n;
  west = midpoint m.west (grid_point w y);
}))

leaf_by : (w x e s y n h i j : ℕ) (m : Midpoints) → w ≡ i → x ≡ i + h → e ≡ i + 2 * h → s ≡ j → y ≡ j + h
    → n ≡ j + 2 * h → leaf_on w x e s y n m ≡ leaf_at h i j m
leaf_by w x e s y n h i j m a b c d f g = rw (a, b, c, d, f, g)

half_side : (k x i : ℕ) → i ≡ 1 + x * 2 ^ suc k → line_of k (2 * x + 1) ≡ i + 2 ^ suc k / 2
half_side k x i e =
    let h : 2 ^ suc k / 2 ≡ 2 ^ k = omega arith in
    rw (e, h, pow-succ' 2 k) (middle_is x (2 ^ k))

whole_side : (k x i : ℕ) → i ≡ 1 + x * 2 ^ suc k → line_of (suc k) (x + 1) ≡ i + 2 * (2 ^ suc k / 2)
whole_side k x i e =
    let h : 2 ^ suc k / 2 ≡ 2 ^ k = omega arith in
    rw (e, h, pow-succ' 2 k) (end_is x (2 ^ k))

whole : (p : ℕ → ℕ → ℕ → Bool) (m : ℕ → ℕ → ℕ → Midpoints) (k x y i j : ℕ) → (k ≡ 0 → ⊥) → p k x y ≡ false
    → i ≡ 1 + x * 2 ^ k → j ≡ 1 + y * 2 ^ k
    → leaves grid_point p m k x y ≡ leaf_at (2 ^ k / 2) i j (m k x y)
whole p m zero x y i j h e a b = absurd (h refl)
whole p m (suc k) x y i j h e a b =
    rw e (leaf_by (line_of (suc k) x) (line_of k (2 * x + 1)) (line_of (suc k) (x + 1)) (line_of (suc k) y)
    (line_of k (2 * y + 1)) (line_of (suc k) (y + 1)) (2 ^ suc k / 2) i j (m (suc k) x y)
    (sym a) (half_side k x i a) (whole_side k x i a) (sym b) (half_side k y j b) (whole_side k y j b))

-- the whole leaf of a node
pub leaf_is : (p : ℕ → ℕ → ℕ → Bool) (m : ℕ → ℕ → ℕ → Midpoints) (s : PlacedNode) → (s.level ≡ 0 → ⊥)
    → p s.level s.x s.y ≡ false → IsPlacedNode s
    → leaves grid_point p m s.level s.x s.y ≡ leaf_at (s.side / 2) s.i s.j (m s.level s.x s.y)
leaf_is p m s h e q =
    whole p m s.level s.x s.y s.i s.j h e q.west q.south
    ∙ ap (λ n. leaf_at (n / 2) s.i s.j (m s.level s.x s.y)) (sym q.side)

-- the triangles of a node of level 0
smallest_by : (p : ℕ → ℕ → ℕ → Bool) (m : ℕ → ℕ → ℕ → Midpoints) (k x y i j : ℕ) → k ≡ 0
    → i ≡ 1 + x * 2 ^ k → j ≡ 1 + y * 2 ^ k
    → halves (grid_point i j) (grid_point (i + 1) j) (grid_point (i + 1) (j + 1)) (grid_point i (j + 1))
    ≡ leaves grid_point p m k x y
smallest_by p m zero x y i j h a b =
    let c : i + 1 ≡ line_of zero (x + 1) = omega (arith, a) in
    let d : j + 1 ≡ line_of zero (y + 1) = omega (arith, b) in
    rw (c, d, a, b)
smallest_by p m (suc k) x y i j h a b = absurd (omega (arith, h))

pub smallest_is : (p : ℕ → ℕ → ℕ → Bool) (m : ℕ → ℕ → ℕ → Midpoints) (s : PlacedNode) → s.level ≡ 0 → IsPlacedNode s
    → halves (grid_point s.i s.j) (grid_point (s.i + 1) s.j) (grid_point (s.i + 1) (s.j + 1)) (grid_point s.i (s.j + 1))
    ≡ leaves grid_point p m s.level s.x s.y
smallest_is p m s h q = smallest_by p m s.level s.x s.y s.i s.j h q.west q.south

-- ---- a node that is split
leaves_split : (p : ℕ → ℕ → ℕ → Bool) (m : ℕ → ℕ → ℕ → Midpoints) (k x y : ℕ) → (k ≡ 0 → ⊥) → p k x y ≡ true
    → leaves grid_point p m k x y ≡ leaves grid_point p m (k - 1) (2 * x + 0) (2 * y + 0)
    ++ (leaves grid_point p m (k - 1) (2 * x + 1) (2 * y + 0) ++ (leaves grid_point p m (k - 1) (2 * x + 0) (2 * y + 1)
    ++ leaves grid_point p m (k - 1) (2 * x + 1) (2 * y + 1)))
leaves_split p m zero x y h e = absurd (h refl)
leaves_split p m (suc k) x y h e = let d : suc k - 1 ≡ k = omega arith in rw (e, d, add-zero, add-zero)

quarter_is : (p : ℕ → ℕ → ℕ → Bool) (m : ℕ → ℕ → ℕ → Midpoints) (s : PlacedNode) (a b : ℕ) (q : PlacedNode) → IsQuarter s a b q
    → leaves grid_point p m q.level q.x q.y ≡ leaves grid_point p m (s.level - 1) (2 * s.x + a) (2 * s.y + b)
quarter_is p m s a b q h = rw (h.level, h.x, h.y)

pub split_adds : (p : ℕ → ℕ → ℕ → Bool) (m : ℕ → ℕ → ℕ → Midpoints) (s q₀ q₁ q₂ q₃ : PlacedNode) → (s.level ≡ 0 → ⊥)
    → p s.level s.x s.y ≡ true
    → IsQuarter s 0 0 q₀ → IsQuarter s 1 0 q₁ → IsQuarter s 0 1 q₂ → IsQuarter s 1 1 q₃
    → (k₀ k₁ k₂ k₃ k₄ : List GridPoint) (i₀ i₁ i₂ i₃ i₄ : List Indexes)
    → Adds (leaves grid_point p m q₀.level q₀.x q₀.y) k₀ k₁ i₀ i₁
    → Adds (leaves grid_point p m q₁.level q₁.x q₁.y) k₁ k₂ i₁ i₂
    → Adds (leaves grid_point p m q₂.level q₂.x q₂.y) k₂ k₃ i₂ i₃
    → Adds (leaves grid_point p m q₃.level q₃.x q₃.y) k₃ k₄ i₃ i₄
    → Adds (leaves grid_point p m s.level s.x s.y) k₀ k₄ i₀ i₄
split_adds p m s q₀ q₁ q₂ q₃ h e a b c d k₀ k₁ k₂ k₃ k₄ i₀ i₁ i₂ i₃ i₄ t u v w =
    let all = adds_append _ _ k₀ k₁ k₄ i₀ i₁ i₄ t (adds_append _ _ k₁ k₂ k₄ i₁ i₂ i₄ u (adds_append _ _ k₂ k₃ k₄ i₂ i₃ i₄ v w)) in
    let same : leaves grid_point p m q₀.level q₀.x q₀.y ++ (leaves grid_point p m q₁.level q₁.x q₁.y
    ++ (leaves grid_point p m q₂.level q₂.x q₂.y ++ leaves grid_point p m q₃.level q₃.x q₃.y))
    ≡ leaves grid_point p m s.level s.x s.y =
    rw (quarter_is p m s 0 0 q₀ a, quarter_is p m s 1 0 q₁ b, quarter_is p m s 0 1 q₂ c, quarter_is p m s 1 1 q₃ d)
    (sym (leaves_split p m s.level s.x s.y h e)) in
    subst (λ (ts : List (Triple GridPoint)). Adds ts k₀ k₄ i₀ i₄) same all
