-- How many triangles the mesh of a grid has: at most 130 in each strip, and 8192 in the quadtree.
use Rattle.std.proofs.Common.{◌≡◌, ℕ, zero, suc, ◌+◌, ◌*◌, ◌≤◌, arith, Bool, true, false, List, [], ◌∷◌, ◌++◌, map, length, nat_le, refl}
use Rattle.std.specs.Prelude.{ℤ, if◌then◌else◌}
use Rattle.std.proofs.lemmas.List.{length-map}
use Rattle.mesh_plane.specs.Triangles.{Step, Outer, Inner, strip, fan}
use Rattle.mesh_plane.specs.Quadtree.{Midpoints, line_of, midpoint, leaf, leaf_ring, leaves}
use Rattle.mesh_plane.specs.Fan.{round}
use Rattle.quad_split.specs.Midpoints.{midpoints_of}
use Rattle.quad_split.specs.Split.{is_split}
use Rattle.terrain_base.specs.Grid.{tolerance_of}
use Rattle.terrain_base.specs.declared.side.Side.{Side}
use Rattle.terrain_base.specs.declared.side.Side.TheVariants.{West, South, East, North}
use Rattle.tile_mesh.specs.Kept.{Rises, RisesTo66}
use Rattle.tile_mesh.specs.Merge.{merge, outer_after}
use Rattle.tile_mesh.specs.Mesh.{kept_on, edge_heights, mesh_of_grid}
use Rattle.tile_mesh.specs.Numbers.{first_uses, corners, numbered}
use Rattle.tile_mesh.specs.Rule.{border_split, border_triangles, inner_points, leaf_ends, leaf_triangles, strip_triangles, triangles_of}
use Rattle.tile_mesh.specs.Sides.{grid_point, outer_at, inner_at, step_at}
use Rattle.tile_mesh.proofs.KeptLists.{kept_to_66}

joined : {A : Type 0} (xs ys : List A) → length (xs ++ ys) ≡ length xs + length ys
joined [] ys = omega arith
joined (x ∷ xs) ys = omega (arith, joined xs ys)

-- ---- strips
taken_after : (x n : ℕ) (rest : List ℕ → List (Step ℕ)) → ((ys : List ℕ) → length (rest ys) ≡ n + length ys) → (ys : List ℕ) → length (outer_after x rest ys) ≡ suc n + length ys
taken_after x n rest h [] = omega (arith, h [])
taken_after x n rest h (y ∷ ys) = elim (nat_le x y) as (λ b. length (if b then Outer x ∷ rest (y ∷ ys) else Inner y ∷ outer_after x rest ys) ≡ suc n + suc (length ys)) [
  | true ↦ omega (arith, h (y ∷ ys))
  | false ↦ omega (arith, taken_after x n rest h ys)
]

merged : (xs ys : List ℕ) → length (merge xs ys) ≡ length xs + length ys
merged [] ys = omega (arith, length-map ys (λ (y : ℕ). Inner y))
merged (x ∷ xs) ys = omega (arith, taken_after x (length xs) (merge xs) (merged xs) ys)

stripped : {A : Type 0} (side : Side) (o n : A) (steps : List (Step A)) → length (strip side o n steps) ≡ length steps
stripped side o n [] = refl
stripped side o n (Outer x ∷ steps) = omega (arith, stripped side x n steps)
stripped side o n (Inner x ∷ steps) = omega (arith, stripped side o x steps)

few_in_strip : (side : Side) (outer inner : List ℕ) (a b : ℕ) → length outer ≤ suc a → length inner ≤ suc b → length (strip_triangles side outer inner) ≤ a + b
few_in_strip side [] inner a b h k = omega arith
few_in_strip side (o ∷ outer) [] a b h k = omega arith
few_in_strip side (o ∷ outer) (n ∷ inner) a b h k =
    omega (
      arith,
      stripped side (outer_at side o) (inner_at side n) (map (step_at side) (merge outer inner)),
      length-map (merge outer inner) (step_at side),
      merged outer inner,
    )

-- what rises from a to b has at most b - a numbers
rising : (a : ℕ) (xs : List ℕ) (b : ℕ) → Rises a xs b → a + length xs ≤ b
rising a [] b h = omega (arith, h)
rising a (x ∷ xs) b h = omega (arith, h.0, rising x xs b h.1)

few_kept : (xs : List ℕ) → RisesTo66 xs → length xs ≤ 67
few_kept [] h = omega arith
few_kept (x ∷ xs) h = omega (arith, rising 0 xs 66 h.1)

-- ---- the line beside an edge
widths : ℕ → ℕ
widths zero = 1
widths (suc k) = widths k + widths k

some_width : (k : ℕ) → 1 ≤ widths k
unfolding widths
some_width zero = omega arith
some_width (suc k) = omega (arith, some_width k)

few_ends : (split : ℕ → ℕ → Bool) (k m : ℕ) → length (leaf_ends split k m) ≤ widths k
unfolding widths
few_ends split zero m = omega arith
few_ends split (suc k) m = elim (split (suc k) m) as (λ b. length (if b then leaf_ends split k (2 * m) ++ leaf_ends split k (2 * m + 1) else line_of (suc k) (m + 1) ∷ []) ≤ widths k + widths k) [
  | true ↦ omega (arith, joined (leaf_ends split k (2 * m)) (leaf_ends split k (2 * m + 1)), few_ends split k (2 * m), few_ends split k (2 * m + 1))
  | false ↦ omega (arith, some_width k)
]

few_inner : (split : ℕ → ℕ → ℕ → Bool) (side : Side) → length (inner_points split side) ≤ 65
unfolding widths inner_points
few_inner split side = omega (arith, few_ends (border_split split side) 6 0)

few_on_border : (split : ℕ → ℕ → ℕ → Bool) (kept : Side → List ℕ) (side : Side) → length (kept side) ≤ 67 → length (border_triangles split kept side) ≤ 130
unfolding border_triangles
few_on_border split kept side h = few_in_strip side (kept side) (inner_points split side) 66 64 h (few_inner split side)

-- ---- leaves
most : ℕ → ℕ
most zero = 2
most (suc k) = 4 * most k

at_least_two : (k : ℕ) → 2 ≤ most k
unfolding most
at_least_two zero = omega arith
at_least_two (suc k) = omega (arith, at_least_two k)

fanned : {A : Type 0} (c o : A) (rs : List A) → length (fan c o rs) ≡ length rs
fanned c o [] = refl
fanned c o (r ∷ rs) = omega (arith, fanned c r rs)

one_midpoint : {A : Type 0} (b : Bool) (m c : A) → length (midpoint b m ++ c ∷ []) ≤ 2
one_midpoint true m c = omega arith
one_midpoint false m c = omega arith

round_few : (k x y : ℕ) (m : Midpoints) → length (round (leaf_ring grid_point k x y m)) ≤ 8
round_few k x y m =
    let ring = leaf_ring grid_point k x y m in
    let s = ring.south ++ ring.south_east ∷ [] in
    let e = ring.east ++ ring.north_east ∷ [] in
    let n = ring.north ++ ring.north_west ∷ [] in
    let w = ring.west ++ ring.south_west ∷ [] in
    let south : length s ≤ 2 = one_midpoint m.south _ _ in
    let east : length e ≤ 2 = one_midpoint m.east _ _ in
    let north : length n ≤ 2 = one_midpoint m.north _ _ in
    let west : length w ≤ 2 = one_midpoint m.west _ _ in
    omega (arith, joined s (e ++ (n ++ w)), joined e (n ++ w), joined n w, south, east, north, west)

few_in_leaf : (k x y : ℕ) (m : Midpoints) → length (leaf grid_point k x y m) ≤ 8
few_in_leaf k x y m = omega (arith, fanned (grid_point (line_of k (2 * x + 1)) (line_of k (2 * y + 1))) (leaf_ring grid_point k x y m).south_west (round (leaf_ring grid_point k x y m)), round_few k x y m)

few_leaves : (p : ℕ → ℕ → ℕ → Bool) (m : ℕ → ℕ → ℕ → Midpoints) (k x y : ℕ) → length (leaves grid_point p m k x y) ≤ most k
unfolding most
few_leaves p m zero x y = omega arith
few_leaves p m (suc k) x y =
    let a = leaves grid_point p m k (2 * x) (2 * y) in
    let b = leaves grid_point p m k (2 * x + 1) (2 * y) in
    let c = leaves grid_point p m k (2 * x) (2 * y + 1) in
    let d = leaves grid_point p m k (2 * x + 1) (2 * y + 1) in
    elim (p (suc k) x y) as (λ s. length (if s then a ++ (b ++ (c ++ d)) else leaf grid_point k x y (m (suc k) x y)) ≤ 4 * most k) [
      | true ↦ omega (arith, joined a (b ++ (c ++ d)), joined b (c ++ d), joined c d, few_leaves p m k (2 * x) (2 * y), few_leaves p m k (2 * x + 1) (2 * y), few_leaves p m k (2 * x) (2 * y + 1), few_leaves p m k (2 * x + 1) (2 * y + 1))
      | false ↦ omega (arith, at_least_two k, few_in_leaf k x y (m (suc k) x y))
    ]

few_in_tree : (split : ℕ → ℕ → ℕ → Bool) → length (leaf_triangles split) ≤ 8192
unfolding most leaf_triangles
few_in_tree split = few_leaves split (midpoints_of split) 6 0 0

-- ---- all
few_in_rule : (split : ℕ → ℕ → ℕ → Bool) (kept : Side → List ℕ) → ((side : Side) → length (kept side) ≤ 67) → length (triangles_of split kept) ≤ 8712
unfolding triangles_of
few_in_rule split kept h =
    let s = border_triangles split kept South in
    let e = border_triangles split kept East in
    let n = border_triangles split kept North in
    let w = border_triangles split kept West in
    let l = leaf_triangles split in
    omega (
      arith,
      joined s (e ++ (n ++ (w ++ l))),
      joined e (n ++ (w ++ l)),
      joined n (w ++ l),
      joined w l,
      few_on_border split kept South (h South),
      few_on_border split kept East (h East),
      few_on_border split kept North (h North),
      few_on_border split kept West (h West),
      few_in_tree split,
    )

-- the law
pub few_triangles : (grid : List ℤ) (z : ℕ) → length (mesh_of_grid grid z).triangles ≤ 8712
unfolding mesh_of_grid
few_triangles grid z =
    let tol = tolerance_of z in
    let ts = triangles_of (is_split grid tol) (kept_on grid tol) in
    omega (arith, length-map ts (numbered (first_uses [] (corners ts))), few_in_rule (is_split grid tol) (kept_on grid tol) (λ side. few_kept _ (kept_to_66 (edge_heights grid side) tol)))
