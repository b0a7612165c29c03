-- The vertices of an edge's list are its kept points.
use Rattle.std.proofs.Common.{◌≡◌, ℕ, zero, suc, ◌+◌, ◌<◌, ◌≤◌, arith, Bool, true, false, cond, ◌||◌, List, [], ◌∷◌, map, nat_eq, filter, refl, ap, ◌∙◌}
use Rattle.std.specs.Prelude.{ℤ, filter_map, position}
use Rattle.std.specs.List.{list_any, range_with_len, cons_option}
use Rattle.std.proofs.lemmas.Bool.Decides.{nat_tests}
use Rattle.std.proofs.lemmas.Bool.{eqb-true}
use Rattle.quad_split.specs.Split.{is_split}
use Rattle.terrain_base.specs.Grid.{tolerance_of}
use Rattle.terrain_base.specs.declared.side.Side.{Side}
use Rattle.terrain_base.specs.declared.side.Side.TheVariants.{West, South, East, North}
use Rattle.tile_mesh.specs.declared.point.GridPoint.{GridPoint}
use Rattle.tile_mesh.specs.Kept.{Rises, RisesTo66}
use Rattle.tile_mesh.specs.Mesh.{vertex_at, edge_points, edge_heights, edge_numbers, kept_on, mesh_of_grid}
use Rattle.tile_mesh.specs.Numbers.{point_eq, first_uses, corners}
use Rattle.tile_mesh.specs.Plane.{vertex, edge_vertices, kept_vertices}
use Rattle.tile_mesh.specs.Rule.{triangles_of}
use Rattle.tile_mesh.specs.Sides.{outer_at}
use Rattle.tile_mesh.proofs.Corners.{vertex_is}
use Rattle.tile_mesh.proofs.EdgePoints.{corners_are_kept}
use Rattle.tile_mesh.proofs.FirstUses.{first_any}
use Rattle.tile_mesh.proofs.KeptLists.{kept_to_66}
use Rattle.tile_mesh.proofs.Places.{position_found, position_missing}

-- the vertices of those of the points that are found
found_vertices : (grid : List ℤ) (ks : List GridPoint) (f : ℕ → GridPoint) (is : List ℕ)
    → map (vertex (map (vertex_at grid) ks)) (filter_map (λ p. position (point_eq p) ks) (map f is))
    ≡ map (λ i. vertex_at grid (f i)) (filter (λ i. list_any (point_eq (f i)) ks) is)
found_vertices grid ks f [] = refl
found_vertices grid ks f (i ∷ is) = go (list_any (point_eq (f i)) ks) refl (found_vertices grid ks f is)
  where
    go : (b : Bool) → list_any (point_eq (f i)) ks ≡ b
        → map (vertex (map (vertex_at grid) ks)) (filter_map (λ p. position (point_eq p) ks) (map f is))
        ≡ map (λ i. vertex_at grid (f i)) (filter (λ i. list_any (point_eq (f i)) ks) is)
        → map (vertex (map (vertex_at grid) ks)) (cons_option (position (point_eq (f i)) ks) (filter_map (λ p. position (point_eq p) ks) (map f is)))
        ≡ map (λ i. vertex_at grid (f i)) (cond b (i ∷ filter (λ i. list_any (point_eq (f i)) ks) is) (filter (λ i. list_any (point_eq (f i)) ks) is))
    go true e next = rw (position_found (f i) ks e, vertex_is grid (f i) ks e, next) refl
    go false e next = rw (position_missing (f i) ks e) next

-- ---- the numbers of a range that a rising list has
filter_same : (f g : ℕ → Bool) → ((i : ℕ) → f i ≡ g i) → (is : List ℕ) → filter f is ≡ filter g is
filter_same f g h [] = refl
filter_same f g h (i ∷ is) = rw (h i, filter_same f g h is) refl

filter_from : (f g : ℕ → Bool) (a n : ℕ) → ((i : ℕ) → a ≤ i → f i ≡ g i) → filter f (range_with_len a n) ≡ filter g (range_with_len a n)
filter_from f g a zero h = refl
filter_from f g a (suc n) h =
    rw (h a (omega arith), filter_from f g (a + 1) n (λ i l. h i (omega (arith, l)))) refl

-- the list rises, from at least i to below e
abbrev Between : ℕ → List ℕ → ℕ → Type 0
Between i [] e = Unit {0}
Between i (x ∷ xs) e = (i ≤ x) × (x < e) × Between (suc x) xs e

weaker : (i j : ℕ) (xs : List ℕ) (e : ℕ) → i ≤ j → Between j xs e → Between i xs e
weaker i j [] e l h = tt
weaker i j (x ∷ xs) e l h = (omega (arith, l, h.0), h.1, h.2)

same_no : (a b : ℕ) → a < b → nat_eq a b ≡ false
same_no a b h = grind (arith, nat_tests)

other_no : (a b : ℕ) → b < a → nat_eq a b ≡ false
other_no a b h = grind (arith, nat_tests)

apart_numbers : (a b : ℕ) → nat_eq a b ≡ false → a ≤ b → a < b
apart_numbers a b e l = grind (arith, nat_tests)

not_in : (i : ℕ) (xs : List ℕ) (e : ℕ) → Between (suc i) xs e → list_any (nat_eq i) xs ≡ false
not_in i [] e h = refl
not_in i (x ∷ xs) e h =
    ap (λ (b : Bool). b || list_any (nat_eq i) xs) (same_no i x (omega (arith, h.0)))
    ∙ not_in i xs e (weaker (suc i) (suc x) xs e (omega (arith, h.0)) h.2)

none : (a n : ℕ) → filter (λ i. list_any (nat_eq i) []) (range_with_len a n) ≡ []
none a zero = refl
none a (suc n) = none (a + 1) n

picked : (i n : ℕ) (xs : List ℕ) → Between i xs (i + n) → filter (λ j. list_any (nat_eq j) xs) (range_with_len i n) ≡ xs
picked i n [] h = none i n
picked i zero (x ∷ xs) h = absurd (omega (arith, h.0, h.1))
picked i (suc n) (x ∷ xs) h = go (nat_eq i x) refl (picked (i + 1) n xs) (picked (i + 1) n (x ∷ xs))
  where
    mem : ℕ → Bool
    mem j = list_any (nat_eq j) (x ∷ xs)

    ends : i + 1 + n ≡ i + suc n
    ends = omega arith

    go : (b : Bool) → nat_eq i x ≡ b
        → (Between (i + 1) xs (i + 1 + n) → filter (λ j. list_any (nat_eq j) xs) (range_with_len (i + 1) n) ≡ xs)
        → (Between (i + 1) (x ∷ xs) (i + 1 + n) → filter (λ j. list_any (nat_eq j) (x ∷ xs)) (range_with_len (i + 1) n) ≡ x ∷ xs)
        → cond (b || list_any (nat_eq i) xs) (i ∷ filter (λ j. list_any (nat_eq j) (x ∷ xs)) (range_with_len (i + 1) n)) (filter (λ j. list_any (nat_eq j) (x ∷ xs)) (range_with_len (i + 1) n)) ≡ x ∷ xs
    go true e f g =
        let q = eqb-true i x e in
        ap (λ (js : List ℕ). i ∷ js)
        (filter_from (λ j. list_any (nat_eq j) (x ∷ xs)) (λ j. list_any (nat_eq j) xs) (i + 1) n
        (λ j l. ap (λ (b : Bool). b || list_any (nat_eq j) xs) (other_no j x (omega (arith, l, q))))
        ∙ f (rw ends (weaker (i + 1) (suc x) xs (i + suc n) (omega (arith, q)) h.2)))
        ∙ ap (λ (j : ℕ). j ∷ xs) q
    go false e f g =
        let l = apart_numbers i x e h.0 in
        ap (λ (b : Bool). cond b (i ∷ filter (λ j. list_any (nat_eq j) (x ∷ xs)) (range_with_len (i + 1) n)) (filter (λ j. list_any (nat_eq j) (x ∷ xs)) (range_with_len (i + 1) n)))
        (not_in i xs (i + suc n) (weaker (suc i) (suc x) xs (i + suc n) (omega (arith, l)) h.2))
        ∙ g (rw ends (omega (arith, l), h.1, h.2))

rises_between : (a : ℕ) (xs : List ℕ) → Rises a xs 66 → Between (suc a) xs 67
rises_between a [] r = tt
rises_between a (x ∷ xs) r = (r.0, omega (arith, below x xs r.1), rises_between x xs r.1)
  where
    below : (a : ℕ) (xs : List ℕ) → Rises a xs 66 → a ≤ 66
    below a [] r = omega (arith, r)
    below a (x ∷ xs) r = omega (arith, r.0, below x xs r.1)

all_picked : (xs : List ℕ) → RisesTo66 xs → filter (λ j. list_any (nat_eq j) xs) (range_with_len 0 67) ≡ xs
all_picked [] r = elim r [ ]
all_picked (x ∷ xs) r =
    picked 0 67 (x ∷ xs) (omega (arith, r.0), omega (arith, r.0), weaker (suc x) 1 xs 67 (omega (arith, r.0)) (rises_between 0 xs r.1))

-- ---- an edge's list
edge_is : (grid : List ℤ) (ks : List GridPoint) (side : Side)
    → map (vertex (map (vertex_at grid) ks)) (edge_numbers ks side)
    ≡ map (λ i. vertex_at grid (outer_at side i)) (filter (λ i. list_any (point_eq (outer_at side i)) ks) (range_with_len 0 67))
unfolding edge_points
edge_is grid ks side = found_vertices grid ks (outer_at side) (range_with_len 0 67)

kept_is : (grid : List ℤ) (tol : ℕ) (side : Side)
    → map (vertex (map (vertex_at grid) (first_uses [] (corners (triangles_of (is_split grid tol) (kept_on grid tol))))))
    (edge_numbers (first_uses [] (corners (triangles_of (is_split grid tol) (kept_on grid tol)))) side)
    ≡ kept_vertices grid tol side
kept_is grid tol side =
    let cs = corners (triangles_of (is_split grid tol) (kept_on grid tol)) in let ks = first_uses [] cs in
    let rises = λ (s : Side). kept_to_66 (edge_heights grid s) tol in
    edge_is grid ks side
    ∙ ap (λ (is : List ℕ). map (λ i. vertex_at grid (outer_at side i)) is)
    (filter_same (λ i. list_any (point_eq (outer_at side i)) ks) (λ i. list_any (nat_eq i) (kept_on grid tol side))
    (λ i. first_any (outer_at side i) cs ∙ corners_are_kept grid tol (kept_on grid tol) rises side i) (range_with_len 0 67)
    ∙ all_picked (kept_on grid tol side) (rises side))

pub edges_are_kept : (grid : List ℤ) (z : ℕ) (side : Side)
    → edge_vertices (mesh_of_grid grid z) side ≡ kept_vertices grid (tolerance_of z) side
unfolding mesh_of_grid
edges_are_kept grid z West = kept_is grid (tolerance_of z) West
edges_are_kept grid z South = kept_is grid (tolerance_of z) South
edges_are_kept grid z East = kept_is grid (tolerance_of z) East
edges_are_kept grid z North = kept_is grid (tolerance_of z) North
