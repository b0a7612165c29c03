-- The numbers of a mesh.
use Rattle.std.proofs.Common.{◌≡◌, ℕ, zero, suc, ◌+◌, ◌<◌, ◌≤◌, arith, Bool, true, false, cond, not, List, [], ◌∷◌, map, take, length, nat_lt, refl, ap, sym, ◌∙◌, subst, inl, inr, None, Some}
use Rattle.std.specs.Prelude.{ℤ, pos, ◌⊎◌, Option, All, Contains, slice_index, slice_index_or, filter_map, position}
use Rattle.std.specs.List.{position_or_len, list_any, AllByRecursion, cons_option}
use Rattle.std.proofs.lemmas.Bool.Decides.{nat_tests}
use Rattle.std.proofs.lemmas.Int.{ints}
use Rattle.std.proofs.lemmas.List.{get_or-map, get_or-take, get_or_past, length-map, length-take}
use Rattle.std.proofs.lemmas.List.Elements.{Contains-get_or}
use Rattle.mesh_plane.specs.Triangles.{Triple}
use Rattle.mesh_plane.specs.Plane.{IsTilePoint}
use Rattle.mesh_plane.proofs.ListWords.{all_from}
use Rattle.mesh_plane.proofs.Scales.{placed}
use Rattle.quad_split.specs.Split.{is_split}
use Rattle.terrain_base.specs.FirstUse as indexes
use Rattle.terrain_base.specs.FirstUse.{IsByFirstUse}
use Rattle.terrain_base.specs.Grid.{tolerance_of}
use Rattle.terrain_base.specs.declared.side.Side.{Side}
use Rattle.terrain_base.specs.declared.side.Side.TheVariants.{West, South, East, North}
use Rattle.tile_mesh.specs.declared.point.GridPoint.{GridPoint}
use Rattle.tile_mesh.specs.declared.point.MeshPoint.{MeshPoint}
use Rattle.tile_mesh.specs.Kept.{RisesTo66}
use Rattle.tile_mesh.specs.Mesh.{vertex_at, edge_of, edge_points, edge_numbers, edge_heights, kept_on, mesh_from, mesh_of_grid}
use Rattle.tile_mesh.specs.MeshNumbers.{IsVertexOnGrid, IsNumbered}
use Rattle.tile_mesh.specs.Numbering.{first_use, ArePoints}
use Rattle.tile_mesh.specs.Numbers.{IsOnGrid, point_eq, first_uses, corners, numbered}
use Rattle.tile_mesh.specs.Rule.{triangles_of}
use Rattle.tile_mesh.specs.Sides.{grid_point}
use Rattle.tile_mesh.proofs.Counts.{few}
use Rattle.tile_mesh.proofs.EdgePoints.{corner_on_grid}
use Rattle.tile_mesh.proofs.FirstUses.{any_to, first_any, place_below, named_is, numbering_law, distinct_firsts}
use Rattle.tile_mesh.proofs.Framing.{triangles_cover}
use Rattle.tile_mesh.proofs.KeptLists.{kept_to_66}
use Rattle.tile_mesh.proofs.Placing as placing
use Rattle.tile_mesh.proofs.Steps.{point_itself}

-- ---- places in a list
first_place : (ps : List GridPoint) (k : ℕ) (d : GridPoint) → k < length ps
    → position_or_len (point_eq (slice_index_or ps k d)) ps ≤ k
first_place [] k d l = absurd (omega (arith, l))
first_place (p ∷ ps) zero d l = rw (point_itself p) (omega arith)
first_place (p ∷ ps) (suc k) d l = go (point_eq (slice_index_or ps k d) p) (first_place ps k d (omega (arith, l)))
  where
    go : (b : Bool) → position_or_len (point_eq (slice_index_or ps k d)) ps ≤ k
        → cond (not b) (1 + position_or_len (point_eq (slice_index_or ps k d)) ps) 0 ≤ suc k
    go true h = omega arith
    go false h = omega (arith, h)

contained : (ps : List GridPoint) (k : ℕ) (d : GridPoint) → k < length ps
    → list_any (point_eq (slice_index_or ps k d)) ps ≡ true
contained ps k d l = any_to (slice_index_or ps k d) ps (Contains-get_or ps k d l)

-- ---- the numbers of all corners
abbrev place_in : List GridPoint → GridPoint → ℕ
place_in ks p = position_or_len (point_eq p) ks

numbers_are : (ks : List GridPoint) (ts : List (Triple GridPoint))
    → indexes.corners (map (numbered ks) ts) ≡ map (place_in ks) (corners ts)
numbers_are ks [] = refl
numbers_are ks (t ∷ ts) = rw (numbers_are ks ts) refl

at_place : (ks cs : List GridPoint) (k : ℕ) → k < length cs
    → slice_index (map (place_in ks) cs) k ≡ place_in ks (slice_index_or cs k (grid_point 0 0))
at_place ks cs k l = get_or-map (place_in ks) cs k (grid_point 0 0) 0 l

-- ---- the first uses of triangles' corners
abbrev firsts : List (Triple GridPoint) → List GridPoint
firsts ts = first_uses [] (corners ts)

abbrev numbers_by : List (Triple GridPoint) → List ℕ
numbers_by ts = map (place_in (firsts ts)) (corners ts)

abbrev origin : GridPoint
origin = grid_point 0 0

-- the vertex of a number
abbrev numbered_point : List (Triple GridPoint) → ℕ → GridPoint
numbered_point ts m = slice_index_or (firsts ts) m origin

is_first : (ts : List (Triple GridPoint)) (m : ℕ) → m < length (firsts ts)
    → list_any (point_eq (numbered_point ts m)) (firsts ts) ≡ true
is_first ts m l = contained (firsts ts) m origin l

is_corner : (ts : List (Triple GridPoint)) (m : ℕ) → m < length (firsts ts)
    → list_any (point_eq (numbered_point ts m)) (corners ts) ≡ true
is_corner ts m l = sym (first_any (numbered_point ts m) (corners ts)) ∙ is_first ts m l

-- a vertex stands at its number alone
own_place : (ts : List (Triple GridPoint)) (m : ℕ) → m < length (firsts ts)
    → place_in (firsts ts) (numbered_point ts m) ≡ m
own_place ts m l = go (nat_lt j m) refl
  where
    j : ℕ
    j = place_in (firsts ts) (numbered_point ts m)

    less : (a b : ℕ) → nat_lt a b ≡ true → a < b
    less a b e = grind (arith, nat_tests)

    not_less : (a b : ℕ) → nat_lt a b ≡ false → a ≤ b → a ≡ b
    not_less a b e h = grind (arith, nat_tests)

    go : (b : Bool) → nat_lt j m ≡ b → place_in (firsts ts) (numbered_point ts m) ≡ m
    go true e =
        let q = numbered_point ts m in let k = place_in (firsts ts) q in
        let before : first_use ts (slice_index_or (firsts ts) k origin) < first_use ts q =
        (numbering_law ts).order k m origin (less k m e) l in
        absurd (omega (arith, before, ap (λ (p : GridPoint). first_use ts p) (named_is q (firsts ts) (is_first ts m l))))
    go false e =
        not_less (place_in (firsts ts) (numbered_point ts m)) m e (first_place (firsts ts) m origin l)

-- the number of a vertex stands where the vertex is used first
used_first : (ts : List (Triple GridPoint)) (m v : ℕ) → m < length (firsts ts)
    → (first_use ts (numbered_point ts m) < length (corners ts))
    × (slice_index_or (numbers_by ts) (first_use ts (numbered_point ts m)) v ≡ m)
used_first ts m v l =
    let q = numbered_point ts m in let f = first_use ts q in
    let below : f < length (corners ts) = place_below q (corners ts) (is_corner ts m l) in (
      below,
      get_or-map (place_in (firsts ts)) (corners ts) f origin v below
          ∙ ap (place_in (firsts ts)) (named_is q (corners ts) (is_corner ts m l)) ∙ own_place ts m l,
    )

-- a number that stands among the first n
in_front : (xs : List ℕ) (n k v : ℕ) → k < n → k < length xs → slice_index_or xs k v ≡ v → Contains (take n xs) v
in_front xs n k v a b e = (k, omega (arith, a, b, length-take n xs), get_or-take n xs k v a ∙ e)

by_first_use : (ts : List (Triple GridPoint)) → IsByFirstUse (length (firsts ts)) (numbers_by ts)
by_first_use ts = record {
  in_order = λ place lower h. ordered place lower h (place_cases place (length (corners ts)));
  used = λ m l.
      let u = used_first ts m m l in
      (first_use ts (numbered_point ts m), omega (arith, u.0, length-map (corners ts) (place_in (firsts ts))), u.1);
}
  where
    place_cases : (a b : ℕ) → (a < b) ⊎ (b ≤ a)
    place_cases a b = go (nat_lt a b) refl
      where
        go : (t : Bool) → nat_lt a b ≡ t → (a < b) ⊎ (b ≤ a)
        go true e = inl (grind (arith, nat_tests))
        go false e = inr (grind (arith, nat_tests))

    ordered : (place lower : ℕ) → lower < slice_index (numbers_by ts) place
        → (place < length (corners ts)) ⊎ (length (corners ts) ≤ place)
        → Contains (take place (numbers_by ts)) lower
    ordered place lower h (inl l) =
        let ks = firsts ts in let p = slice_index_or (corners ts) place origin in let n = place_in ks p in
        let less : lower < n = omega (arith, h, at_place ks (corners ts) place l) in
        let is : list_any (point_eq p) ks ≡ true = first_any p (corners ts) ∙ contained (corners ts) place origin l in
        let below : n < length ks = place_below p ks is in
        let small : lower < length ks = omega (arith, less, below) in
        let before : first_use ts (numbered_point ts lower) < first_use ts (slice_index_or ks n origin) =
        (numbering_law ts).order lower n origin less below in
        let same = ap (λ (q : GridPoint). first_use ts q) (named_is p ks is) in
        let u = used_first ts lower lower small in
        in_front (numbers_by ts) place (first_use ts (numbered_point ts lower)) lower
        (omega (arith, before, same, first_place (corners ts) place origin l))
        (omega (arith, u.0, length-map (corners ts) (place_in ks))) u.1
    ordered place lower h (inr l) =
        absurd (omega (arith, h, get_or_past (numbers_by ts) place 0 (omega (arith, l, length-map (corners ts) (place_in (firsts ts))))))

-- ---- the numbers of an edge's list
numbers_found : (ks ps : List GridPoint)
    → AllByRecursion (λ n. n < length ks) (filter_map (λ p. position (point_eq p) ks) ps)
numbers_found ks [] = tt
numbers_found ks (p ∷ ps) = go (nat_lt (place_in ks p) (length ks)) refl (numbers_found ks ps)
  where
    go : (b : Bool) → nat_lt (place_in ks p) (length ks) ≡ b
        → AllByRecursion (λ n. n < length ks) (filter_map (λ q. position (point_eq q) ks) ps)
        → AllByRecursion (λ n. n < length ks)
        (cons_option (cond b (Some (place_in ks p)) None) (filter_map (λ q. position (point_eq q) ks) ps))
    go true e h = (grind (arith, nat_tests), h)
    go false e h = h

at_most : (h : GridPoint → Option ℕ) (ps : List GridPoint) → length (filter_map h ps) ≤ length ps
at_most h [] = omega arith
at_most h (p ∷ ps) = go (h p) (at_most h ps)
  where
    go : (o : Option ℕ) → length (filter_map h ps) ≤ length ps
        → length (cons_option o (filter_map h ps)) ≤ suc (length ps)
    go None l = omega (arith, l)
    go (Some x) l = omega (arith, l)

edge_within : (ks : List GridPoint) (side : Side) → All (λ n. n < length ks) (edge_numbers ks side)
edge_within ks side =
    all_from (λ n. n < length ks) (edge_numbers ks side) (numbers_found ks (edge_points side))

edge_short : (ks : List GridPoint) (side : Side) → length (edge_numbers ks side) ≤ 67
unfolding edge_points
edge_short ks side = at_most (λ p. position (point_eq p) ks) (edge_points side)

-- ---- the mesh of triangles whose corners lie on the grid
module _ (grid : List ℤ) (ts : List (Triple GridPoint))
    (some_triangle : 0 < length ts)
    (on_grid : (p : GridPoint) → list_any (point_eq p) (corners ts) ≡ true → IsOnGrid p) where
  first_on_grid : (p : GridPoint) → list_any (point_eq p) (firsts ts) ≡ true → IsOnGrid p
  first_on_grid p e = on_grid p (sym (first_any p (corners ts)) ∙ e)

  count : length (map (vertex_at grid) (firsts ts)) ≡ length (firsts ts)
  count = length-map (firsts ts) (vertex_at grid)

  vertex_on_grid : (p : GridPoint) → IsOnGrid p → IsVertexOnGrid (vertex_at grid p)
  vertex_on_grid p h = record { column = h.column; row = h.row }

  vertices_on_grid : All IsVertexOnGrid (map (vertex_at grid) (firsts ts))
  vertices_on_grid k d l =
      let m : k < length (firsts ts) = omega (arith, l, count) in
      subst (λ (v : MeshPoint). IsVertexOnGrid v) (sym (get_or-map (vertex_at grid) (firsts ts) k origin d m))
      (vertex_on_grid (numbered_point ts k) (first_on_grid (numbered_point ts k) (is_first ts k m)))

  few_vertices : length (firsts ts) ≤ 4489
  few_vertices =
      few (firsts ts) (distinct_firsts (corners ts))
      (λ p e. let h = first_on_grid p e in (h.column, h.row))

  some_vertex : 0 < length (firsts ts)
  some_vertex =
      let is = (numbering_law ts).within 0 (record { a = 0; b = 0; c = 0 })
      (omega (arith, some_triangle, length-map ts (numbered (firsts ts)))) in
      omega (arith, is.a)

  edges_within : (side : Side) → All (λ n. n < length (firsts ts)) (edge_of (mesh_from grid ts) side)
  edges_within West = edge_within (firsts ts) West
  edges_within South = edge_within (firsts ts) South
  edges_within East = edge_within (firsts ts) East
  edges_within North = edge_within (firsts ts) North

  edges_short : (side : Side) → length (edge_of (mesh_from grid ts) side) ≤ 67
  edges_short West = edge_short (firsts ts) West
  edges_short South = edge_short (firsts ts) South
  edges_short East = edge_short (firsts ts) East
  edges_short North = edge_short (firsts ts) North

  is_numbered : IsNumbered (mesh_from grid ts)
  is_numbered = record {
    on_grid = vertices_on_grid;
    some = omega (arith, some_vertex, count);
    few = omega (arith, few_vertices, count);
    triangles =
        subst (λ (n : ℕ). All (ArePoints n) (map (numbered (firsts ts)) ts)) (sym count) (numbering_law ts).within;
    edges = λ side.
        subst (λ (n : ℕ). All (λ m. m < n) (edge_of (mesh_from grid ts) side)) (sym count) (edges_within side);
    short = edges_short;
    by_first_use =
        subst (λ (n : ℕ). IsByFirstUse n (indexes.corners (map (numbered (firsts ts)) ts))) (sym count)
        (subst (λ (ns : List ℕ). IsByFirstUse (length (firsts ts)) ns) (sym (numbers_are (firsts ts) ts))
        (by_first_use ts));
  }

-- ---- the mesh of a grid
south_west : IsTilePoint (pos 1) (pos 0) (pos 0)
south_west = record {
  west = omega (arith, ints);
  east = omega (arith, ints);
  south = omega (arith, ints);
  north = omega (arith, ints);
}

-- a triangle holds the south-west corner
some_triangle : (grid : List ℤ) (tol : ℕ) (kept : Side → List ℕ) → ((side : Side) → RisesTo66 (kept side))
    → 0 < length (triangles_of (is_split grid tol) kept)
some_triangle grid tol kept rises =
    let ts = triangles_of (is_split grid tol) kept in
    let held = (triangles_cover grid tol kept rises).full (pos 1) (pos 0) (pos 0) (omega (arith, ints)) south_west in
    omega (arith, held.2, length-map ts (placed placing.place (placing.height grid)))

pub numbered_law : (grid : List ℤ) (z : ℕ) → IsNumbered (mesh_of_grid grid z)
unfolding mesh_of_grid
numbered_law grid z =
    let tol = tolerance_of z in let kept = kept_on grid tol in
    let rises = λ (side : Side). kept_to_66 (edge_heights grid side) tol in
    is_numbered grid (triangles_of (is_split grid tol) kept) (some_triangle grid tol kept rises)
    (corner_on_grid grid tol kept rises)
