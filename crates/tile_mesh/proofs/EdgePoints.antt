-- The grid points of an edge that are corners of triangles are its kept points.
use Rattle.std.proofs.Common.{◌≡◌, ℕ, ◌<◌, ◌≤◌, arith, Bool, true, false, ◌||◌, List, [], ◌∷◌, ◌++◌, map, nat_eq, nat_le, refl, ap, sym, ◌∙◌, subst, inl, inr}
use Rattle.std.specs.Prelude.{ℤ, pos, ◌≤ℤ◌, ◌⊎◌}
use Rattle.std.specs.List.{list_any, AllByRecursion}
use Rattle.std.proofs.lemmas.Int.{ints}
use Rattle.std.proofs.lemmas.Bool.{eqb-true, or_left, or_right, or_cases, leb-true, leb-false}
use Rattle.common_laws.proofs.Lists.{all_append}
use Rattle.common_laws.proofs.Orders.{equal_itself}
use Rattle.mesh_plane.specs.Plane.{Point}
use Rattle.mesh_plane.specs.Triangles.{Triple, Step, Outer, Inner, cornered, strip}
use Rattle.mesh_plane.specs.Fan.{InRect}
use Rattle.mesh_plane.proofs.Tilings.{IsCcw, Held}
use Rattle.mesh_plane.proofs.Edges.{meets_a, meets_b, meets_c}
use Rattle.mesh_plane.proofs.StripHeights.{outers}
use Rattle.quad_split.specs.Split.{is_split}
use Rattle.terrain_base.specs.declared.side.Side.{Side}
use Rattle.terrain_base.specs.declared.side.Side.TheVariants.{West, South, East, North}
use Rattle.tile_mesh.specs.declared.point.GridPoint.{GridPoint}
use Rattle.tile_mesh.specs.Kept.{Rises, RisesTo66}
use Rattle.tile_mesh.specs.Merge.{merge}
use Rattle.tile_mesh.specs.Numbers.{IsOnGrid, point_eq, corners}
use Rattle.tile_mesh.specs.Rule.{strip_triangles, border_split, leaf_ends, inner_points, leaf_triangles, border_triangles, triangles_of}
use Rattle.tile_mesh.specs.Sides.{outer_at, inner_at, step_at}
use Rattle.tile_mesh.proofs.BorderLines.{ends_rise}
use Rattle.tile_mesh.proofs.FirstUses.{points_equal}
use Rattle.tile_mesh.proofs.Framing.{inner_box, border_is, leaves_tiled}
use Rattle.tile_mesh.proofs.KeptLists.{within}
use Rattle.tile_mesh.proofs.MergeOrder.{merge_each}
use Rattle.tile_mesh.proofs.Merges.{merge_outers}
use Rattle.tile_mesh.proofs.Placing.{height, at, line, line_up}
use Rattle.tile_mesh.proofs.Steps.{point_itself}

-- ---- what holds of all corners of triangles
abbrev Each : (GridPoint → Type 0) → List (Triple GridPoint) → Type 0
Each P ts = AllByRecursion (λ t. P t.a × P t.b × P t.c) ts

each_found : (P : GridPoint → Type 0) (p : GridPoint) (ts : List (Triple GridPoint)) → Each P ts
    → list_any (point_eq p) (corners ts) ≡ true → P p
each_found P p [] h e = absurd (let z = e in cc)
each_found P p (t ∷ ts) h e = first (or_cases (point_eq p t.a) _ e) (each_found P p ts h.1)
  where
    same : (q : GridPoint) → point_eq p q ≡ true → P q → P p
    same q e x = subst (λ (r : GridPoint). P r) (sym (points_equal p q e)) x

    third : (point_eq p t.c ≡ true) ⊎ (list_any (point_eq p) (corners ts) ≡ true)
        → (list_any (point_eq p) (corners ts) ≡ true → P p) → P p
    third (inl e) next = same t.c e h.0.2
    third (inr e) next = next e

    second : (point_eq p t.b ≡ true) ⊎ ((point_eq p t.c || list_any (point_eq p) (corners ts)) ≡ true)
        → (list_any (point_eq p) (corners ts) ≡ true → P p) → P p
    second (inl e) next = same t.b e h.0.1
    second (inr e) next = third (or_cases (point_eq p t.c) _ e) next

    first : (point_eq p t.a ≡ true) ⊎ ((point_eq p t.b || (point_eq p t.c || list_any (point_eq p) (corners ts))) ≡ true)
        → (list_any (point_eq p) (corners ts) ≡ true → P p) → P p
    first (inl e) next = same t.a e h.0.0
    first (inr e) next = second (or_cases (point_eq p t.b) _ e) next

step_point : Step GridPoint → GridPoint
step_point (Outer p) = p
step_point (Inner p) = p

each_cornered : (P : GridPoint → Type 0) (side : Side) (o n x : GridPoint) → P o → P n → P x
    → P (cornered side o n x).a × P (cornered side o n x).b × P (cornered side o n x).c
each_cornered P South o n x a b c = (a, c, b)
each_cornered P East o n x a b c = (a, c, b)
each_cornered P North o n x a b c = (a, b, c)
each_cornered P West o n x a b c = (a, b, c)

abbrev OfStep : (GridPoint → Type 0) → Step GridPoint → Type 0
OfStep P (Outer p) = P p
OfStep P (Inner p) = P p

each_strip : (P : GridPoint → Type 0) (side : Side) (o n : GridPoint) (steps : List (Step GridPoint)) → P o → P n
    → AllByRecursion (OfStep P) steps → Each P (strip side o n steps)
each_strip P side o n [] a b h = tt
each_strip P side o n (Outer x ∷ steps) a b h =
    (each_cornered P side o n x a b h.0, each_strip P side x n steps h.0 b h.1)
each_strip P side o n (Inner x ∷ steps) a b h =
    (each_cornered P side o n x a b h.0, each_strip P side o x steps a h.0 h.1)

placed_each : (P : GridPoint → Type 0) (side : Side) (steps : List (Step ℕ))
    → AllByRecursion (λ step. OfStep P (step_at side step)) steps → AllByRecursion (OfStep P) (map (step_at side) steps)
placed_each P side [] h = tt
placed_each P side (s ∷ steps) h = (h.0, placed_each P side steps h.1)

-- ---- the points inside
pub record IsInside (p : GridPoint) : Type 0 where
  pub west : 1 ≤ p.i
  pub south : 1 ≤ p.j
  pub east : p.i ≤ 65
  pub north : p.j ≤ 65

inner_inside : (side : Side) (i : ℕ) → 1 ≤ i → i ≤ 65 → IsInside (inner_at side i)
inner_inside West i l h = record { west = omega arith; south = l; east = omega arith; north = h }
inner_inside South i l h = record { west = l; south = omega arith; east = h; north = omega arith }
inner_inside East i l h = record { west = omega arith; south = l; east = omega arith; north = h }
inner_inside North i l h = record { west = l; south = omega arith; east = h; north = omega arith }

outer_outside : (side : Side) (i : ℕ) → IsInside (outer_at side i) → ⊥
outer_outside West i h = omega (arith, h.west)
outer_outside South i h = omega (arith, h.south)
outer_outside East i h = omega (arith, h.east)
outer_outside North i h = omega (arith, h.north)

outer_on_grid : (side : Side) (i : ℕ) → i ≤ 66 → IsOnGrid (outer_at side i)
outer_on_grid West i l = record { column = omega arith; row = l }
outer_on_grid South i l = record { column = l; row = omega arith }
outer_on_grid East i l = record { column = omega arith; row = l }
outer_on_grid North i l = record { column = l; row = omega arith }

-- ---- points of edges
meet : (side other : Side) (i x : ℕ) → outer_at side i ≡ outer_at other x → ((side ≡ other) × (i ≡ x)) ⊎ ((i ≡ 0) ⊎ (i ≡ 66))
meet South South i x e = inl (refl, ap (λ (p : GridPoint). p.i) e)
meet West West i x e = inl (refl, ap (λ (p : GridPoint). p.j) e)
meet North North i x e = inl (refl, ap (λ (p : GridPoint). p.i) e)
meet East East i x e = inl (refl, ap (λ (p : GridPoint). p.j) e)
meet South West i x e = inr (inl (ap (λ (p : GridPoint). p.i) e))
meet South East i x e = inr (inr (ap (λ (p : GridPoint). p.i) e))
meet South North i x e = absurd (omega (arith, ap (λ (p : GridPoint). p.j) e))
meet North West i x e = inr (inl (ap (λ (p : GridPoint). p.i) e))
meet North East i x e = inr (inr (ap (λ (p : GridPoint). p.i) e))
meet North South i x e = absurd (omega (arith, ap (λ (p : GridPoint). p.j) e))
meet West South i x e = inr (inl (ap (λ (p : GridPoint). p.j) e))
meet West North i x e = inr (inr (ap (λ (p : GridPoint). p.j) e))
meet West East i x e = absurd (omega (arith, ap (λ (p : GridPoint). p.i) e))
meet East South i x e = inr (inl (ap (λ (p : GridPoint). p.j) e))
meet East North i x e = inr (inr (ap (λ (p : GridPoint). p.j) e))
meet East West i x e = absurd (omega (arith, ap (λ (p : GridPoint). p.i) e))

-- ---- the kept points of an edge
abbrev pub Has : List ℕ → ℕ → Type 0
Has xs i = list_any (nat_eq i) xs ≡ true

has_last : (a b : ℕ) (xs : List ℕ) → Rises a xs b → a < b → Has xs b
has_last a b [] h l = absurd (omega (arith, h, l))
has_last a b (x ∷ []) h l = or_left (nat_eq b x) false (ap (nat_eq b) h.1 ∙ equal_itself b)
has_last a b (x ∷ y ∷ ys) h l =
    or_right (nat_eq b x) _ (has_last x b (y ∷ ys) h.1 (omega (arith, h.1.0, rises_le y b ys h.1.1)))
  where
    rises_le : (a b : ℕ) (xs : List ℕ) → Rises a xs b → a ≤ b
    rises_le a b [] h = omega (arith, h)
    rises_le a b (x ∷ xs) h = omega (arith, h.0, rises_le x b xs h.1)

has_ends : (xs : List ℕ) → RisesTo66 xs → Has xs 0 × Has xs 66
has_ends [] h = elim h [ ]
has_ends (x ∷ xs) h = (
  or_left (nat_eq 0 x) _ (ap (nat_eq 0) h.0 ∙ equal_itself 0),
  or_right (nat_eq 66 x) _ (has_last 0 66 xs h.1 (omega arith)),
)

has_each : (P : ℕ → Type 0) (all xs : List ℕ) → ((i : ℕ) → Has all i → P i) → ((i : ℕ) → Has xs i → Has all i)
    → AllByRecursion P xs
has_each P all [] f g = tt
has_each P all (x ∷ xs) f g = (
  f x (g x (or_left (nat_eq x x) _ (equal_itself x))),
  has_each P all xs f (λ i h. g i (or_right (nat_eq i x) _ h)),
)

each_has : (P : ℕ → Type 0) (xs : List ℕ) (i : ℕ) → AllByRecursion P xs → Has xs i → P i
each_has P [] i h e = absurd (let z = e in cc)
each_has P (x ∷ xs) i h e = go (or_cases (nat_eq i x) _ e) (each_has P xs i h.1)
  where
    go : (nat_eq i x ≡ true) ⊎ Has xs i → (Has xs i → P i) → P i
    go (inl e) f = subst P (sym (eqb-true i x e)) h.0
    go (inr k) f = f k

-- ---- the corners of a strip
of_strip : (P : GridPoint → Type 0) (side : Side) (kept ends : List ℕ)
    → ((i : ℕ) → Has kept i → P (outer_at side i)) → P (inner_at side 1) → AllByRecursion (λ i. P (inner_at side i)) ends
    → Each P (strip_triangles side kept (1 ∷ ends))
of_strip P side [] ends f a g = tt
of_strip P side (x ∷ xs) ends f a g =
    each_strip P side (outer_at side x) (inner_at side 1) (map (step_at side) (merge xs ends))
    (f x (or_left (nat_eq x x) _ (equal_itself x))) a
    (placed_each P side (merge xs ends)
    (merge_each (λ step. OfStep P (step_at side step)) xs ends
    (has_each (λ i. P (outer_at side i)) (x ∷ xs) xs f (λ i h. or_right (nat_eq i x) _ h)) g))

-- what lies inside, or is a kept point of an edge
abbrev IsAllowed : (Side → List ℕ) → GridPoint → Type 0
IsAllowed kept p = IsInside p ⊎ ((side : Side) × (i : ℕ) × Has (kept side) i × (outer_at side i ≡ p))

inside_ends : (side : Side) (a : ℕ) (xs : List ℕ) (kept : Side → List ℕ) → 1 ≤ a → Rises a xs 65
    → AllByRecursion (λ i. IsAllowed kept (inner_at side i)) xs
inside_ends side a [] kept l r = tt
inside_ends side a (x ∷ xs) kept l r = (
  inl (inner_inside side x (omega (arith, l, r.0)) (rises_le x 65 xs r.1)),
  inside_ends side x xs kept (omega (arith, l, r.0)) r.1,
)
  where
    rises_le : (a b : ℕ) (xs : List ℕ) → Rises a xs b → a ≤ b
    rises_le a b [] h = omega (arith, h)
    rises_le a b (x ∷ xs) h = omega (arith, h.0, rises_le x b xs h.1)

module _ (grid : List ℤ) (tol : ℕ) (kept : Side → List ℕ) (rises : (side : Side) → RisesTo66 (kept side)) where
  border_allowed : (side : Side) → Each (IsAllowed kept) (border_triangles (is_split grid tol) kept side)
  unfolding border_triangles inner_points
  border_allowed side =
      of_strip (IsAllowed kept) side (kept side) (leaf_ends (border_split (is_split grid tol) side) 6 0)
      (λ i h. inr (side, i, h, refl)) (inl (inner_inside side 1 (omega arith) (omega arith)))
      (inside_ends side 1 (leaf_ends (border_split (is_split grid tol) side) 6 0) kept (omega arith)
      (ends_rise (border_split (is_split grid tol) side) 6 0))

  one : pos 1 ≤ℤ pos 1
  one = omega (arith, ints)

  -- a point in the inner square
  not_less : (i j : ℕ) → line grid (pos 1) i ≤ℤ line grid (pos 1) j → i ≤ j
  not_less i j h = go (nat_le i j) refl
    where
      go : (b : Bool) → nat_le i j ≡ b → i ≤ j
      go true e = leb-true i j e
      go false e = absurd (omega (arith, ints, h, line_up grid (pos 1) one j i (leb-false i j e)))

  in_square : (p : GridPoint) → InRect (inner_box grid (pos 1) one) (at grid (pos 1) p) → IsAllowed kept p
  in_square p r = inl (record {
    west = not_less 1 p.i r.west;
    south = not_less 1 p.j r.south;
    east = not_less p.i 65 r.east;
    north = not_less p.j 65 r.north;
  })

  corners_held : (ts : List (Triple GridPoint)) → AllByRecursion (IsCcw (at grid (pos 1))) ts
      → ((p : Point) → Held (at grid (pos 1)) p ts → InRect (inner_box grid (pos 1) one) p) → Each (IsAllowed kept) ts
  corners_held [] c f = tt
  corners_held (t ∷ ts) c f =
      let a = at grid (pos 1) in let z = height grid in (
        (
          in_square t.a (f (a t.a) (inl (meets_a a z t c.0).holds)),
          in_square t.b (f (a t.b) (inl (meets_b a z t c.0).holds)),
          in_square t.c (f (a t.c) (inl (meets_c a z t c.0).holds)),
        ),
        corners_held ts c.1 (λ p h. f p (inr h)),
      )

  leaves_allowed : Each (IsAllowed kept) (leaf_triangles (is_split grid tol))
  leaves_allowed =
      let t = leaves_tiled grid (pos 1) one tol kept rises in
      corners_held (leaf_triangles (is_split grid tol)) t.ccw t.within

  all_allowed : Each (IsAllowed kept) (triangles_of (is_split grid tol) kept)
  unfolding triangles_of
  all_allowed =
      let b = border_triangles (is_split grid tol) kept in let P = λ (t : Triple GridPoint). IsAllowed kept t.a × IsAllowed kept t.b × IsAllowed kept t.c in
      all_append P (b South) _ (border_allowed South)
      (all_append P (b East) _ (border_allowed East)
      (all_append P (b North) _ (border_allowed North) (all_append P (b West) _ (border_allowed West) leaves_allowed)))

  -- a point of an edge that is a corner is kept
  pub corner_is_kept : (side : Side) (i : ℕ)
      → list_any (point_eq (outer_at side i)) (corners (triangles_of (is_split grid tol) kept)) ≡ true → Has (kept side) i
  corner_is_kept side i e =
      go (each_found (IsAllowed kept) (outer_at side i) (triangles_of (is_split grid tol) kept) all_allowed e)
    where
      which : (other : Side) (x : ℕ) → Has (kept other) x → ((side ≡ other) × (i ≡ x)) ⊎ ((i ≡ 0) ⊎ (i ≡ 66)) → Has (kept side) i
      which other x h (inl q) =
          subst (λ (s : Side). Has (kept s) i) (sym q.0) (subst (λ (j : ℕ). Has (kept other) j) (sym q.1) h)
      which other x h (inr (inl q)) = subst (λ (j : ℕ). Has (kept side) j) (sym q) (has_ends (kept side) (rises side)).0
      which other x h (inr (inr q)) = subst (λ (j : ℕ). Has (kept side) j) (sym q) (has_ends (kept side) (rises side)).1

      go : IsAllowed kept (outer_at side i) → Has (kept side) i
      go (inl h) = absurd (outer_outside side i h)
      go (inr (other, x, h, f)) = which other x h (meet side other i x (sym f))

  -- each corner lies on the grid
  pub corner_on_grid : (p : GridPoint)
      → list_any (point_eq p) (corners (triangles_of (is_split grid tol) kept)) ≡ true → IsOnGrid p
  corner_on_grid p e = go (each_found (IsAllowed kept) p (triangles_of (is_split grid tol) kept) all_allowed e)
    where
      go : IsAllowed kept p → IsOnGrid p
      go (inl h) = record { column = omega (arith, h.east); row = omega (arith, h.north) }
      go (inr (side, i, h, f)) =
          subst (λ (q : GridPoint). IsOnGrid q) f
          (outer_on_grid side i (each_has (λ x. x ≤ 66) (kept side) i (within (kept side) (rises side)) h))

-- ---- a kept point is a corner
abbrev pub Found : GridPoint → List (Triple GridPoint) → Type 0
Found p ts = list_any (point_eq p) (corners ts) ≡ true

here : (p a b c : GridPoint) (cs : List GridPoint) → (p ≡ a) ⊎ (p ≡ b) ⊎ (p ≡ c)
    → list_any (point_eq p) (a ∷ b ∷ c ∷ cs) ≡ true
here p a b c cs (inl e) = or_left (point_eq p a) _ (ap (point_eq p) (sym e) ∙ point_itself p)
here p a b c cs (inr (inl e)) =
    or_right (point_eq p a) _ (or_left (point_eq p b) _ (ap (point_eq p) (sym e) ∙ point_itself p))
here p a b c cs (inr (inr e)) =
    or_right (point_eq p a) _ (or_right (point_eq p b) _
    (or_left (point_eq p c) _ (ap (point_eq p) (sym e) ∙ point_itself p)))

there : (p a b c : GridPoint) (cs : List GridPoint) → list_any (point_eq p) cs ≡ true
    → list_any (point_eq p) (a ∷ b ∷ c ∷ cs) ≡ true
there p a b c cs h = or_right (point_eq p a) _ (or_right (point_eq p b) _ (or_right (point_eq p c) _ h))

here_outer : (side : Side) (o n x : GridPoint) (ts : List (Triple GridPoint)) → Found o (cornered side o n x ∷ ts)
here_outer South o n x ts = here o o x n (corners ts) (inl refl)
here_outer East o n x ts = here o o x n (corners ts) (inl refl)
here_outer North o n x ts = here o o n x (corners ts) (inl refl)
here_outer West o n x ts = here o o n x (corners ts) (inl refl)

here_next : (side : Side) (o n x : GridPoint) (ts : List (Triple GridPoint)) → Found x (cornered side o n x ∷ ts)
here_next South o n x ts = here x o x n (corners ts) (inr (inl refl))
here_next East o n x ts = here x o x n (corners ts) (inr (inl refl))
here_next North o n x ts = here x o n x (corners ts) (inr (inr refl))
here_next West o n x ts = here x o n x (corners ts) (inr (inr refl))

pub found_outers : (p : GridPoint) (side : Side) (o n : GridPoint) (steps : List (Step GridPoint))
    → list_any (point_eq p) (outers steps) ≡ true → Found p (strip side o n steps)
found_outers p side o n [] h = absurd (let z = h in cc)
found_outers p side o n (Outer x ∷ steps) h =
    go (or_cases (point_eq p x) _ h) (found_outers p side x n steps)
  where
    go : (point_eq p x ≡ true) ⊎ (list_any (point_eq p) (outers steps) ≡ true)
        → (list_any (point_eq p) (outers steps) ≡ true → Found p (strip side x n steps))
        → Found p (strip side o n (Outer x ∷ steps))
    go (inl e) f =
        subst (λ (q : GridPoint). Found q (strip side o n (Outer x ∷ steps))) (sym (points_equal p x e))
        (here_next side o n x (strip side x n steps))
    go (inr e) f = there p _ _ _ (corners (strip side x n steps)) (f e)
found_outers p side o n (Inner x ∷ steps) h =
    there p _ _ _ (corners (strip side o x steps)) (found_outers p side o x steps h)

pub placed_outers : (side : Side) (steps : List (Step ℕ)) → outers (map (step_at side) steps) ≡ map (outer_at side) (outers steps)
placed_outers side [] = refl
placed_outers side (Outer x ∷ steps) = ap (λ (ps : List GridPoint). outer_at side x ∷ ps) (placed_outers side steps)
placed_outers side (Inner x ∷ steps) = placed_outers side steps

has_placed : (side : Side) (i : ℕ) (xs : List ℕ) → Has xs i → list_any (point_eq (outer_at side i)) (map (outer_at side) xs) ≡ true
has_placed side i [] h = absurd (let z = h in cc)
has_placed side i (x ∷ xs) h = go (or_cases (nat_eq i x) _ h) (has_placed side i xs)
  where
    go : (nat_eq i x ≡ true) ⊎ Has xs i → (Has xs i → list_any (point_eq (outer_at side i)) (map (outer_at side) xs) ≡ true)
        → (point_eq (outer_at side i) (outer_at side x) || list_any (point_eq (outer_at side i)) (map (outer_at side) xs)) ≡ true
    go (inl e) f =
        or_left (point_eq (outer_at side i) (outer_at side x)) _
        (ap (λ (j : ℕ). point_eq (outer_at side i) (outer_at side j)) (sym (eqb-true i x e)) ∙ point_itself (outer_at side i))
    go (inr h) f = or_right (point_eq (outer_at side i) (outer_at side x)) _ (f h)

module _ (grid : List ℤ) (tol : ℕ) (kept : Side → List ℕ) (rises : (side : Side) → RisesTo66 (kept side)) where
  begins : (side : Side) → Found (outer_at side 0) (border_triangles (is_split grid tol) kept side)
  begins side =
      let s = border_is grid (pos 1) (one grid tol kept rises) tol kept rises side in
      subst (λ (ts : List (Triple GridPoint)). Found (outer_at side 0) ts) (sym s.list) (go s.first s.rest)
    where
      go : (t : Step GridPoint) (rest : List (Step GridPoint))
          → Found (outer_at side 0) (strip side (outer_at side 0) (inner_at side 1) (t ∷ rest))
      go (Outer x) rest = here_outer side (outer_at side 0) (inner_at side 1) x _
      go (Inner x) rest = here_outer side (outer_at side 0) (inner_at side 1) x _

  found_in : (side : Side) (xs ends : List ℕ) (i : ℕ) → Has xs i → RisesTo66 xs
      → (i ≡ 0) ⊎ Found (outer_at side i) (strip_triangles side xs (1 ∷ ends))
  found_in side [] ends i h r = elim r [ ]
  found_in side (x ∷ xs) ends i h r = go (or_cases (nat_eq i x) _ h)
    where
      go : (nat_eq i x ≡ true) ⊎ Has xs i
          → (i ≡ 0) ⊎ Found (outer_at side i) (strip_triangles side (x ∷ xs) (1 ∷ ends))
      go (inl e) = inl (eqb-true i x e ∙ r.0)
      go (inr k) =
          inr (found_outers (outer_at side i) side (outer_at side x) (inner_at side 1) (map (step_at side) (merge xs ends))
          (ap (list_any (point_eq (outer_at side i)))
          (placed_outers side (merge xs ends) ∙ ap (λ (os : List ℕ). map (outer_at side) os) (merge_outers xs ends))
          ∙ has_placed side i xs k))

  pub kept_in_border : (side : Side) (i : ℕ) → Has (kept side) i
      → Found (outer_at side i) (border_triangles (is_split grid tol) kept side)
  unfolding border_triangles inner_points
  kept_in_border side i h =
      go (found_in side (kept side) (leaf_ends (border_split (is_split grid tol) side) 6 0) i h (rises side))
    where
      go : (i ≡ 0) ⊎ Found (outer_at side i) (strip_triangles side (kept side) (1 ∷ leaf_ends (border_split (is_split grid tol) side) 6 0))
          → Found (outer_at side i) (border_triangles (is_split grid tol) kept side)
      go (inl e) =
          subst (λ (j : ℕ). Found (outer_at side j) (border_triangles (is_split grid tol) kept side)) (sym e) (begins side)
      go (inr f) = f

  left : (p : GridPoint) (ts us : List (Triple GridPoint)) → Found p ts → Found p (ts ++ us)
  left p [] us h = absurd (let z = h in cc)
  left p (t ∷ ts) us h =
      go (or_cases (point_eq p t.a) _ h) (left p ts us)
    where
      go : (point_eq p t.a ≡ true) ⊎ ((point_eq p t.b || (point_eq p t.c || list_any (point_eq p) (corners ts))) ≡ true)
          → (Found p ts → Found p (ts ++ us)) → Found p (t ∷ (ts ++ us))
      go (inl e) f = or_left (point_eq p t.a) _ e
      go (inr e) f = or_right (point_eq p t.a) _ (second (or_cases (point_eq p t.b) _ e))
        where
          third : (point_eq p t.c ≡ true) ⊎ Found p ts → (point_eq p t.c || list_any (point_eq p) (corners (ts ++ us))) ≡ true
          third (inl e) = or_left (point_eq p t.c) _ e
          third (inr e) = or_right (point_eq p t.c) _ (f e)

          second : (point_eq p t.b ≡ true) ⊎ ((point_eq p t.c || list_any (point_eq p) (corners ts)) ≡ true)
              → (point_eq p t.b || (point_eq p t.c || list_any (point_eq p) (corners (ts ++ us)))) ≡ true
          second (inl e) = or_left (point_eq p t.b) _ e
          second (inr e) = or_right (point_eq p t.b) _ (third (or_cases (point_eq p t.c) _ e))

  right : (p : GridPoint) (ts us : List (Triple GridPoint)) → Found p us → Found p (ts ++ us)
  right p [] us h = h
  right p (t ∷ ts) us h = there p t.a t.b t.c (corners (ts ++ us)) (right p ts us h)

  pub kept_is_corner : (side : Side) (i : ℕ) → Has (kept side) i
      → list_any (point_eq (outer_at side i)) (corners (triangles_of (is_split grid tol) kept)) ≡ true
  unfolding triangles_of
  kept_is_corner South i h = left (outer_at South i) (border_triangles (is_split grid tol) kept South) _ (kept_in_border South i h)
  kept_is_corner East i h =
      let b = border_triangles (is_split grid tol) kept in
      right (outer_at East i) (b South) _ (left (outer_at East i) (b East) _ (kept_in_border East i h))
  kept_is_corner North i h =
      let b = border_triangles (is_split grid tol) kept in
      right (outer_at North i) (b South) _ (right (outer_at North i) (b East) _
      (left (outer_at North i) (b North) _ (kept_in_border North i h)))
  kept_is_corner West i h =
      let b = border_triangles (is_split grid tol) kept in
      right (outer_at West i) (b South) _ (right (outer_at West i) (b East) _
      (right (outer_at West i) (b North) _ (left (outer_at West i) (b West) _ (kept_in_border West i h))))

  both : (a b : Bool) → (a ≡ true → b ≡ true) → (b ≡ true → a ≡ true) → a ≡ b
  both true b f g = sym (f refl)
  both false true f g = g refl
  both false false f g = refl

  pub corners_are_kept : (side : Side) (i : ℕ)
      → list_any (point_eq (outer_at side i)) (corners (triangles_of (is_split grid tol) kept)) ≡ list_any (nat_eq i) (kept side)
  corners_are_kept side i = both _ _ (corner_is_kept grid tol kept rises side i) (kept_is_corner side i)
