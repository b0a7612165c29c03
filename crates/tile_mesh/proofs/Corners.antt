-- The vertices of a numbered triangle are its corners.
use Rattle.std.proofs.Common.{◌≡◌, ℕ, suc, ◌+◌, arith, Bool, true, false, not, cond, ◌&&◌, ◌||◌, List, [], ◌∷◌, map, nat_eq, refl, ap, sym, ◌∙◌}
use Rattle.std.specs.Prelude.{ℤ}
use Rattle.std.specs.List.{position_or_len, list_any}
use Rattle.std.proofs.lemmas.Bool.Decides.{nat_tests}
use Rattle.mesh_plane.specs.Triangles.{Triple}
use Rattle.mesh_plane.proofs.Scales.{placed}
use Rattle.tile_mesh.specs.declared.point.GridPoint.{GridPoint}
use Rattle.tile_mesh.specs.declared.point.MeshPoint.{MeshPoint}
use Rattle.tile_mesh.specs.Mesh.{vertex_at, mesh_from}
use Rattle.tile_mesh.specs.Numbers.{point_eq, first_uses, corners, numbered, with_point, with_points}
use Rattle.tile_mesh.specs.Plane.{vertex, triangle_of, triangles_in}
use Rattle.tile_mesh.proofs.Placing.{place, height}
use Rattle.tile_mesh.proofs.Steps.{keys_after, found_key, found_on}

pub same_numbers : (a b c d : ℕ) → (nat_eq a c && nat_eq b d) ≡ true → (a ≡ c) × (b ≡ d)
same_numbers a b c d e = (grind (arith, nat_tests), grind (arith, nat_tests))

same_vertex : (grid : List ℤ) (p q : GridPoint) → point_eq p q ≡ true → vertex_at grid q ≡ vertex_at grid p
same_vertex grid p q e =
    let s = same_numbers p.i p.j q.i q.j e in
    ap (λ (i : ℕ). vertex_at grid (record { i = i; j = q.j })) (sym s.0)
    ∙ ap (λ (j : ℕ). vertex_at grid (record { i = p.i; j = j })) (sym s.1)

later : (x : MeshPoint) (xs : List MeshPoint) (n : ℕ) → vertex (x ∷ xs) (1 + n) ≡ vertex xs n
later x xs n = let e : 1 + n ≡ suc n = omega arith in ap (vertex (x ∷ xs)) e

-- the vertex at the place of a point that is found
pub vertex_is : (grid : List ℤ) (p : GridPoint) (ks : List GridPoint) → list_any (point_eq p) ks ≡ true
    → vertex (map (vertex_at grid) ks) (position_or_len (point_eq p) ks) ≡ vertex_at grid p
vertex_is grid p [] h = absurd (let z = h in cc)
vertex_is grid p (k ∷ ks) h = go (point_eq p k) refl h (vertex_is grid p ks)
  where
    go : (b : Bool) → point_eq p k ≡ b → (b || list_any (point_eq p) ks) ≡ true
        → (list_any (point_eq p) ks ≡ true
        → vertex (map (vertex_at grid) ks) (position_or_len (point_eq p) ks) ≡ vertex_at grid p)
        → vertex (vertex_at grid k ∷ map (vertex_at grid) ks) (cond (not b) ((1 + position_or_len (point_eq p) ks)) 0)
        ≡ vertex_at grid p
    go true e f next = same_vertex grid p k e
    go false e f next =
        later (vertex_at grid k) (map (vertex_at grid) ks) (position_or_len (point_eq p) ks) ∙ next f

-- ---- all corners are found
abbrev pub AreFound : List GridPoint → List (Triple GridPoint) → Type 0
AreFound ks [] = Unit {0}
AreFound ks (t ∷ ts) =
    (list_any (point_eq t.a) ks ≡ true) × (list_any (point_eq t.b) ks ≡ true) × (list_any (point_eq t.c) ks ≡ true)
    × AreFound ks ts

pub found : (ts : List (Triple GridPoint)) (ks : List GridPoint) → AreFound (with_points ks (corners ts)) ts
found [] ks = tt
found (t ∷ ts) ks =
    let k₁ = with_point ks t.a in let k₂ = with_point k₁ t.b in
    let k₃ = with_point k₂ t.c in (
      found_on t.a k₁ (t.b ∷ t.c ∷ corners ts) (found_key t.a ks),
      found_on t.b k₂ (t.c ∷ corners ts) (found_key t.b k₁),
      found_on t.c k₃ (corners ts) (found_key t.c k₂),
      found ts k₃,
    )

triangles_are : (grid : List ℤ) (ks : List GridPoint) (ts : List (Triple GridPoint)) → AreFound ks ts
    → map (triangle_of (map (vertex_at grid) ks)) (map (numbered ks) ts) ≡ map (placed place (height grid)) ts
triangles_are grid ks [] f = refl
triangles_are grid ks (t ∷ ts) f =
    rw (vertex_is grid t.a ks f.0, vertex_is grid t.b ks f.1, vertex_is grid t.c ks f.2, triangles_are grid ks ts f.3)
    refl

-- the triangles of the mesh are those over the grid, placed
pub triangles_placed : (grid : List ℤ) (ts : List (Triple GridPoint))
    → triangles_in (mesh_from grid ts) ≡ map (placed place (height grid)) ts
triangles_placed grid ts =
    let ks = with_points [] (corners ts) in
    let e : ks ≡ first_uses [] (corners ts) = keys_after (corners ts) [] in
    ap (λ (qs : List GridPoint). map (triangle_of (map (vertex_at grid) qs)) (map (numbered qs) ts)) (sym e)
    ∙ triangles_are grid ks ts (found ts [])
