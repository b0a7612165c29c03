-- The mesh of a grid can be swept.
use Rattle.std.proofs.Common.{◌≡◌, ℕ, ◌≤◌, ◌<◌, refl, sym, subst, ap, ◌∙◌, List, length, map, get_or}
use Rattle.std.specs.Prelude.{pos, All}
use Rattle.std.proofs.lemmas.List.{length-map, get_or-map}
use Rattle.terrain_base.specs.declared.indexes.Indexes.{Indexes}
use Rattle.terrain_base.specs.Height.{IsHeight}
use Rattle.mesh_plane.specs.declared.corner.Tri.{Tri}
use Rattle.mesh_plane.specs.Plane.{IsTileTri, IsCounterClockwise}
use Rattle.mesh_plane.specs.Cover.{Covers}
use Rattle.tile_mesh.specs.declared.point.MeshPoint.{MeshPoint}
use Rattle.tile_mesh.specs.Mesh.{Mesh, IsMeshAt, mesh_of_grid}
use Rattle.tile_mesh.specs.Numbering.{ArePoints}
use Rattle.tile_mesh.specs.Plane.{vertex, triangle_of, triangles_in}
use Rattle.tile_mesh.proofs.Made.{mesh_covers}
use Rattle.tile_mesh.proofs.MeshNumbers.{numbered_law}
use Rattle.tile_mesh.proofs.VertexHeights.{heights_in_range}
use Rattle.lattice_sweep.specs.Plane.{IsTerrainTri}
use Rattle.post_bound.specs.Swept.{IsSwept}

-- what holds of each vertex holds of each corner of a triangle
module _ (P : MeshPoint → Type 0) (points : List MeshPoint) (all : All P points) where
  pub of_vertex : (n : ℕ) → n < length points → P (vertex points n)
  of_vertex n h = all n (record { i = 0; j = 0; metres = pos 0 }) h

-- a triangle of numbers of vertices
pub terrain_tri : (points : List MeshPoint) (t : Indexes) → All (λ p. IsHeight p.metres) points → ArePoints (length points) t
    → IsTileTri (triangle_of points t) → IsCounterClockwise (triangle_of points t) → IsTerrainTri (triangle_of points t)
terrain_tri points t heights is on_tile turns =
    let a = of_vertex (λ p. IsHeight p.metres) points heights t.a is.a in
    let b = of_vertex (λ p. IsHeight p.metres) points heights t.b is.b in
    let c = of_vertex (λ p. IsHeight p.metres) points heights t.c is.c in record {
      on_tile = on_tile;
      counter_clockwise = turns;
      heights = record { a = (a.above, a.below); b = (b.above, b.below); c = (c.above, c.below) };
    }

-- the triangle of a number of the list
pub nth_triangle : (points : List MeshPoint) (ts : List Indexes) (k : ℕ) (d : Tri) (e : Indexes) → k < length ts
    → get_or (map (triangle_of points) ts) k d ≡ triangle_of points (get_or ts k e)
nth_triangle points ts k d e h = get_or-map (triangle_of points) ts k e d h

all_terrain : (mesh : Mesh) → All (λ p. IsHeight p.metres) mesh.points → All (ArePoints (length mesh.points)) mesh.triangles
    → Covers (triangles_in mesh) → All IsTerrainTri (triangles_in mesh)
all_terrain mesh heights numbers covers k d h =
    let e : Indexes = record { a = 0; b = 0; c = 0 } in
    let long : k < length mesh.triangles = subst (λ (n : ℕ). k < n) (length-map mesh.triangles (triangle_of mesh.points)) h in
    let same = nth_triangle mesh.points mesh.triangles k d e long in
    subst IsTerrainTri (sym same)
    (terrain_tri mesh.points (get_or mesh.triangles k e) heights (numbers k e long)
    (subst IsTileTri same (covers.on_tile k d h)) (subst IsCounterClockwise same (covers.counter_clockwise k d h)))

pub swept_mesh : (z : ℕ) (mesh : Mesh) → IsMeshAt z mesh → IsSwept mesh
swept_mesh z mesh is =
    let numbered = numbered_law is.grid z in
    let of_grid : IsSwept (mesh_of_grid is.grid z) = record {
      vertices = numbered.on_grid;
      numbers = numbered.triangles;
      triangles = all_terrain (mesh_of_grid is.grid z) (heights_in_range z (mesh_of_grid is.grid z) (record { grid = is.grid; in_range = is.in_range; mesh = refl }))
          numbered.triangles (mesh_covers is.grid z);
    } in
    subst IsSwept (sym is.mesh) of_grid

-- ---- one triangle after another
pub this_triangle : (mesh : Mesh) (ts : List Indexes) (ps : List MeshPoint) (k : ℕ) (e : Indexes) (t : Tri) → ts ≡ mesh.triangles → ps ≡ mesh.points → k < length ts
    → t ≡ triangle_of ps (get_or ts k e) → (d : Tri) → get_or (triangles_in mesh) k d ≡ t
this_triangle mesh ts ps k e t ts_are ps_are h is d =
    nth_triangle mesh.points mesh.triangles k d e (subst (λ (xs : List Indexes). k < length xs) ts_are h)
    ∙ sym (is ∙ ap (λ (xs : List Indexes). triangle_of ps (get_or xs k e)) ts_are ∙ ap (λ (xs : List MeshPoint). triangle_of xs (get_or mesh.triangles k e)) ps_are)

pub long_enough : (mesh : Mesh) (ts : List Indexes) (k : ℕ) → ts ≡ mesh.triangles → k < length ts → k < length (triangles_in mesh)
long_enough mesh ts k ts_are h =
    subst (λ (n : ℕ). k < n) (sym (length-map mesh.triangles (triangle_of mesh.points))) (subst (λ (xs : List Indexes). k < length xs) ts_are h)

pub all_done : (mesh : Mesh) (ts : List Indexes) (k : ℕ) → ts ≡ mesh.triangles → length ts ≤ k → length (triangles_in mesh) ≤ k
all_done mesh ts k ts_are h =
    subst (λ (n : ℕ). n ≤ k) (sym (length-map mesh.triangles (triangle_of mesh.points))) (subst (λ (xs : List Indexes). length xs ≤ k) ts_are h)
