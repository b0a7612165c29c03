-- The triangles of a mesh of codes lie on the tile, with their corners on the levels.
use Rattle.std.proofs.Common.{◌≡◌, ℕ, zero, suc, ◌+◌, ◌<◌, ◌≤◌, sym, subst, arith, List, ◌∷◌, map, length}
use Rattle.std.proofs.Common.{slice_index_or}
use Rattle.std.specs.Prelude.{ℤ, pos, ◌≤ℤ◌, All, Contains}
use Rattle.std.proofs.lemmas.Int.{ints, by_lt_z}
use Rattle.std.proofs.lemmas.List.Elements.{All-cons, All-map, All-weaker}
use Rattle.mesh_codec.specs.declared.codes.Codes.{Codes}
use Rattle.mesh_codec.specs.Mesh.{Mesh, IsMesh, IsVertex, IsTriangle}
use Rattle.mesh_plane.specs.declared.corner.Tri.{Tri}
use Rattle.mesh_plane.specs.Plane.{IsOnTile, IsTileTri, IsCounterClockwise}
use Rattle.mesh_check.specs.Slab.{IsCode}
use Rattle.mesh_check.specs.Members.{ArePlaced}
use Rattle.mesh_check.specs.Level.{IsCodeTri}
use Rattle.mesh_check.specs.Findings.{IsFirstTurnedBack}
use Rattle.mesh_check.specs.CodeMesh.{corner_at, tri_of, triangles_of, levels_of}
use Rattle.mesh_check.proofs.ListFacts.{any_default, at_own}
use Rattle.mesh_check.proofs.Towers.{map_has}

has_more : {X : Type 0} (y : X) (xs : List X) (x : X) → Contains xs x → Contains (y ∷ xs) x
has_more y xs x c = (suc c.0, omega (arith, c.1), c.2)

least : (n : ℕ) → pos 0 ≤ℤ pos n
least n = omega (arith, ints)

most : (n : ℕ) → n ≤ 32767 → pos n ≤ℤ pos 32767
most n l = omega (arith, ints, l)

module _ (mesh : Mesh) (is : IsMesh mesh) where
  abbrev none : Codes
  none = record { u = 0; v = 0; height = 0 }

  on_tile : (k : ℕ) → k < length mesh.vertices → IsOnTile (corner_at mesh k)
  on_tile k l = let v = is.vertices k none l in
      let x = slice_index_or mesh.vertices k none in
      record { west = least x.u; east = most x.u v.u; south = least x.v; north = most x.v v.v }

  code : (k : ℕ) → k < length mesh.vertices → IsCode (corner_at mesh k).h
  code k l = let v = is.vertices k none l in let x = slice_index_or mesh.vertices k none in
      record { low = least x.height; high = most x.height v.height }

  level : (k : ℕ) → k < length mesh.vertices → Contains (levels_of mesh) (corner_at mesh k).v
  level k l =
      let x = slice_index_or mesh.vertices k none in
      let vs = map (λ (codes : Codes). pos codes.v) mesh.vertices in
      has_more (pos 0) (pos 32767 ∷ vs) (pos x.v) (has_more (pos 32767) vs (pos x.v)
      (map_has (λ (codes : Codes). pos codes.v) mesh.vertices x (k, l, at_own mesh.vertices k none l)))

  pub all_on_tile : All IsTileTri (triangles_of mesh)
  all_on_tile = All-map IsTileTri (tri_of mesh) mesh.triangles
      (All-weaker (IsTriangle (length mesh.vertices)) (λ t. IsTileTri (tri_of mesh t)) (λ t i. record {
        a =
            on_tile t.a i.a;
        b = on_tile t.b i.b;
        c = on_tile t.c i.c;
      }) mesh.triangles is.triangles)

  abbrev HasCodes : Tri → Type 0
  HasCodes t = IsCode t.a.h × IsCode t.b.h × IsCode t.c.h

  all_codes : All HasCodes (triangles_of mesh)
  all_codes = All-map HasCodes (tri_of mesh) mesh.triangles
      (All-weaker (IsTriangle (length mesh.vertices)) (λ t. HasCodes (tri_of mesh t)) (λ t i. (
        code t.a i.a,
        code t.b i.b,
        code t.c i.c,
      )) mesh.triangles is.triangles)

  pub code_tris : All IsCounterClockwise (triangles_of mesh) → All IsCodeTri (triangles_of mesh)
  code_tris h k d l = let c = all_codes k d l in record {
    on_tile = all_on_tile k d l;
    turned = h k d l;
    a = c.0;
    b =
        c.1;
    c = c.2;
  }

  abbrev OnLevels : Tri → Type 0
  OnLevels t = Contains (levels_of mesh) t.a.v × Contains (levels_of mesh) t.b.v × Contains (levels_of mesh) t.c.v

  abbrev InRange : ℤ → Type 0
  InRange v = (pos 0 ≤ℤ v) × (v ≤ℤ pos 32767)

  pub placed : ArePlaced (levels_of mesh) (triangles_of mesh)
  placed = record {
    south = (0, omega arith, refl_at (pos 0));
    north = (1, omega arith, refl_at (pos 32767));
    range = All-cons InRange (pos 0) (pos 32767 ∷ map (λ (codes : Codes). pos codes.v) mesh.vertices)
        (omega (arith, ints), omega (arith, ints))
        (All-cons InRange (pos 32767) (map (λ (codes : Codes). pos codes.v) mesh.vertices) (
          omega (arith, ints),
          omega (arith, ints),
        )
        (All-map InRange (λ (codes : Codes). pos codes.v) mesh.vertices
        (All-weaker IsVertex (λ codes. InRange (pos codes.v)) (λ codes i. (
          least codes.v,
          most codes.v i.v,
        )) mesh.vertices is.vertices)));
    on_tile = all_on_tile;
    corners = All-map OnLevels (tri_of mesh) mesh.triangles
        (All-weaker (IsTriangle (length mesh.vertices)) (λ t. OnLevels (tri_of mesh t)) (λ t i. (
          level t.a i.a,
          level t.b i.b,
          level t.c i.c,
        )) mesh.triangles is.triangles);
  }
    where
      refl_at : (z : ℤ) → z ≡ z
      refl_at z = Rattle.std.proofs.Common.refl

-- the first triangle that is not counter-clockwise
pub first_turned : (ts : List Tri) (k : ℕ) (d : Tri) → k < length ts → ((i : ℕ) (e : Tri) → i < k → IsCounterClockwise
    (slice_index_or ts i e)) → ¬ IsCounterClockwise (slice_index_or ts k d)
    → IsFirstTurnedBack ts k
first_turned ts k d l h n = (
  (slice_index_or ts k d, (l, at_own ts k d l), n),
  λ i m t. t.2 (subst (λ (u : Tri). IsCounterClockwise u) t.1.1 (h i t.0 m)),
)

pub turned_on : (ts : List Tri) (k : ℕ) (d : Tri) → k < length ts → ((i : ℕ) (e : Tri) → i < k → IsCounterClockwise
    (slice_index_or ts i e)) → IsCounterClockwise (slice_index_or ts k d)
    → (i : ℕ) (e : Tri) → i < k + 1 → IsCounterClockwise (slice_index_or ts i e)
turned_on ts k d l h n i e m =
    by_lt_z (pos i) (pos k) (λ a. h i e (omega (arith, ints, a)))
    (λ a. let q : k ≡ i = omega (arith, ints, a, m) in
    subst (λ (j : ℕ). IsCounterClockwise (slice_index_or ts j e)) q (subst (λ (t : Tri). IsCounterClockwise t)
    (any_default ts k d e l) n))
