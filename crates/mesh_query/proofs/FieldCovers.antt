-- The triangles in metres cover the tile where those in codes do.
use Rattle.std.proofs.Common.{◌≡◌, ℕ, zero, suc, ◌<◌, refl, sym, subst, arith, ap, ◌∙◌, List, [], ◌∷◌, length, map}
use Rattle.std.specs.Prelude.{ℤ, pos, ◌+ℤ◌, ◌-ℤ◌, ◌*ℤ◌, slice_index_or}
use Rattle.std.specs.List.{AllZip, AllByRecursion}
use Rattle.std.proofs.lemmas.Int.{ints}
use Rattle.terrain_base.specs.declared.indexes.Indexes.{Indexes}
use Rattle.mesh_codec.specs.declared.codes.Codes.{Codes}
use Rattle.mesh_codec.specs.Mesh.{Mesh, IsTriangle}
use Rattle.mesh_plane.specs.declared.corner.Corner.{Corner}
use Rattle.mesh_plane.specs.declared.corner.Tri.{Tri}
use Rattle.mesh_plane.specs.Plane.{Point, point}
use Rattle.mesh_plane.specs.Triangles.{Triple}
use Rattle.mesh_plane.specs.Cover.{Covers}
use Rattle.mesh_plane.specs.Rescale.{tri_by, vertex_by}
use Rattle.mesh_plane.proofs.Rescales.{rescale_law}
use Rattle.mesh_check.specs.CodeMesh.{triangles_of as code_triangles}
use Rattle.mesh_query.specs.Field.{corner_at, tri_at}

no_codes : Codes
no_codes = record { u = 0; v = 0; height = 0 }

-- the corner lies at the codes, and its height is linear in the code
pub record IsRaised (least greatest : ℤ) (codes : Codes) (corner : Corner) : Type 0 where
  pub u : corner.u ≡ pos codes.u
  pub v : corner.v ≡ pos codes.v
  pub h : (corner.h -ℤ least) *ℤ pos 32767 ≡ pos codes.height *ℤ (greatest -ℤ least)

abbrev triple : Indexes → Triple ℕ
triple t = record { a = t.a; b = t.b; c = t.c }

abbrev at : List Codes → ℕ → Point
at vertices i = point (pos (slice_index_or vertices i (record { u = 0; v = 0; height = 0 })).u) (pos (slice_index_or vertices i (record { u = 0; v = 0; height = 0 })).v)

abbrev codes_of : List Codes → ℕ → ℤ
codes_of vertices i = pos (slice_index_or vertices i (record { u = 0; v = 0; height = 0 })).height

-- the metres of a vertex, and the least height where there is none
abbrev metres_of : ℤ → List Corner → ℕ → ℤ
metres_of least corners i = slice_index_or (map (λ (c : Corner). c.h) corners) i least

raise : (l g code m : ℤ) → (m -ℤ l) *ℤ pos 32767 ≡ code *ℤ (g -ℤ l)
    → pos 32767 *ℤ m ≡ pos 32767 *ℤ l +ℤ (g -ℤ l) *ℤ code
raise l g code m h = omega (arith, ints, h)

module _ (least greatest : ℤ) where
  linear : (vertices : List Codes) (corners : List Corner) → AllZip (IsRaised least greatest) vertices corners → (i : ℕ)
      → pos 32767 *ℤ metres_of least corners i ≡ pos 32767 *ℤ least +ℤ (greatest -ℤ least) *ℤ codes_of vertices i
  linear [] [] h i = raise least greatest (pos 0) least (omega (arith, ints))
  linear [] (y ∷ ys) h i = elim h [ ]
  linear (x ∷ xs) [] h i = elim h [ ]
  linear (x ∷ xs) (y ∷ ys) h zero = raise least greatest (pos x.height) y.h h.0.h
  linear (x ∷ xs) (y ∷ ys) h (suc i) = linear xs ys h.1 i

  same_corner : (vertices : List Codes) (corners : List Corner) → AllZip (IsRaised least greatest) vertices corners → (i : ℕ)
      → i < length vertices → vertex_by (at vertices) (metres_of least corners) i ≡ corner_at corners i
  same_corner [] [] h i l = absurd (omega (arith, l))
  same_corner [] (y ∷ ys) h i l = elim h [ ]
  same_corner (x ∷ xs) [] h i l = elim h [ ]
  same_corner (x ∷ xs) (y ∷ ys) h zero l =
      ap (λ (u : ℤ). record { u = u; v = pos x.v; h = y.h }) (sym h.0.u)
      ∙ ap (λ (v : ℤ). record { u = y.u; v = v; h = y.h }) (sym h.0.v)
  same_corner (x ∷ xs) (y ∷ ys) h (suc i) l = same_corner xs ys h.1 i (omega (arith, l))

  module _ (vertices : List Codes) (corners : List Corner) (h : AllZip (IsRaised least greatest) vertices corners) where
    same_tri : (t : Indexes) → IsTriangle (length vertices) t
        → tri_by (at vertices) (metres_of least corners) (triple t) ≡ tri_at corners t
    same_tri t i =
        ap (λ (a : Corner). record {
          a = a;
          b = vertex_by (at vertices) (metres_of least corners) t.b;
          c = vertex_by (at vertices) (metres_of least corners) t.c;
        }) (same_corner vertices corners h t.a i.a)
        ∙ ap (λ (b : Corner). record {
          a = corner_at corners t.a;
          b = b;
          c = vertex_by (at vertices) (metres_of least corners) t.c;
        }) (same_corner vertices corners h t.b i.b)
        ∙ ap (λ (c : Corner). record { a = corner_at corners t.a; b = corner_at corners t.b; c = c })
        (same_corner vertices corners h t.c i.c)

    in_metres : (ts : List Indexes) → AllByRecursion (IsTriangle (length vertices)) ts
        → map (tri_by (at vertices) (metres_of least corners)) (map triple ts) ≡ map (tri_at corners) ts
    in_metres [] i = refl
    in_metres (t ∷ ts) i =
        ap (λ (x : Tri). x ∷ map (tri_by (at vertices) (metres_of least corners)) (map triple ts)) (same_tri t i.0)
        ∙ ap (λ (xs : List Tri). tri_at corners t ∷ xs) (in_metres ts i.1)

pub in_codes : (mesh : Mesh) (ts : List Indexes)
    → map (tri_by (at mesh.vertices) (codes_of mesh.vertices)) (map triple ts) ≡ code_triangles (record mesh { triangles = ts })
in_codes mesh [] = refl
in_codes mesh (t ∷ ts) = ap (λ (xs : List Tri). tri_by (at mesh.vertices) (codes_of mesh.vertices) (triple t) ∷ xs) (in_codes mesh ts)

pub metres_cover : (least greatest : ℤ) (mesh : Mesh) (corners : List Corner)
    → AllZip (IsRaised least greatest) mesh.vertices corners
    → AllByRecursion (IsTriangle (length mesh.vertices)) mesh.triangles
    → Covers (code_triangles mesh) → Covers (map (tri_at corners) mesh.triangles)
metres_cover least greatest mesh corners h i c =
    subst Covers (in_metres least greatest mesh.vertices corners h mesh.triangles i)
    (rescale_law (at mesh.vertices) (codes_of mesh.vertices) (metres_of least corners) (pos 32767) (pos 32767 *ℤ least)
    (greatest -ℤ least) (map triple mesh.triangles) (omega (arith, ints))
    (linear least greatest mesh.vertices corners h) (subst Covers (sym (in_codes mesh mesh.triangles)) c))
