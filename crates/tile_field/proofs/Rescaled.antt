-- With codes as heights, the triangles of a mesh cover the tile as they do in metres.
use Rattle.std.proofs.Common.{◌≡◌, ℕ, zero, suc, ◌*◌, ◌≤◌, ◌<◌, arith, refl, sym, ap, ◌∙◌, subst, List, [], ◌∷◌, map, length}
use Rattle.std.specs.Prelude.{ℤ, pos, ◌+ℤ◌, ◌-ℤ◌, ◌*ℤ◌, slice_index_or}
use Rattle.std.specs.List.{AllByRecursion}
use Rattle.std.specs.Int.{◌∣◌}
use Rattle.std.proofs.lemmas.Int.{ints}
use Rattle.terrain_base.specs.declared.indexes.Indexes.{Indexes}
use Rattle.height_lattice.specs.declared.height_frame.HeightFrame.{HeightFrame}
use Rattle.height_lattice.specs.HeightCode.{code_of}
use Rattle.height_lattice.specs.HeightFrame.{IsWithin}
use Rattle.height_lattice.proofs.Divisors.{from_0}
use Rattle.height_lattice.proofs.Frames.{code_of_is}
use Rattle.mesh_plane.specs.declared.corner.Corner.{Corner}
use Rattle.mesh_plane.specs.declared.corner.Tri.{Tri}
use Rattle.mesh_plane.specs.Plane.{Point, point}
use Rattle.mesh_plane.specs.Triangles.{Triple}
use Rattle.mesh_plane.specs.Cover.{Covers}
use Rattle.mesh_plane.specs.Rescale.{vertex_by, tri_by}
use Rattle.mesh_plane.proofs.Rescales.{rescale_law}
use Rattle.mesh_codec.specs.declared.codes.Codes.{Codes}
use Rattle.mesh_check.specs.CodeMesh as coded
use Rattle.tile_mesh.specs.declared.point.MeshPoint.{MeshPoint}
use Rattle.tile_mesh.specs.Mesh.{Mesh}
use Rattle.tile_mesh.specs.Numbering.{ArePoints}
use Rattle.tile_mesh.specs.Plane as plane
use Rattle.tile_rule.specs.Tile.{codes_of, coded_by}

abbrev triple : Indexes → Triple ℕ
triple t = record { a = t.a; b = t.b; c = t.c }

-- range times a code, by the metres
by_metres : (base metres : ℤ) (range code : ℕ) → pos (code * range) ≡ (metres -ℤ base) *ℤ pos 32767
    → pos range *ℤ pos code ≡ (pos 0 -ℤ base *ℤ pos 32767) +ℤ pos 32767 *ℤ metres
by_metres base metres range code h = omega (arith, ints, h)

at_base : (base : ℤ) (range : ℕ)
    → pos range *ℤ pos 0 ≡ (pos 0 -ℤ base *ℤ pos 32767) +ℤ pos 32767 *ℤ base
at_base base range = omega (arith, ints)

module _ (frame : HeightFrame) where
  abbrev codes_at : List MeshPoint → ℕ → Codes
  codes_at points i = slice_index_or (map (codes_of frame) points) i (record { u = 0; v = 0; height = 0 })

  abbrev place_at : List MeshPoint → ℕ → Point
  place_at points i = point (pos (codes_at points i).u) (pos (codes_at points i).v)

  abbrev code_at : List MeshPoint → ℕ → ℤ
  code_at points i = pos (codes_at points i).height

  -- the metres of a vertex, and the frame's base where there is none: code 0 stands for it
  abbrev metres_at : List MeshPoint → ℕ → ℤ
  metres_at points i = slice_index_or (map (λ (p : MeshPoint). p.metres) points) i frame.base

  linear : (points : List MeshPoint) → frame.range ∣ 32767 → AllByRecursion (λ p. IsWithin frame p.metres) points
      → (i : ℕ)
      → pos frame.range *ℤ code_at points i
      ≡ (pos 0 -ℤ frame.base *ℤ pos 32767) +ℤ pos 32767 *ℤ metres_at points i
  linear [] d within i = at_base frame.base frame.range
  linear (p ∷ ps) d within zero =
      by_metres frame.base p.metres frame.range (code_of frame p.metres) (code_of_is frame p.metres d within.0.low)
  linear (p ∷ ps) d within (suc i) = linear ps d within.1 i

  same_corner : (points : List MeshPoint) (i : ℕ) → i < length points
      → vertex_by (place_at points) (metres_at points) i ≡ plane.point_corner (plane.vertex points i)
  same_corner [] i l = absurd (omega (arith, l))
  same_corner (p ∷ ps) zero l = refl
  same_corner (p ∷ ps) (suc i) l = same_corner ps i (omega (arith, l))

  module _ (points : List MeshPoint) where
    abbrev by_metres_at : Indexes → Tri
    by_metres_at t = tri_by (place_at points) (metres_at points) (triple t)

    same_tri : (t : Indexes) → ArePoints (length points) t → by_metres_at t ≡ plane.triangle_of points t
    same_tri t h =
        ap (λ (a : Corner). record { a = a; b = (by_metres_at t).b; c = (by_metres_at t).c }) (same_corner points t.a h.a)
        ∙ ap (λ (b : Corner). record { a = (plane.triangle_of points t).a; b = b; c = (by_metres_at t).c })
        (same_corner points t.b h.b)
        ∙ ap (λ (c : Corner). record {
          a = (plane.triangle_of points t).a;
          b = (plane.triangle_of points t).b;
          c = c;
        }) (same_corner points t.c h.c)

    in_metres : (ts : List Indexes) → AllByRecursion (ArePoints (length points)) ts
        → map (plane.triangle_of points) ts ≡ map (tri_by (place_at points) (metres_at points)) (map triple ts)
    in_metres [] h = refl
    in_metres (t ∷ ts) h =
        ap (λ (x : Tri). x ∷ map (plane.triangle_of points) ts) (sym (same_tri t h.0))
        ∙ ap (λ (xs : List Tri). by_metres_at t ∷ xs) (in_metres ts h.1)

in_codes : (frame : HeightFrame) (m : Mesh) (ts : List Indexes)
    → map (tri_by (place_at frame m.points) (code_at frame m.points)) (map triple ts)
    ≡ map (coded.tri_of (coded_by frame m)) ts
in_codes frame m [] = refl
in_codes frame m (t ∷ ts) =
    ap (λ (xs : List Tri). coded.tri_of (coded_by frame m) t ∷ xs) (in_codes frame m ts)

-- the frame's range is not 0, since it divides 32767
pub codes_cover : (frame : HeightFrame) (m : Mesh) → frame.range ∣ 32767
    → AllByRecursion (λ p. IsWithin frame p.metres) m.points
    → AllByRecursion (ArePoints (length m.points)) m.triangles → Covers (plane.triangles_in m)
    → Covers (coded.triangles_of (coded_by frame m))
codes_cover frame m d within numbers covers =
    let some : 1 ≤ frame.range = from_0 frame.range d in
    subst Covers (in_codes frame m m.triangles)
    (rescale_law (place_at frame m.points) (metres_at frame m.points) (code_at frame m.points) (pos frame.range)
    (pos 0 -ℤ frame.base *ℤ pos 32767) (pos 32767) (map triple m.triangles) (omega (arith, ints, some))
    (linear frame m.points d within) (subst Covers (in_metres frame m.points m.triangles numbers) covers))
