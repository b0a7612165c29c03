-- The vertices of a mesh in metres: they are those of its terrain, and their triangles cover the tile.
use Rattle.std.proofs.Common.{◌≡◌, ℕ, zero, suc, ◌*◌, ◌<◌, ◌^◌, arith, refl, sym, ap, ◌∙◌, subst, List, [], ◌∷◌, map}
use Rattle.std.specs.Prelude.{ℤ, pos, ◌+ℤ◌, ◌-ℤ◌, ◌*ℤ◌, unsigned_abs}
use Rattle.std.specs.List.{AllZip, AllByRecursion}
use Rattle.std.specs.Int.{◌∣◌}
use Rattle.std.proofs.lemmas.Int.{ints}
use Rattle.common_laws.proofs.Lists.{map_same}
use Rattle.terrain_base.specs.Height.{IsHeight}
use Rattle.terrain_base.specs.declared.indexes.Indexes.{Indexes}
use Rattle.terrain_base.specs.declared.tile.TileId.{TileId}
use Rattle.float_bits.proofs.Patterns.{bits32_is}
use Rattle.height_lattice.specs.declared.height_frame.HeightFrame.{HeightFrame}
use Rattle.height_lattice.specs.HeightCode.{code_of}
use Rattle.height_lattice.specs.HeightFrame.{IsWithin}
use Rattle.height_lattice.proofs.Frames.{code_of_is}
use Rattle.mesh_plane.specs.Cover.{Covers}
use Rattle.mesh_codec.specs.declared.header.Header.{Header}
use Rattle.tile_mesh.specs.declared.point.MeshPoint.{MeshPoint}
use Rattle.tile_mesh.specs.Mesh.{Mesh}
use Rattle.tile_mesh.specs.Plane as plane
use Rattle.mesh_query.specs.Metres.{AreHeights, IsCorner}
use Rattle.mesh_query.specs.Field.{MetreMesh, corner_at, tri_at, triangles_of}
use Rattle.tile_rule.specs.Tile.{frame_in, codes_of, header_in}
use Rattle.tile_rule.proofs.Vertices.{HasFrame}

-- the mesh of the rule in metres
abbrev pub field_in : Mesh → MetreMesh
field_in m = record { corners = map plane.point_corner m.points; indexes = m.triangles }

-- ---- its triangles are those of the rule
same_corner : (points : List MeshPoint) (i : ℕ)
    → corner_at (map plane.point_corner points) i ≡ plane.point_corner (plane.vertex points i)
same_corner [] i = refl
same_corner (p ∷ ps) zero = refl
same_corner (p ∷ ps) (suc i) = same_corner ps i

same_tri : (points : List MeshPoint) (t : Indexes)
    → plane.triangle_of points t ≡ tri_at (map plane.point_corner points) t
same_tri points t = rw (same_corner points t.a, same_corner points t.b, same_corner points t.c) refl

pub metres_cover : (m : Mesh) → Covers (plane.triangles_in m) → Covers (triangles_of (field_in m))
metres_cover m covers =
    let corners = map plane.point_corner m.points in
    subst Covers (map_same (plane.triangle_of m.points) (tri_at corners) (same_tri m.points) m.triangles) covers

-- ---- its vertices are those of the terrain
pub are_heights : (tile : TileId) (m : Mesh) → HasFrame m
    → AreHeights (header_in tile m) (frame_in m).base ((frame_in m).base +ℤ pos (frame_in m).range)
unfolding header_in
are_heights tile m has =
    let base = (frame_in m).base in
    let top = (frame_in m).base +ℤ pos (frame_in m).range in
    let low : unsigned_abs base < 2 ^ 24 = omega (arith, ints, has.base.above, has.base.below) in
    let high : unsigned_abs top < 2 ^ 24 = omega (arith, ints, has.base.above, has.base.below, has.range) in
    record { least_size = low; least_is = bits32_is base low; greatest_size = high; greatest_is = bits32_is top high }

stands : (base metres : ℤ) (range code : ℕ) → pos (code * range) ≡ (metres -ℤ base) *ℤ pos 32767
    → (metres -ℤ base) *ℤ pos 32767 ≡ pos code *ℤ ((base +ℤ pos range) -ℤ base)
stands base metres range code h =
    let width : (base +ℤ pos range) -ℤ base ≡ pos range = omega (arith, ints) in
    let product : pos code *ℤ pos range ≡ pos (code * range) = omega (arith, ints) in
    sym h ∙ sym product ∙ ap (λ x. pos code *ℤ x) (sym width)

module _ (header : Header) (frame : HeightFrame)
    (heights : AreHeights header frame.base (frame.base +ℤ pos frame.range)) (divides : frame.range ∣ 32767) where
  is_corner : (p : MeshPoint) → IsWithin frame p.metres → IsHeight p.metres
      → IsCorner header (codes_of frame p) (plane.point_corner p)
  is_corner p within height = record {
    least = frame.base;
    greatest = frame.base +ℤ pos frame.range;
    heights = heights;
    u = refl;
    v = refl;
    metres = record {
      linear = stands frame.base p.metres frame.range (code_of frame p.metres)
          (code_of_is frame p.metres divides within.low);
      size = omega (arith, ints, height.above, height.below);
    };
  }

  pub are_corners : (points : List MeshPoint) → AllByRecursion (λ p. IsWithin frame p.metres) points
      → AllByRecursion (λ p. IsHeight p.metres) points
      → AllZip (IsCorner header) (map (codes_of frame) points) (map plane.point_corner points)
  are_corners [] within heights_are = tt
  are_corners (p ∷ ps) within heights_are =
      (is_corner p within.0 heights_are.0, are_corners ps within.1 heights_are.1)
