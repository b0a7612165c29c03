-- How large areas and sides are on the tile.
use Rattle.std.proofs.Common.{◌≤◌, arith}
use Rattle.std.specs.Prelude.{ℤ, pos, ◌-ℤ◌, ◌*ℤ◌, unsigned_abs}
use Rattle.std.proofs.lemmas.Int.{ints}
use Rattle.mesh_plane.specs.declared.corner.Corner.{Corner}
use Rattle.mesh_plane.specs.declared.corner.Tri.{Tri}
use Rattle.mesh_plane.specs.Plane.{IsOnTile, IsTilePoint, IsTileTri, side_of}
use Rattle.mesh_plane.specs.Surface.{gap_under}
use Rattle.mesh_plane.proofs.Sizes.{size_product}

pub area_small : (t : Tri) → IsTileTri t → unsigned_abs (gap_under t (pos 1)) ≤ 4294967296
area_small t h =
    let p = size_product (t.b.u -ℤ t.a.u) (t.c.v -ℤ t.a.v) 32767 32767 (omega (arith, ints, h.a, h.b))
    (omega (arith, ints, h.a, h.c)) in
    let q = size_product (t.b.v -ℤ t.a.v) (t.c.u -ℤ t.a.u) 32767 32767 (omega (arith, ints, h.a, h.b))
    (omega (arith, ints, h.a, h.c)) in
    omega (arith, ints, p, q)

pub side_small : (a b : Corner) (x y : ℤ) → IsOnTile a → IsOnTile b → IsTilePoint (pos 1) x y
    → unsigned_abs (side_of a b (pos 1) x y) ≤ 2147483648
side_small a b x y h k p =
    let across = size_product (b.u -ℤ a.u) (y -ℤ pos 1 *ℤ a.v) 32767 32767 (omega (arith, ints, h, k))
    (omega (arith, ints, h, p.south, p.north)) in
    let along = size_product (b.v -ℤ a.v) (x -ℤ pos 1 *ℤ a.u) 32767 32767 (omega (arith, ints, h, k))
    (omega (arith, ints, h, p.west, p.east)) in
    omega (arith, ints, across, along)
