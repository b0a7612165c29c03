-- A header by its fields.
use Rattle.std.proofs.Common.{◌≡◌, ℕ, ℤ, pos, ◌+ℤ◌, refl, List}
use Rattle.height_lattice.specs.declared.height_frame.HeightFrame.{HeightFrame}
use Rattle.bound_spheres.specs.declared.sphere.Sphere.{Sphere}
use Rattle.float_bits.specs.Binary32.{bits32_of}
use Rattle.float_bits.specs.Binary64.{bits64_of}
use Rattle.mesh_codec.specs.declared.header.Header.{Header}
use Rattle.tile_rule.specs.Tile.{centre_of, header_of, patterns}

pub header_by : (frame : HeightFrame) (sphere : Sphere) (horizon : List ℤ) (centre : List ℕ) (least greatest radius : ℕ) (point : List ℕ)
    → centre ≡ patterns 8 (centre_of sphere) → least ≡ bits32_of frame.base → greatest ≡ bits32_of (frame.base +ℤ pos frame.range)
    → radius ≡ bits64_of sphere.radius 8 → point ≡ patterns 28 horizon
    → ◌≡◌ {A = Header}
    (record { centre = centre; least = least; greatest = greatest; sphere_centre = centre; radius = radius; horizon = point })
    (header_of frame sphere horizon)
header_by frame sphere horizon centre least greatest radius point c l g r p = rw (c, l, g, r, p) refl
