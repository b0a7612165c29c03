-- Vertices in metres (quantized-mesh-1.0, "Vertex Data").
use Rattle.std.specs.Prelude.{◌≡◌, ℕ, ℤ, pos, ◌-ℤ◌, ◌*ℤ◌, ◌<◌, ◌≤◌, ◌^◌, List, length, slice_index_or, unsigned_abs}
use Rattle.float_bits.specs.Binary32.{IsBits32}
use Rattle.mesh_codec.specs.declared.codes.Codes.{Codes}
use Rattle.mesh_codec.specs.declared.header.Header.{Header}
use Rattle.mesh_codec.specs.Tile.{header_in, vertex_list}
use Rattle.mesh_plane.specs.declared.corner.Corner.{Corner}
use Rattle.mesh_plane.specs.declared.corner.Tri.{Tri}

-- the header's least and greatest height are these whole numbers of metres, each below 2^24 in size
pub record AreHeights (header : Header) (least greatest : ℤ) : Type 0 where
  pub least_size : unsigned_abs least < 2 ^ 24
  pub least_is : IsBits32 least header.least
  pub greatest_size : unsigned_abs greatest < 2 ^ 24
  pub greatest_is : IsBits32 greatest header.greatest

-- the height code is so many whole metres, within 65535: code 0 is the least height and 32767 the greatest, linear
-- between
pub record IsMetres (least greatest : ℤ) (code : ℕ) (metres : ℤ) : Type 0 where
  pub linear : (metres -ℤ least) *ℤ pos 32767 ≡ pos code *ℤ (greatest -ℤ least)
  pub size : unsigned_abs metres ≤ 65535

-- the corner is the vertex in metres: it lies at the codes, and has the metres of its height code
pub record IsCorner (header : Header) (codes : Codes) (corner : Corner) : Type 0 where
  pub least : ℤ
  pub greatest : ℤ
  pub heights : AreHeights header least greatest
  pub u : corner.u ≡ pos codes.u
  pub v : corner.v ≡ pos codes.v
  pub metres : IsMetres least greatest codes.height corner.h

-- the vertex has a whole number of metres within -65535 to 65535
abbrev pub IsWhole : Header → Codes → Type 0
IsWhole header codes = (corner : Corner) × IsCorner header codes corner

-- the first vertex that has none
pub record IsFirstNotWhole (bytes : List ℕ) (vertex : ℕ) : Type 0 where
  pub in_list : vertex < length (vertex_list bytes)
  pub not_whole : (d : Codes) → ¬ IsWhole (header_in bytes) (slice_index_or (vertex_list bytes) vertex d)
  pub first : (j : ℕ) (d : Codes) → j < vertex → IsWhole (header_in bytes) (slice_index_or (vertex_list bytes) j d)

-- a height within 65535 metres
abbrev pub IsLow : Corner → Type 0
IsLow corner = unsigned_abs corner.h ≤ 65535

-- all three corners are
pub record IsLowTri (t : Tri) : Type 0 where
  pub a : IsLow t.a
  pub b : IsLow t.b
  pub c : IsLow t.c
