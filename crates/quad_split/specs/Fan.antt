-- The triangles between the centre of a node and its sides.
use Rattle.std.specs.Prelude.{ℕ, suc, ◌+◌, ◌*◌, ℤ, pos, List, [], ◌∷◌, ◌++◌}
use Rattle.terrain_base.specs.Grid as grid
use Rattle.mesh_plane.specs.declared.corner.Corner.{Corner}
use Rattle.mesh_plane.specs.Triangles.{Triple}
use Rattle.mesh_plane.specs.Quadtree.{line_of}

-- a grid point on the tile, of which an edge has 32767 units (quantized-mesh-1.0, u and v), at its height in
-- metres
abbrev pub grid_corner : List ℤ → ℕ → ℕ → Corner
grid_corner heights i j = record {
  u = pos (grid.line_position i);
  v = pos (grid.line_position j);
  h = grid.height_in heights i j;
}

-- the triangles of a side from a to b with the midpoint m: that of the whole side, and those of its halves
abbrev pub side_triangles : {A : Type 0} → A → A → A → A → List (Triple A)
side_triangles centre a m b =
    record { a = centre; b = a; c = b } ∷ record { a = centre; b = a; c = m }
    ∷ record { a = centre; b = m; c = b } ∷ []

-- the twelve triangles of the node (x, y) of level k + 1: those of its south, east, north and west sides
abbrev pub fan_triangles : {A : Type 0} → (ℕ → ℕ → A) → ℕ → ℕ → ℕ → List (Triple A)
fan_triangles at k x y =
    let west = line_of (suc k) x in let middle = line_of k (2 * x + 1) in
    let east = line_of (suc k) (x + 1) in
    let south = line_of (suc k) y in let centre = line_of k (2 * y + 1) in
    let north = line_of (suc k) (y + 1) in
    side_triangles (at middle centre) (at west south) (at middle south) (at east south)
    ++ (side_triangles (at middle centre) (at east south) (at east centre) (at east north)
    ++ (side_triangles (at middle centre) (at east north) (at middle north) (at west north)
    ++ side_triangles (at middle centre) (at west north) (at west centre) (at west south)))
