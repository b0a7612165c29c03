-- What is seen of two files side by side.
use Rattle.std.proofs.Common.{◌≡◌, ℕ, zero, suc, ◌+◌, ◌<◌, ◌≤◌, arith, refl, sym, ap, ◌∙◌, List, [], ◌∷◌, map}
use Rattle.std.specs.Prelude.{ℤ, pos}
use Rattle.std.specs.List.{range_with_len}
use Rattle.common_laws.proofs.Lists.{map_same}
use Rattle.terrain_base.specs.declared.tile.TileId.{TileId}
use Rattle.terrain_base.specs.Grid.{IsGrid, line_position, height_in}
use Rattle.mesh_plane.specs.declared.corner.Corner.{Corner}
use Rattle.terrain_base.specs.declared.side.Side.{Side}
use Rattle.mesh_codec.specs.declared.header.Header.{Header}
use Rattle.mesh_codec.specs.Mesh as coded
use Rattle.terrain_base.specs.declared.side.Side.TheVariants.{West, South, East, North}
use Rattle.tile_mesh.specs.declared.point.MeshPoint.{MeshPoint}
use Rattle.tile_mesh.specs.Mesh.{Mesh, edge_of, edge_heights, mesh_of_grid, vertex_at}
use Rattle.tile_mesh.specs.Plane as plane
use Rattle.tile_mesh.specs.Seams.{edge_profile, index_along}
use Rattle.tile_mesh.specs.Sides.{outer_at}
use Rattle.tile_mesh.proofs.Seams.{seam_law}
use Rattle.tile_rule.specs.Seams.{MeetEast, MeetNorth}
use Rattle.tile_rule.specs.Seen.{Vertex, corner_at, edge_corners}
use Rattle.tile_rule.specs.Tile.{coded_mesh, frame_in, terrain_in, header_in}
use Rattle.tile_rule.proofs.Seeing.{is_seen, one_sight, same_corner, vertices_in}

-- ---- the heights of two edges
map_range : {A : Type 0} (f g : ℕ → A) (a n : ℕ) → ((i : ℕ) → i < a + n → f i ≡ g i) → map f (range_with_len a n) ≡ map g (range_with_len a n)
map_range f g a zero h = refl
map_range f g a (suc n) h =
    ap (λ y. y ∷ map f (range_with_len (a + 1) n)) (h a (omega arith))
    ∙ ap (λ ys. g a ∷ ys) (map_range f g (a + 1) n (λ i l. h i (omega (arith, l))))

-- the heights of the one's side and of the other's are the same
abbrev pub SameHeights : List ℤ → Side → List ℤ → Side → Type 0
SameHeights grid side other beside = (i : ℕ) → i ≤ 66
    → (vertex_at grid (outer_at side i)).metres ≡ (vertex_at other (outer_at beside i)).metres

same_edge_heights : (grid other : List ℤ) (side beside : Side) → SameHeights grid side other beside → edge_heights grid side ≡ edge_heights other beside
unfolding edge_heights
same_edge_heights grid other side beside h =
    map_range (λ i. (vertex_at grid (outer_at side i)).metres) (λ i. (vertex_at other (outer_at beside i)).metres) 0 67 (λ i l. h i (omega (arith, l)))

same_list : (m : Mesh) (side : Side) → coded.edge_of (coded_mesh m) side ≡ edge_of m side
unfolding coded_mesh
same_list m West = refl
same_list m South = refl
same_list m East = refl
same_list m North = refl

maps : {A B C : Type 0} (g : B → C) (f : A → B) (xs : List A) → map g (map f xs) ≡ map (λ x. g (f x)) xs
maps g f [] = refl
maps g f (x ∷ xs) = ap (λ ys. g (f x) ∷ ys) (maps g f xs)

-- the corners along a side are those of the edge's vertices
seen_edge : (m : Mesh) (side : Side) → edge_corners (coded_mesh m) (vertices_in m) side ≡ map plane.point_corner (plane.edge_vertices m side)
seen_edge m side =
    ap (λ ns. map (corner_at (vertices_in m)) ns) (same_list m side)
    ∙ map_same (corner_at (vertices_in m)) (λ n. plane.point_corner (plane.vertex m.points n)) (same_corner (frame_in m) m.points) (edge_of m side)
    ∙ sym (maps plane.point_corner (plane.vertex m.points) (edge_of m side))

-- along a side that runs north, and one that runs east
abbrev pub north_pair : Corner → ℤ × ℤ
north_pair c = (c.v, c.h)

abbrev pub east_pair : Corner → ℤ × ℤ
east_pair c = (c.u, c.h)

-- an index along an edge and a height, by the place in tile units
abbrev placed : ℕ × ℤ → ℤ × ℤ
placed entry = (pos (line_position entry.0), entry.1)

pairs_of_profile : (pair : Corner → ℤ × ℤ) (m : Mesh) (side : Side) → ((p : MeshPoint) → pair (plane.point_corner p) ≡ (pos (line_position (index_along side p)), p.metres))
    → map pair (edge_corners (coded_mesh m) (vertices_in m) side) ≡ map placed (edge_profile m side)
pairs_of_profile pair m side h =
    let vertices = plane.edge_vertices m side in
    ap (λ cs. map pair cs) (seen_edge m side)
    ∙ maps pair plane.point_corner vertices
    ∙ map_same (λ p. pair (plane.point_corner p)) (λ p. (pos (line_position (index_along side p)), p.metres)) h vertices
    ∙ sym (maps placed (λ p. (index_along side p, p.metres)) vertices)

-- ---- two tiles
met : (pair : Corner → ℤ × ℤ) (tile other : TileId) (grid grid' : List ℤ) (side beside : Side) → other.z ≡ tile.z
    → SameHeights grid side grid' beside
    → ((p : MeshPoint) → pair (plane.point_corner p) ≡ (pos (line_position (index_along side p)), p.metres))
    → ((p : MeshPoint) → pair (plane.point_corner p) ≡ (pos (line_position (index_along beside p)), p.metres))
    → let m = mesh_of_grid grid tile.z in let n = mesh_of_grid grid' other.z in
    map pair (edge_corners (coded_mesh m) (vertices_in m) side) ≡ map pair (edge_corners (coded_mesh n) (vertices_in n) beside)
met pair tile other grid grid' side beside level h p q =
    pairs_of_profile pair (mesh_of_grid grid tile.z) side p
    ∙ ap (λ profile. map placed profile) (seam_law grid grid' tile.z side beside (same_edge_heights grid grid' side beside h))
    ∙ ap (λ z. map placed (edge_profile (mesh_of_grid grid' z) beside)) (sym level)
    ∙ sym (pairs_of_profile pair (mesh_of_grid grid' other.z) beside q)

-- what is seen of the file of a grid along a side
seen_pairs : (pair : Corner → ℤ × ℤ) (tile : TileId) (grid : List ℤ) (side : Side) (header : Header) (mesh : coded.Mesh) (vertices : List Vertex) → IsGrid grid
    → let m = mesh_of_grid grid tile.z in
    (header ≡ header_in tile m) × (mesh ≡ coded_mesh m) × (vertices ≡ vertices_in m)
    → map pair (edge_corners mesh vertices side) ≡ map pair (edge_corners (coded_mesh m) (vertices_in m) side)
seen_pairs pair tile grid side header mesh vertices g e =
    let m = mesh_of_grid grid tile.z in
    ap (λ n. map pair (edge_corners n vertices side)) e.1 ∙ ap (λ vs. map pair (edge_corners (coded_mesh m) vs side)) e.2

pub meet_east : (tile other : TileId) (grid grid' : List ℤ) → other.z ≡ tile.z → IsGrid grid → IsGrid grid'
    → ((j : ℕ) → j ≤ 66 → height_in grid 66 j ≡ height_in grid' 0 j)
    → MeetEast (terrain_in tile (mesh_of_grid grid tile.z)) (terrain_in other (mesh_of_grid grid' other.z))
meet_east tile other grid grid' level g k same h h' n n' vs vs' p q =
    seen_pairs north_pair tile grid East h n vs g (one_sight _ h _ n _ vs _ p (is_seen tile grid g))
    ∙ met north_pair tile other grid grid' East West level same (λ p. refl) (λ p. refl)
    ∙ sym (seen_pairs north_pair other grid' West h' n' vs' k (one_sight _ h' _ n' _ vs' _ q (is_seen other grid' k)))

pub meet_north : (tile other : TileId) (grid grid' : List ℤ) → other.z ≡ tile.z → IsGrid grid → IsGrid grid'
    → ((i : ℕ) → i ≤ 66 → height_in grid i 66 ≡ height_in grid' i 0)
    → MeetNorth (terrain_in tile (mesh_of_grid grid tile.z)) (terrain_in other (mesh_of_grid grid' other.z))
meet_north tile other grid grid' level g k same h h' n n' vs vs' p q =
    seen_pairs east_pair tile grid North h n vs g (one_sight _ h _ n _ vs _ p (is_seen tile grid g))
    ∙ met east_pair tile other grid grid' North South level same (λ p. refl) (λ p. refl)
    ∙ sym (seen_pairs east_pair other grid' South h' n' vs' k (one_sight _ h' _ n' _ vs' _ q (is_seen other grid' k)))
