-- What is seen of a terrain file is its mesh and nothing else.
use Rattle.std.proofs.Common.{◌≡◌, ℕ, zero, suc, ◌*◌, ◌<◌, arith, refl, sym, ap, ◌∙◌, subst, List, [], ◌∷◌, map, length, All}
use Rattle.std.specs.Prelude.{ℤ, pos, ◌+ℤ◌, ◌-ℤ◌, ◌*ℤ◌, slice_index_or}
use Rattle.std.specs.List.{AllByRecursion}
use Rattle.std.proofs.lemmas.Int.{ints}
use Rattle.std.proofs.lemmas.List.{length-map}
use Rattle.std.proofs.lemmas.List.Elements.{All-map, recursion_from_All}
use Rattle.common_laws.proofs.Lists.{map_same}
use Rattle.terrain_base.specs.declared.tile.TileId.{TileId}
use Rattle.terrain_base.specs.declared.indexes.Indexes.{Indexes}
use Rattle.terrain_base.specs.Grid.{IsGrid}
use Rattle.tms_tree.specs.Place.{place_of}
use Rattle.tms_tree.proofs.Places.{place_fits}
use Rattle.float_bits.specs.Binary32.{IsBits32}
use Rattle.float_bits.proofs.Formats.{one_number32}
use Rattle.height_lattice.specs.declared.height_frame.HeightFrame.{HeightFrame}
use Rattle.ecef_boxes.specs.Bounds.{IsBoxWithin}
use Rattle.mesh_codec.specs.declared.codes.Codes.{Codes}
use Rattle.mesh_codec.specs.declared.header.Header.{Header}
use Rattle.mesh_codec.specs.Mesh as coded
use Rattle.mesh_codec.specs.Tile.{Decodes}
use Rattle.mesh_codec.proofs.TextDecodes.{text_decodes}
use Rattle.mesh_codec.proofs.Uniqueness.{same_mesh}
use Rattle.tile_mesh.specs.declared.point.MeshPoint.{MeshPoint}
use Rattle.tile_mesh.specs.Mesh.{Mesh, mesh_of_grid}
use Rattle.tile_mesh.specs.Plane as plane
use Rattle.tile_mesh.proofs.Lengths.{few_triangles}
use Rattle.tile_mesh.proofs.MeshNumbers.{numbered_law}
use Rattle.tile_mesh.proofs.VertexHeights.{grid_heights_in_range}
use Rattle.float_bits.specs.Binary32.{bits32_of}
use Rattle.height_lattice.specs.HeightCode.{code_of}
use Rattle.tile_rule.specs.Tile.{frame_in, codes_of, coded_mesh, vertex_box, boxes_in, sphere_in, header_in, terrain_in}
use Rattle.tile_rule.specs.Seen.{Vertex, IsVertex, IsSeen, corner_at, triangle_of, triangles_of}
use Rattle.ecef_boxes.proofs.SmallBoxes.{box_small}
use Rattle.bound_spheres.specs.Sphere.{IsSmall}
use Rattle.bound_spheres.proofs.SphereOf.{sphere_small}
use Rattle.tile_rule.proofs.Coding.{has_spelling}
use Rattle.height_lattice.proofs.Frames.{code_of_is}
use Rattle.tile_rule.proofs.Headers.{header_in_is}
use Rattle.float_bits.proofs.Patterns.{bits32_is}
use Rattle.tile_rule.proofs.Vertices.{HasFrame, has_frame}

-- ---- what is seen
abbrev pub vertex_of : HeightFrame → MeshPoint → Vertex
vertex_of frame p = record { codes = codes_of frame p; metres = p.metres }

abbrev pub vertices_in : Mesh → List Vertex
vertices_in m = map (vertex_of (frame_in m)) m.points

pub frame_of_grid : (grid : List ℤ) (z : ℕ) → IsGrid grid → HasFrame (mesh_of_grid grid z)
frame_of_grid grid z h = has_frame (mesh_of_grid grid z) (numbered_law grid z).some (grid_heights_in_range grid z h)

pub boxes_small : (tile : TileId) (grid : List ℤ) → IsGrid grid → All (IsBoxWithin 31) (boxes_in tile (mesh_of_grid grid tile.z))
boxes_small tile grid h =
    let m = mesh_of_grid grid tile.z in
    All-map (IsBoxWithin 31) (vertex_box tile) m.points (λ k d l.
    let p = slice_index_or m.points k d in
    let g = (numbered_law grid tile.z).on_grid k d l in
    let r = grid_heights_in_range grid tile.z h k d l in
    box_small (place_of tile p.i p.j) p.metres (place_fits tile p.i p.j g.column g.row) (omega (arith, ints, r.above, r.below)))

pub some_boxes : (tile : TileId) (grid : List ℤ) → 0 < length (boxes_in tile (mesh_of_grid grid tile.z))
some_boxes tile grid =
    let m = mesh_of_grid grid tile.z in
    omega (arith, (numbered_law grid tile.z).some, length-map m.points (vertex_box tile))

pub small_sphere : (tile : TileId) (grid : List ℤ) → IsGrid grid → IsSmall (sphere_in tile (mesh_of_grid grid tile.z))
unfolding sphere_in
small_sphere tile grid h = sphere_small (boxes_in tile (mesh_of_grid grid tile.z)) (some_boxes tile grid) (boxes_small tile grid h)

decodes : (tile : TileId) (grid : List ℤ) → IsGrid grid → let m = mesh_of_grid grid tile.z in Decodes (terrain_in tile m) (header_in tile m) (coded_mesh m) []
unfolding terrain_in
decodes tile grid h =
    let m = mesh_of_grid grid tile.z in
    let f = frame_of_grid grid tile.z h in
    let s = has_spelling m (numbered_law grid tile.z) (few_triangles grid tile.z) f in
    text_decodes (header_in tile m) (coded_mesh m) (header_in_is tile m f.base f.range (small_sphere tile grid h)) s.0 s.1

same_codes : (frame : HeightFrame) (ps : List MeshPoint) → map (λ vertex. vertex.codes) (map (vertex_of frame) ps) ≡ map (codes_of frame) ps
same_codes frame [] = refl
same_codes frame (p ∷ ps) = ap (λ cs. codes_of frame p ∷ cs) (same_codes frame ps)

code_stands : (frame : HeightFrame) (metres : ℤ) (code : ℕ) → pos (code * frame.range) ≡ (metres -ℤ frame.base) *ℤ pos 32767
    → (metres -ℤ frame.base) *ℤ pos 32767 ≡ pos code *ℤ ((frame.base +ℤ pos frame.range) -ℤ frame.base)
code_stands frame metres code e =
    let width : (frame.base +ℤ pos frame.range) -ℤ frame.base ≡ pos frame.range = omega (arith, ints) in
    let product : pos code *ℤ pos frame.range ≡ pos (code * frame.range) = omega (arith, ints) in
    sym e ∙ sym product ∙ ap (λ x. pos code *ℤ x) (sym width)

codes_are : (m : Mesh) → map (λ vertex. vertex.codes) (vertices_in m) ≡ (coded_mesh m).vertices
unfolding coded_mesh
codes_are m = same_codes (frame_in m) m.points

least_field : (tile : TileId) (m : Mesh) → (header_in tile m).least ≡ bits32_of (frame_in m).base
unfolding header_in
least_field tile m = refl

greatest_field : (tile : TileId) (m : Mesh) → (header_in tile m).greatest ≡ bits32_of ((frame_in m).base +ℤ pos (frame_in m).range)
unfolding header_in
greatest_field tile m = refl

least_stands : (tile : TileId) (m : Mesh) → HasFrame m → IsBits32 (frame_in m).base (header_in tile m).least
least_stands tile m f =
    rw (least_field tile m) (bits32_is (frame_in m).base (let b = f.base in omega (arith, ints, b.above, b.below)))

greatest_stands : (tile : TileId) (m : Mesh) → HasFrame m → IsBits32 ((frame_in m).base +ℤ pos (frame_in m).range) (header_in tile m).greatest
greatest_stands tile m f =
    rw (greatest_field tile m) (bits32_is ((frame_in m).base +ℤ pos (frame_in m).range) (let b = f.base in let r = f.range in omega (arith, ints, b.above, b.below, r)))

pub is_seen : (tile : TileId) (grid : List ℤ) → IsGrid grid → let m = mesh_of_grid grid tile.z in IsSeen (terrain_in tile m) (header_in tile m) (coded_mesh m) (vertices_in m)
is_seen tile grid h =
    let m = mesh_of_grid grid tile.z in
    let f = frame_of_grid grid tile.z h in
    let frame = frame_in m in
    record {
      decodes = decodes tile grid h;
      codes = codes_are m;
      least = frame.base;
      greatest = frame.base +ℤ pos frame.range;
      least_is = least_stands tile m f;
      greatest_is = greatest_stands tile m f;
      each = All-map (IsVertex frame.base (frame.base +ℤ pos frame.range)) (vertex_of frame) m.points (λ k d l.
          let p = slice_index_or m.points k d in
          record { metres = code_stands frame p.metres (code_of frame p.metres) (code_of_is frame p.metres f.frame.divides (f.within k d l).low) });
    }

-- ---- and nothing else
abbrev head_or : Codes → List Codes → Codes
head_or d [] = d
head_or d (x ∷ xs) = x

abbrev rest : List Codes → List Codes
rest [] = []
rest (x ∷ xs) = xs

same_vertex : (v w : Vertex) → v.codes ≡ w.codes → v.metres ≡ w.metres → v ≡ w
same_vertex v w p q = ap (λ c. let u : Vertex = record { codes = c; metres = v.metres } in u) p ∙ ap (λ m. let u : Vertex = record { codes = w.codes; metres = m } in u) q

same_metres : (least greatest : ℤ) (v w : Vertex) → v.codes ≡ w.codes → IsVertex least greatest v → IsVertex least greatest w → v.metres ≡ w.metres
same_metres least greatest v w e p q =
    let same : pos v.codes.height *ℤ (greatest -ℤ least) ≡ pos w.codes.height *ℤ (greatest -ℤ least) = ap (λ (c : Codes). pos c.height *ℤ (greatest -ℤ least)) e in
    let both : (v.metres -ℤ least) *ℤ pos 32767 ≡ (w.metres -ℤ least) *ℤ pos 32767 = p.metres ∙ same ∙ sym q.metres in
    omega (arith, ints, both)

-- the codes fix the vertices
same_vertices : (least greatest : ℤ) (vs ws : List Vertex) → map (λ vertex. vertex.codes) vs ≡ map (λ vertex. vertex.codes) ws
    → AllByRecursion (IsVertex least greatest) vs → AllByRecursion (IsVertex least greatest) ws → vs ≡ ws
same_vertices least greatest [] [] e p q = refl
same_vertices least greatest [] (w ∷ ws) e p q = absurd (let l = ap length e in omega (arith, l))
same_vertices least greatest (v ∷ vs) [] e p q = absurd (let l = ap length e in omega (arith, l))
same_vertices least greatest (v ∷ vs) (w ∷ ws) e p q =
    let first : v.codes ≡ w.codes = ap (head_or v.codes) e in
    let more = ap rest e in
    ap (λ u. u ∷ vs) (same_vertex v w first (same_metres least greatest v w first p.0 q.0))
    ∙ ap (λ us. w ∷ us) (same_vertices least greatest vs ws more p.1 q.1)

-- two sights of one file are one
pub one_sight : (bytes : List ℕ) (h k : Header) (m n : coded.Mesh) (vs ws : List Vertex) → IsSeen bytes h m vs → IsSeen bytes k n ws
    → (h ≡ k) × (m ≡ n) × (vs ≡ ws)
one_sight bytes h k m n vs ws p q =
    let header : h ≡ k = sym p.decodes.header_is ∙ q.decodes.header_is in
    let mesh : m ≡ n = same_mesh bytes h m [] p.decodes ∙ sym (same_mesh bytes k n [] q.decodes) in
    let least : q.least ≡ p.least = one_number32 q.least p.least k.least q.least_is (subst (λ (i : Header). IsBits32 p.least i.least) header p.least_is) in
    let greatest : q.greatest ≡ p.greatest = one_number32 q.greatest p.greatest k.greatest q.greatest_is (subst (λ (i : Header). IsBits32 p.greatest i.greatest) header p.greatest_is) in
    let each : All (IsVertex p.least p.greatest) ws = subst (λ (l : ℤ). All (IsVertex l p.greatest) ws) least (subst (λ (g : ℤ). All (IsVertex q.least g) ws) greatest q.each) in
    let codes : map (λ vertex. vertex.codes) vs ≡ map (λ vertex. vertex.codes) ws = p.codes ∙ ap (λ (i : coded.Mesh). i.vertices) mesh ∙ sym q.codes in
    (header, mesh, same_vertices p.least p.greatest vs ws codes (recursion_from_All (IsVertex p.least p.greatest) vs p.each) (recursion_from_All (IsVertex p.least p.greatest) ws each))

-- ---- the triangles and the edges seen are those of the mesh rule
pub same_corner : (frame : HeightFrame) (ps : List MeshPoint) (n : ℕ) → corner_at (map (vertex_of frame) ps) n ≡ plane.point_corner (plane.vertex ps n)
same_corner frame [] n = refl
same_corner frame (p ∷ ps) zero = refl
same_corner frame (p ∷ ps) (suc n) = same_corner frame ps n

same_tri : (frame : HeightFrame) (ps : List MeshPoint) (t : Indexes) → triangle_of (map (vertex_of frame) ps) t ≡ plane.triangle_of ps t
same_tri frame ps t = rw (same_corner frame ps t.a, same_corner frame ps t.b, same_corner frame ps t.c) refl

pub same_triangles : (m : Mesh) → triangles_of (coded_mesh m) (vertices_in m) ≡ plane.triangles_in m
unfolding coded_mesh
same_triangles m = map_same (triangle_of (vertices_in m)) (plane.triangle_of m.points) (same_tri (frame_in m) m.points) m.triangles
