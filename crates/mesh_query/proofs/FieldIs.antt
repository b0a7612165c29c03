-- The corners and the triangles of an audited tile are a mesh in metres that covers its tile.
use Rattle.std.proofs.Common.{◌≡◌, ℕ, zero, suc, ◌≤◌, ◌<◌, ◌^◌, refl, sym, subst, arith, ap, ◌∙◌, List, [], ◌∷◌, length, map}
use Rattle.std.specs.Prelude.{ℤ, pos, ◌≤ℤ◌, All}
use Rattle.std.specs.List.{AllZip, AllByRecursion}
use Rattle.std.proofs.lemmas.Int.{ints}
use Rattle.std.proofs.lemmas.List.{length-map}
use Rattle.terrain_base.specs.declared.indexes.Indexes.{Indexes}
use Rattle.float_bits.proofs.Formats.{one_number32}
use Rattle.mesh_codec.specs.declared.codes.Codes.{Codes}
use Rattle.mesh_codec.specs.declared.header.Header.{Header}
use Rattle.mesh_codec.specs.Mesh.{Mesh, IsVertex, IsTriangle, IsMesh}
use Rattle.mesh_codec.specs.Tile.{header_in, mesh_in}
use Rattle.mesh_check.specs.declared.verdict.Verdict.TheVariants.{Good}
use Rattle.mesh_check.specs.CodeMesh.{IsVerdict}
use Rattle.mesh_plane.specs.declared.corner.Corner.{Corner}
use Rattle.mesh_plane.specs.Plane.{IsOnTile}
use Rattle.mesh_plane.specs.Cover.{Covers}
use Rattle.mesh_plane.proofs.ListWords.{all_from, all_to}
use Rattle.mesh_query.specs.Metres.{AreHeights, IsCorner, IsLow, IsLowTri}
use Rattle.mesh_query.specs.Field.{MetreMesh, corner_at, tri_at, triangles_of, IsMetreMesh, AreCorners}
use Rattle.mesh_query.specs.Answer.{IsFieldOf}
use Rattle.mesh_query.proofs.Vertices.{zip_long}
use Rattle.mesh_query.proofs.FieldCovers.{IsRaised, metres_cover}

module _ (header : Header) where
  -- the header has one pair of heights
  raised : (l g : ℤ) → AreHeights header l g → (x : Codes) (y : Corner) → IsCorner header x y → IsRaised l g x y
  raised l g h x y i =
      let least : i.least ≡ l = one_number32 i.least l header.least i.heights.least_is h.least_is in
      let greatest : i.greatest ≡ g = one_number32 i.greatest g header.greatest i.heights.greatest_is h.greatest_is in
      record {
        u = i.u;
        v = i.v;
        h = rw (least, greatest) at i.metres.linear;
      }

  all_raised : (l g : ℤ) → AreHeights header l g → (xs : List Codes) (ys : List Corner)
      → AllZip (IsCorner header) xs ys → AllZip (IsRaised l g) xs ys
  all_raised l g h [] [] i = tt
  all_raised l g h [] (y ∷ ys) i = elim i [ ]
  all_raised l g h (x ∷ xs) [] i = elim i [ ]
  all_raised l g h (x ∷ xs) (y ∷ ys) i = (raised l g h x y i.0, all_raised l g h xs ys i.1)

  -- some pair of heights raises all vertices
  pub some_raised : (xs : List Codes) (ys : List Corner) → AllZip (IsCorner header) xs ys
      → (l : ℤ) × (g : ℤ) × AllZip (IsRaised l g) xs ys
  some_raised [] [] i = (pos 0, pos 0, tt)
  some_raised [] (y ∷ ys) i = elim i [ ]
  some_raised (x ∷ xs) [] i = elim i [ ]
  some_raised (x ∷ xs) (y ∷ ys) i =
      (i.0.least, i.0.greatest, all_raised i.0.least i.0.greatest i.0.heights (x ∷ xs) (y ∷ ys) i)

  place_on_tile : (m n : ℤ) (a b : ℕ) → m ≡ pos a → n ≡ pos b → a ≤ 32767 → b ≤ 32767
      → (pos 0 ≤ℤ m) × ((m ≤ℤ pos 32767) × ((pos 0 ≤ℤ n) × (n ≤ℤ pos 32767)))
  place_on_tile m n a b e f h i =
      (omega (arith, ints), (omega (arith, ints), (omega (arith, ints), omega (arith, ints))))

  on_tile : (xs : List Codes) (ys : List Corner) → AllZip (IsCorner header) xs ys → AllByRecursion IsVertex xs
      → AllByRecursion IsOnTile ys
  on_tile [] [] i a = tt
  on_tile [] (y ∷ ys) i a = elim i [ ]
  on_tile (x ∷ xs) [] i a = elim i [ ]
  on_tile (x ∷ xs) (y ∷ ys) i a =
      let p = place_on_tile y.u y.v x.u x.v i.0.u i.0.v a.0.u a.0.v in
      (record { west = p.0; east = p.1.0; south = p.1.1.0; north = p.1.1.1 }, on_tile xs ys i.1 a.1)

  all_low : (xs : List Codes) (ys : List Corner) → AllZip (IsCorner header) xs ys → AllByRecursion IsLow ys
  all_low [] [] i = tt
  all_low [] (y ∷ ys) i = elim i [ ]
  all_low (x ∷ xs) [] i = elim i [ ]
  all_low (x ∷ xs) (y ∷ ys) i = (i.0.metres.size, all_low xs ys i.1)

-- the mesh of a tile that was read, with what is known of it
pub record IsRead (bytes : List ℕ) (mesh : Mesh) (corners : List Corner) (indexes : List Indexes) : Type 0 where
  pub mesh_is : mesh ≡ mesh_in bytes
  pub keeps : IsMesh mesh
  pub corners_are : AreCorners bytes corners
  pub indexes_are : indexes ≡ mesh.triangles

module _ (bytes : List ℕ) (mesh : Mesh) (corners : List Corner) (indexes : List Indexes)
    (read : IsRead bytes mesh corners indexes) where
  zipped : AllZip (IsCorner (header_in bytes)) mesh.vertices corners
  unfolding mesh_in
  zipped = subst (λ (m : Mesh). AllZip (IsCorner (header_in bytes)) m.vertices corners) (sym read.mesh_is) read.corners_are

  long : length mesh.vertices ≡ length corners
  long = zip_long (IsCorner (header_in bytes)) mesh.vertices corners zipped

  pub numbers : All (IsTriangle (length corners)) indexes
  numbers =
      subst (λ (n : ℕ). All (IsTriangle n) indexes) long
      (subst (λ (ts : List Indexes). All (IsTriangle (length mesh.vertices)) ts) (sym read.indexes_are) read.keeps.triangles)

  module _ (good : IsVerdict mesh Good) where
    covers : Covers (map (tri_at corners) indexes)
    covers =
        let r = some_raised (header_in bytes) mesh.vertices corners zipped in
        subst (λ (ts : List Indexes). Covers (map (tri_at corners) ts)) (sym read.indexes_are)
        (metres_cover r.0 r.1 mesh corners r.2
        (all_to (IsTriangle (length mesh.vertices)) mesh.triangles read.keeps.triangles) ((good.good).0 refl).1)

    pub metre_mesh : IsMetreMesh (record { corners = corners; indexes = indexes })
    metre_mesh = record {
      on_tile = all_from IsOnTile corners (on_tile (header_in bytes) mesh.vertices corners zipped
          (all_to IsVertex mesh.vertices read.keeps.vertices));
      low = all_from IsLow corners (all_low (header_in bytes) mesh.vertices corners zipped);
      few = omega (arith, read.keeps.few_vertices, long);
      few_triangles = subst (λ (ts : List Indexes). length ts < 2 ^ 32) (sym read.indexes_are) read.keeps.few_triangles;
      numbers = numbers;
      covers = covers;
    }

    pub field_is : IsFieldOf bytes (record { corners = corners; indexes = indexes })
    unfolding mesh_in
    field_is = record {
      corners = read.corners_are;
      indexes = read.indexes_are ∙ ap (λ (m : Mesh). m.triangles) read.mesh_is;
      covers = covers;
      good = subst (λ (m : Mesh). IsVerdict m Good) read.mesh_is good;
    }

-- the triangles of low corners are low
low_corner : (corners : List Corner) → AllByRecursion IsLow corners → (i : ℕ) → IsLow (corner_at corners i)
low_corner [] a i = omega arith
low_corner (c ∷ cs) a zero = a.0
low_corner (c ∷ cs) a (suc i) = low_corner cs a.1 i

low_each : (corners : List Corner) (indexes : List Indexes) → AllByRecursion IsLow corners
    → AllByRecursion IsLowTri (map (tri_at corners) indexes)
low_each corners [] a = tt
low_each corners (t ∷ ts) a = (
  record { a = low_corner corners a t.a; b = low_corner corners a t.b; c = low_corner corners a t.c },
  low_each corners ts a,
)

pub low_tris : (mesh : MetreMesh) → IsMetreMesh mesh → All IsLowTri (triangles_of mesh)
low_tris mesh h =
    all_from IsLowTri (triangles_of mesh) (low_each mesh.corners mesh.indexes (all_to IsLow mesh.corners h.low))

pub few_tris : (mesh : MetreMesh) → IsMetreMesh mesh → length (triangles_of mesh) < 2 ^ 32
few_tris mesh h =
    subst (λ (n : ℕ). n < 2 ^ 32) (sym (length-map mesh.indexes (tri_at mesh.corners))) h.few_triangles
