-- What the value at a place in a cell is, in the words of the cell: at a post that post, and in the mesh of four posts
-- round the place their bilinear blend, each post by the rectangle that lies opposite to it.
use Rattle.std.specs.Prelude.{
  ◌≡◌,
  ◌≢◌,
  ◌⊎◌,
  ℕ,
  ◌+◌,
  ◌*◌,
  ◌<◌,
  ◌≤◌,
  ℤ,
  pos,
  ◌+ℤ◌,
  ◌*ℤ◌,
  ◌≤ℤ◌,
  List,
  [],
  ◌∷◌,
  ◌++◌,
  Contains,
}
use Rattle.std.specs.List.{AllByRecursion}
use Rattle.terrain_base.specs.declared.square.Square.{Square}
use Rattle.terrain_base.specs.declared.level.CellLevel.{CellLevel}
use Rattle.terrain_base.specs.declared.post.Post.{Post}
use Rattle.terrain_base.specs.declared.post.Post.TheVariants.{Void, Metres}
use Rattle.terrain_base.specs.Division.{IsFloor}
use Rattle.terrain_base.specs.Level.{rows_of, columns_of}
use Rattle.tms_tree.specs.declared.place.Place.{Place}
use Rattle.tms_tree.specs.Degrees.{RectangleHolds, square_rectangle}
use Rattle.tms_tree.specs.Place.{IsPlace, point_of}
use Rattle.cell_mosaic.specs.declared.weighted.Weighted.{Weighted}
use Rattle.cell_mosaic.specs.Value.{steps_east, steps_north, value_in_cell}

-- ---- at a post

-- the place is that of the post in this column and row: so many whole steps from the square's south-west corner
pub record IsPlaceOfPost (square : Square) (level : CellLevel) (place : Place) (col row : ℕ) : Type 0 where
  pub longitude : steps_east square level place ≡ col * place.d
  pub latitude : steps_north square level place ≡ row * place.d

-- at a post the value is that post, void or metres
abbrev pub ValueAtPost : Type 0
ValueAtPost = (posts : ℕ → ℕ → Post) (square : Square) (level : CellLevel) (place : Place) (col row : ℕ) → 0 < place.d
    → IsPlaceOfPost square level place col row
    → value_in_cell posts square level place ≡ posts col row

-- ---- in a mesh of four posts

-- a spot in the mesh of four neighbouring posts, those of the columns col and col + 1 and of the rows row and row + 1:
-- how far it lies from each of the mesh's four sides
pub record MeshSpot : Type 0 where
  pub col : ℕ
  pub row : ℕ
  pub from_west : ℕ
  pub from_east : ℕ
  pub from_south : ℕ
  pub from_north : ℕ

-- the place lies at this spot, inside the mesh or on its border, where neighbouring columns, and neighbouring rows, are
-- `place.d` apart
pub record LiesAt (square : Square) (level : CellLevel) (place : Place) (spot : MeshSpot) : Type 0 where
  pub width : spot.from_west + spot.from_east ≡ place.d
  pub height : spot.from_south + spot.from_north ≡ place.d
  pub longitude : steps_east square level place ≡ spot.col * place.d + spot.from_west
  pub latitude : steps_north square level place ≡ spot.row * place.d + spot.from_south

-- the place lies in a mesh whose four posts the cell has
pub record HasMesh (square : Square) (level : CellLevel) (place : Place) : Type 0 where
  pub spot : MeshSpot
  pub there : LiesAt square level place spot
  pub columns : spot.col + 1 < columns_of square level
  pub rows : spot.row + 1 < rows_of level

-- every place that the square holds does
abbrev pub PlacesHaveMeshes : Type 0
PlacesHaveMeshes = (square : Square) (level : CellLevel) (place : Place)
    → IsPlace place → RectangleHolds (square_rectangle square) (point_of place) → HasMesh square level place

-- the weight of each of the four posts: the rectangle between the spot and the corner opposite to the post
abbrev pub sw_weight : MeshSpot → ℕ
sw_weight spot = spot.from_east * spot.from_north

abbrev pub se_weight : MeshSpot → ℕ
se_weight spot = spot.from_west * spot.from_north

abbrev pub nw_weight : MeshSpot → ℕ
nw_weight spot = spot.from_east * spot.from_south

abbrev pub ne_weight : MeshSpot → ℕ
ne_weight spot = spot.from_west * spot.from_south

-- the four posts, south-west, south-east, north-west, north-east, with their weights
abbrev pub corners : (ℕ → ℕ → Post) → MeshSpot → List Weighted
corners posts spot =
    record { post = posts spot.col spot.row; weight = sw_weight spot }
    ∷ record { post = posts (spot.col + 1) spot.row; weight = se_weight spot }
    ∷ record { post = posts spot.col (spot.row + 1); weight = nw_weight spot }
    ∷ record { post = posts (spot.col + 1) (spot.row + 1); weight = ne_weight spot }
    ∷ []

-- each of the four that has a weight above 0 is so many metres
pub record AreMetres (posts : ℕ → ℕ → Post) (spot : MeshSpot) (sw se nw ne : ℤ) : Type 0 where
  pub sw_is : 0 < sw_weight spot → posts spot.col spot.row ≡ Metres sw
  pub se_is : 0 < se_weight spot → posts (spot.col + 1) spot.row ≡ Metres se
  pub nw_is : 0 < nw_weight spot → posts spot.col (spot.row + 1) ≡ Metres nw
  pub ne_is : 0 < ne_weight spot → posts (spot.col + 1) (spot.row + 1) ≡ Metres ne

-- the sum of four heights by the weights
abbrev pub sum_by_weights : MeshSpot → ℤ → ℤ → ℤ → ℤ → ℤ
sum_by_weights spot sw se nw ne =
    ((sw *ℤ pos (sw_weight spot)) +ℤ (se *ℤ pos (se_weight spot)))
    +ℤ ((nw *ℤ pos (nw_weight spot)) +ℤ (ne *ℤ pos (ne_weight spot)))

-- the value is the bilinear blend of the four heights: their sum by the weights over the whole mesh, which the weights
-- make up, and 1/2, rounded down
pub record IsBlend (spot : MeshSpot) (mesh : ℕ) (sw se nw ne : ℤ) (value : Post) : Type 0 where
  pub metres : ℤ
  pub value_is : value ≡ Metres metres
  pub weights : (sw_weight spot + se_weight spot) + (nw_weight spot + ne_weight spot) ≡ mesh
  pub rounded_down : IsFloor ((sum_by_weights spot sw se nw ne *ℤ pos 2) +ℤ pos mesh) (pos (2 * mesh)) metres

-- where the four posts are metres, but for those of weight 0, the value is their blend
abbrev pub ValueIsBlend : Type 0
ValueIsBlend = (posts : ℕ → ℕ → Post) (square : Square) (level : CellLevel) (place : Place) (spot : MeshSpot)
    (sw se nw ne : ℤ) → 0 < place.d → LiesAt square level place spot → AreMetres posts spot sw se nw ne
    → IsBlend spot (place.d * place.d) sw se nw ne (value_in_cell posts square level place)

-- ---- beside a void

-- a post that has a weight above 0 and is not void
pub record IsUsable (one : Weighted) : Type 0 where
  pub counts : 0 < one.weight
  pub is_known : one.post ≢ Void

-- the usable post of greatest weight, the first of these in the order of the posts
pub record IsNearest (posts : List Weighted) (one : Weighted) : Type 0 where
  pub before : List Weighted
  pub after : List Weighted
  pub order : posts ≡ before ++ one ∷ after
  pub usable : IsUsable one
  pub less : AllByRecursion (λ other. IsUsable other → other.weight < one.weight) before
  pub no_more : AllByRecursion (λ other. IsUsable other → other.weight ≤ one.weight) after

-- each that has a weight above 0 is void
abbrev pub AreVoid : List Weighted → Type 0
AreVoid posts = AllByRecursion (λ one. 0 < one.weight → one.post ≡ Void) posts

-- where a void has a weight above 0, the value is the nearest post that is not void; and void where there is none
abbrev pub ValueBesideVoid : Type 0
ValueBesideVoid = (posts : ℕ → ℕ → Post) (square : Square) (level : CellLevel) (place : Place) (spot : MeshSpot)
    (gap : Weighted) → 0 < place.d → LiesAt square level place spot
    → Contains (corners posts spot) gap → 0 < gap.weight → gap.post ≡ Void
    → ((one : Weighted) × IsNearest (corners posts spot) one × (value_in_cell posts square level place ≡ one.post))
    ⊎ (AreVoid (corners posts spot) × (value_in_cell posts square level place ≡ Void))

-- ---- which posts count

-- posts that agree at the corners with weights above 0
pub record AgreeAt (spot : MeshSpot) (posts others : ℕ → ℕ → Post) : Type 0 where
  pub sw : 0 < sw_weight spot → posts spot.col spot.row ≡ others spot.col spot.row
  pub se : 0 < se_weight spot → posts (spot.col + 1) spot.row ≡ others (spot.col + 1) spot.row
  pub nw : 0 < nw_weight spot → posts spot.col (spot.row + 1) ≡ others spot.col (spot.row + 1)
  pub ne : 0 < ne_weight spot → posts (spot.col + 1) (spot.row + 1) ≡ others (spot.col + 1) (spot.row + 1)

-- the value depends on these alone
abbrev pub ValueByCorners : Type 0
ValueByCorners = (posts others : ℕ → ℕ → Post) (square : Square) (level : CellLevel) (place : Place) (spot : MeshSpot)
    → 0 < place.d → LiesAt square level place spot → AgreeAt spot posts others
    → value_in_cell posts square level place ≡ value_in_cell others square level place

-- on a column of posts it depends on the column's two posts alone, the one south and the one north of the place
abbrev pub ValueOnColumn : Type 0
ValueOnColumn = (posts others : ℕ → ℕ → Post) (square : Square) (level : CellLevel) (place : Place) (spot : MeshSpot)
    → 0 < place.d → LiesAt square level place spot → spot.from_west ≡ 0
    → posts spot.col spot.row ≡ others spot.col spot.row
    → posts spot.col (spot.row + 1) ≡ others spot.col (spot.row + 1)
    → value_in_cell posts square level place ≡ value_in_cell others square level place

-- and on a row on the row's two posts alone, the one west and the one east of it
abbrev pub ValueOnRow : Type 0
ValueOnRow = (posts others : ℕ → ℕ → Post) (square : Square) (level : CellLevel) (place : Place) (spot : MeshSpot)
    → 0 < place.d → LiesAt square level place spot → spot.from_south ≡ 0
    → posts spot.col spot.row ≡ others spot.col spot.row
    → posts (spot.col + 1) spot.row ≡ others (spot.col + 1) spot.row
    → value_in_cell posts square level place ≡ value_in_cell others square level place

-- void, or metres from the least to the greatest
abbrev pub IsBetween : ℤ → ℤ → Post → Type 0
IsBetween least greatest Void = Unit {0}
IsBetween least greatest (Metres metres) = (least ≤ℤ metres) × (metres ≤ℤ greatest)

-- the value lies between the least and the greatest of the posts with weights above 0
abbrev pub ValueIsBetween : Type 0
ValueIsBetween = (posts : ℕ → ℕ → Post) (square : Square) (level : CellLevel) (place : Place) (spot : MeshSpot)
    (least greatest : ℤ) → 0 < place.d → LiesAt square level place spot
    → AllByRecursion (λ one. 0 < one.weight → IsBetween least greatest one.post) (corners posts spot)
    → IsBetween least greatest (value_in_cell posts square level place)
