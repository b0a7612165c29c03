-- What the lists of tiles and squares are, in the words of the subject.
use Rattle.std.specs.Prelude.{◌≡◌, ◌≢◌, ℕ, ◌≤◌, ◌↔◌, List, length}
use Rattle.std.specs.List.{AllPairs, Contains}
use Rattle.std.specs.declared.cmp.Ordering.TheVariants.{Less}
use Rattle.terrain_base.specs.SquareOrder.{square_cmp}
use Rattle.terrain_base.specs.TileOrder.{tile_cmp}
use Rattle.terrain_base.specs.declared.square.Square.{Square}
use Rattle.terrain_base.specs.declared.summary.Summary.{Summary}
use Rattle.terrain_base.specs.declared.tile.TileId.{TileId}
use Rattle.tms_tree.specs.Touch.{Touches}
use Rattle.availability.specs.Count.{tile_count_of}
use Rattle.availability.specs.Existence.{Exists}
use Rattle.tile_deps.specs.Squares.{squares_of, touching}
use Rattle.tile_deps.specs.Tiles.{existing, touched}

-- each tile comes before every later one, so that none comes twice
abbrev pub TilesAscend : List TileId → Type 0
TilesAscend tiles = AllPairs (λ a b. tile_cmp a b ≡ Less) tiles

-- the same of squares
abbrev pub SquaresAscend : List Square → Type 0
SquaresAscend squares = AllPairs (λ a b. square_cmp a b ≡ Less) squares

-- no cell's square comes before that of an earlier cell
abbrev pub DoNotDescend : List Summary → Type 0
DoNotDescend cells = AllPairs (λ a b. square_cmp b.square a.square ≢ Less) cells

-- ---- the tiles that touch a square

-- they are those of the levels to the cap that share a point with it
abbrev pub TouchedLaw : Type 0
TouchedLaw = (cap : ℕ) (square : Square) (tile : TileId) → Contains (touched cap square) tile
    ↔ ((tile.z ≤ cap) × Touches tile square)

abbrev pub TouchedAscendLaw : Type 0
TouchedAscendLaw = (cap : ℕ) (square : Square) → TilesAscend (touched cap square)

-- ---- the existing tiles

abbrev pub ExistingLaw : Type 0
ExistingLaw = (cap : ℕ) (cells : List Summary) (tile : TileId) → Contains (existing cap cells) tile
    ↔ Exists cap cells tile

abbrev pub ExistingAscendLaw : Type 0
ExistingAscendLaw = (cap : ℕ) (cells : List Summary) → TilesAscend (existing cap cells)

-- they are as many as the count says
abbrev pub ExistingCountLaw : Type 0
ExistingCountLaw = (cap : ℕ) (cells : List Summary) → length (existing cap cells) ≡ tile_count_of cap cells

-- ---- the squares that touch a tile

-- a square is among those of the cells exactly where it is the square of one
abbrev pub SquaresLaw : Type 0
SquaresLaw = (cells : List Summary) (square : Square) → Contains (squares_of cells) square
    ↔ ((cell : Summary) × Contains cells cell × (cell.square ≡ square))

-- where the cells do not descend, the squares ascend
abbrev pub SquaresAscendLaw : Type 0
SquaresAscendLaw = (cells : List Summary) → DoNotDescend cells → SquaresAscend (squares_of cells)

-- of the squares that touch a tile, each is one of the squares and shares a point with the tile
abbrev pub TouchingLaw : Type 0
TouchingLaw = (tile : TileId) (squares : List Square) (square : Square) → Contains (touching tile squares) square
    ↔ (Contains squares square × Touches tile square)

-- and they stand in the order of the squares
abbrev pub TouchingAscendLaw : Type 0
TouchingAscendLaw = (tile : TileId) (squares : List Square) → SquaresAscend squares
    → SquaresAscend (touching tile squares)
