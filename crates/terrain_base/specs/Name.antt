-- The text of each name, and the order of names by their texts.
use Rattle.std.specs.Prelude.{ℕ, List, [], ◌∷◌, ◌++◌, codes, decimal}
use Rattle.std.specs.declared.cmp.Ordering.{Ordering}
use Rattle.std.specs.Ordering.{nat_cmp, on}
use Rattle.std.specs.Cmp.Lexicographic.{slice_cmp}
use Rattle.terrain_base.specs.declared.tile.TileId.{TileId}
use Rattle.terrain_base.specs.declared.cell_key.CellKey.{CellKey}
use Rattle.terrain_base.specs.declared.name.Key.{Key}
use Rattle.terrain_base.specs.declared.name.Key.TheVariants.{Manifest, Layer, Stage, Cell, OldCell, Terrain, Note}
use Rattle.terrain_base.specs.Level.{level_number}
use Rattle.terrain_base.specs.SquareText.{digit_of, square_text}

-- level, column and row in decimal (the TileJSON template `{z}/{x}/{y}`)
abbrev pub tile_text : TileId → List ℕ
tile_text tile = decimal tile.z ++ (codes "/" ++ (decimal tile.x ++ (codes "/" ++ decimal tile.y)))

-- the square's text and the number of the level, with something between them
abbrev pub key_text : List ℕ → CellKey → List ℕ
key_text between key = square_text key.square ++ (between ++ decimal (level_number key.level))

-- a key in a row of a text: the square's text, a blank and the digit of the level
abbrev pub row_text : CellKey → List ℕ
row_text key = square_text key.square ++ (32 ∷ digit_of (level_number key.level) ∷ [])

abbrev pub name_text : Key → List ℕ
name_text Manifest = codes "manifest.txt"
name_text Layer = codes "layer.json"
name_text Stage = codes "stage.dt"
name_text (Cell key) = codes "cells/" ++ (key_text (codes ".") key ++ codes ".dt")
name_text (OldCell square) = codes "cells/" ++ (square_text square ++ codes ".dt")
name_text (Terrain tile) = tile_text tile ++ codes ".terrain"
name_text (Note tile) = tile_text tile ++ codes ".txt"

-- the order of names: byte by byte, a text before those that it begins
abbrev pub by_text : Key → Key → Ordering
by_text = on name_text (slice_cmp nat_cmp)
