-- A name's text before its first dot, and behind it.
use Rattle.std.specs.Prelude.{ℕ, List, ◌++◌, codes, decimal}
use Rattle.terrain_base.specs.declared.square.Square.{Square}
use Rattle.terrain_base.specs.declared.level.CellLevel.{CellLevel}
use Rattle.terrain_base.specs.declared.name.Key.{Key}
use Rattle.terrain_base.specs.declared.name.Key.TheVariants.{Manifest, Layer, Stage, Cell, OldCell, Terrain, Note}
use Rattle.terrain_base.specs.Level.{level_number}
use Rattle.terrain_base.specs.SquareText.{square_text}
use Rattle.terrain_base.specs.Name.{tile_text}

abbrev pub cell_stem : Square → List ℕ
cell_stem square = codes "cells/" ++ square_text square

abbrev pub stem_of : Key → List ℕ
stem_of Manifest = codes "manifest"
stem_of Layer = codes "layer"
stem_of Stage = codes "stage"
stem_of (Cell key) = cell_stem key.square
stem_of (OldCell square) = cell_stem square
stem_of (Terrain tile) = tile_text tile
stem_of (Note tile) = tile_text tile

abbrev pub level_ending : CellLevel → List ℕ
level_ending level = decimal (level_number level) ++ codes ".dt"

abbrev pub ending_of : Key → List ℕ
ending_of Manifest = codes "txt"
ending_of Layer = codes "json"
ending_of Stage = codes "dt"
ending_of (Cell key) = level_ending key.level
ending_of (OldCell square) = codes "dt"
ending_of (Terrain tile) = codes "terrain"
ending_of (Note tile) = codes "txt"
