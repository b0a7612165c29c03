-- The texts of names are ASCII.
use Rattle.std.proofs.Common.{ℕ, zero, suc, List, [], ◌∷◌, ◌++◌, ◌<◌, ◌^◌, codes, decimal, arith, rules}
use Rattle.std.specs.List.{AllByRecursion}
use Rattle.std.specs.Str.{IsAscii}
use Rattle.std.proofs.lemmas.Fmt.{IsAscii-decimal}
use Rattle.std.proofs.lemmas.List.Elements.{All-from_recursion}
use Rattle.std.proofs.lemmas.Str.{IsAscii-append}
use Rattle.std.proofs.lemmas.Str.Ascii.{IsAscii-from_all}
use Rattle.terrain_base.specs.declared.level.CellLevel.{CellLevel}
use Rattle.terrain_base.specs.declared.level.CellLevel.TheVariants.{Zero, One, Two}
use Rattle.terrain_base.specs.declared.name.Key.{Key}
use Rattle.terrain_base.specs.declared.name.Key.TheVariants.{Manifest, Layer, Stage, Cell, OldCell, Terrain, Note}
use Rattle.terrain_base.specs.declared.tile.TileId.{TileId}
use Rattle.terrain_base.specs.Level.{level_number}
use Rattle.terrain_base.specs.Name.{name_text, tile_text, key_text}
use Rattle.terrain_base.specs.SquareText.{square_text}
use Rattle.terrain_base.proofs.TileNumbers.{small_z, small_y, small_x}
use Rattle.report_text.proofs.SquareWords.{square_is_ascii}

by_letters : (text : List ℕ) → AllByRecursion (λ c. c < 128) text → IsAscii text
by_letters text all = IsAscii-from_all text (All-from_recursion (λ c. c < 128) text all)

small_level : (level : CellLevel) → level_number level < 2 ^ 64
small_level Zero = omega arith
small_level One = omega arith
small_level Two = omega arith

tile_is_ascii : (tile : TileId) → IsAscii (tile_text tile)
tile_is_ascii tile =
    let slash : IsAscii (codes "/") = by_letters (codes "/") (search rules) in
    IsAscii-append (decimal tile.z) _ (IsAscii-decimal tile.z (omega (arith, small_z tile)))
    (IsAscii-append (codes "/") _ slash
    (IsAscii-append (decimal tile.x) _ (IsAscii-decimal tile.x (omega (arith, small_x tile)))
    (IsAscii-append (codes "/") _ slash (IsAscii-decimal tile.y (omega (arith, small_y tile))))))

pub name_is_ascii : (name : Key) → IsAscii (name_text name)
name_is_ascii Manifest = by_letters (name_text Manifest) (search rules)
name_is_ascii Layer = by_letters (name_text Layer) (search rules)
name_is_ascii Stage = by_letters (name_text Stage) (search rules)
name_is_ascii (Cell key) =
    IsAscii-append (codes "cells/") _ (by_letters (codes "cells/") (search rules))
    (IsAscii-append (key_text (codes ".") key) (codes ".dt")
    (IsAscii-append (square_text key.square) _ (square_is_ascii key.square)
    (IsAscii-append (codes ".") _ (by_letters (codes ".") (search rules)) (IsAscii-decimal (level_number key.level) (small_level key.level))))
    (by_letters (codes ".dt") (search rules)))
name_is_ascii (OldCell square) =
    IsAscii-append (codes "cells/") _ (by_letters (codes "cells/") (search rules))
    (IsAscii-append (square_text square) (codes ".dt") (square_is_ascii square) (by_letters (codes ".dt") (search rules)))
name_is_ascii (Terrain tile) = IsAscii-append (tile_text tile) (codes ".terrain") (tile_is_ascii tile) (by_letters (codes ".terrain") (search rules))
name_is_ascii (Note tile) = IsAscii-append (tile_text tile) (codes ".txt") (tile_is_ascii tile) (by_letters (codes ".txt") (search rules))
