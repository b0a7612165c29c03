-- What a store in memory holds, by the entries of its map.
use Rattle.std.specs.Prelude.{ℕ, List, [], ◌∷◌, Vec}
use Rattle.std.specs.declared.alloc.Global.{Global}
use Rattle.std.specs.FinMap.{empty, insert}
use Rattle.terrain_base.specs.declared.name.Key.{Key}
use Rattle.terrain_base.specs.Step.{Files}

abbrev pub files_of : List (Key × Vec ℕ Global) → Files
files_of [] = empty
files_of (e ∷ es) = insert (files_of es) e.0 e.1.items
