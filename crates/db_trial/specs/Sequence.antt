-- Commands one after the other: the state that they leave, how many are accepted, and how many tiles are made.
use Rattle.std.specs.Prelude.{ℕ, ◌+◌, Bool, is_some, cond, List, [], ◌∷◌, map}
use Rattle.std.specs.FinMap.{entries}
use Rattle.terrain_base.specs.declared.cell_key.CellKey.{CellKey}
use Rattle.tile_deps.specs.Tiles.{touched}
use Rattle.database.specs.Commands.{Command, Add, edit_of, key_of, next, refusal_of}
use Rattle.database.specs.State.{State}
use Rattle.db_files.specs.Serving.{count_existing}

abbrev pub is_refused : Command → State → Bool
is_refused c s = is_some (refusal_of c s)

abbrev pub after_all : List Command → State → State
after_all [] s = s
after_all (c ∷ commands) s = after_all commands (next c s)

abbrev pub accepted_in : List Command → State → ℕ
accepted_in [] s = 0
accepted_in (c ∷ commands) s = cond (is_refused c s) 0 1 + accepted_in commands (next c s)

abbrev pub refused_in : List Command → State → ℕ
refused_in [] s = 0
refused_in (c ∷ commands) s = cond (is_refused c s) 1 0 + refused_in commands (next c s)

-- the most tiles that are made for a command: those that exist behind it and touch its square
abbrev pub tiles_of : Command → State → ℕ
tiles_of c s =
    cond (is_refused c s) 0 (count_existing (next c s) (touched s.params.cap (key_of (edit_of c)).square))

abbrev pub tiles_made : List Command → State → ℕ
tiles_made [] s = 0
tiles_made (c ∷ commands) s = tiles_of c s + tiles_made commands (next c s)

-- the command that adds an entry of a map of cells, and those that build a state from scratch
abbrev pub adds : CellKey × List ℕ → Command
adds entry = Add entry.0 entry.1

abbrev pub adding : State → List Command
adding s = map adds (entries s.cells)
