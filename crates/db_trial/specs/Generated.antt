-- The commands that numbers tell.
use Rattle.std.specs.Prelude.{◌==◌, ℕ, ◌+◌, ◌/◌, ◌%◌, ◌^◌, List, map, if◌then◌else◌}
use Rattle.std.specs.List.{range_with_len}
use Rattle.terrain_base.specs.declared.cell_key.CellKey.{CellKey}
use Rattle.terrain_base.specs.declared.level.CellLevel.TheVariants.{Zero}
use Rattle.dted_cell.specs.Header.{square_of}
use Rattle.dted_write.specs.Cell.{cell_text}
use Rattle.dted_write.specs.Generate.{generated_post}
use Rattle.dted_write.specs.Mix.{mixed}
use Rattle.database.specs.Commands.{Command, Add, Replace, Remove}

-- one of nine squares round 0 degrees north and east, at level 0
abbrev pub generated_key : ℕ → CellKey
generated_key drawn = record { square = square_of (179 + drawn % 9 % 3) (89 + drawn % 9 / 3); level = Zero }

abbrev pub generated_cell : ℕ → List ℕ
generated_cell drawn = let key = generated_key drawn in
    cell_text key.square key.level (generated_post drawn key.square key.level)

-- of four, two add, one replaces and one removes
abbrev pub generated : ℕ → Command
generated drawn =
    if drawn / 9 % 4 == 3 then Remove (generated_key drawn)
    else (if drawn / 9 % 4 == 2 then Replace (generated_key drawn) (generated_cell drawn)
    else Add (generated_key drawn) (generated_cell drawn))

-- the number of a command: numbers go round at 2^64
abbrev pub drawn_at : ℕ → ℕ → ℕ
drawn_at number k = mixed ((number + k) % 2 ^ 64)

abbrev pub generated_list : ℕ → ℕ → List Command
generated_list count number = map (λ k. generated (drawn_at number k)) (range_with_len 0 count)
