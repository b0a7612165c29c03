use Rattle.std.proofs.Common.{◌≡◌, ◌-◌, ◌*◌, map}
use Rattle.std.specs.List.{range_with_len}
use Rattle.common_laws.specs.First.{first_of}
use Rattle.hgt_cells.specs.File.{lines_in}
use Rattle.hgt_cells.specs.Refusal.{number_condition, number_conditions}
use Rattle.hgt_cells.proofs.view.first_bad.Given as goal

abbrev pub invariant-loop-k : goal.invariant-loop-k
invariant-loop-k l =
    let numbers = lines_in l.bytes * lines_in l.bytes in
    (l.lines ≡ lines_in l.bytes) ×
    (first_of (map (number_condition l.bytes) (range_with_len l.k (numbers - l.k))) ≡
    first_of (number_conditions l.bytes))
