use Rattle.std.proofs.Common.{rules}
use Rattle.std.specs.Prelude.{length}
use Rattle.std.proofs.lemmas.List.{take_rest}
use Rattle.hgt_cells.specs.Name.{last_part}
use Rattle.hgt_cells.proofs.Parts.{start_behind, start_of_all}
use Rattle.hgt_cells.proofs.name.last_part.Goals as goal

pub returns-in-Some : goal.returns-in-Some
unfolding last_part
returns-in-Some c =
    let name = c.args.name.now in
    let found = start_behind name c.in-Some.at (length name) (search rules) (search rules) (search rules) in
    rw (found, take_rest)

pub returns-in-None : goal.returns-in-None
unfolding last_part
returns-in-None c =
    let name = c.args.name.now in
    let all = start_of_all name (length name) (search rules) in
    rw all
