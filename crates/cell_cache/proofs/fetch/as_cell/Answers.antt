use Rattle.std.proofs.Common.{◌≡◌, None, rules}
use Rattle.dted_cell.specs.Cell.{square_in, level_in}
use Rattle.dted_cell.specs.Refusal.{refusal_of}
use Rattle.cell_cache.proofs.Fetching.{same_degrees, of_level}
use Rattle.cell_cache.proofs.fetch.as_cell.Goals as goal

pub returns-then-not-is-clause-trouble : goal.returns-then-not-is-clause-trouble
returns-then-not-is-clause-trouble c =
    let accepted : refusal_of c.args.bytes.items ≡ None = search rules in
    let square_is : c.square-square.result ≡ square_in c.args.bytes.items = search rules in
    let level_is : c.level-found.result ≡ level_in c.args.bytes.items = search rules in
    of_level c.args.key c.args.bytes.items c.square-square.result c.level-found.result accepted square_is level_is c.args.name c.requires
    (same_degrees c.square-square.result c.args.key.square c.ne.result c.ne.ensures c.if-ne.false)
    (λ e. absurd (let yes = c.is.ensures.no e in cc))
