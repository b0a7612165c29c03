use Rattle.std.proofs.Common.{◌∙◌, sym, subst}
use Rattle.dted_cell.specs.Cell.{IsCell}
use Rattle.dted_write.specs.Cell.{columns_from}
use Rattle.dted_write.specs.Generate.{generated_post}
use Rattle.dted_write.proofs.Texts.{landscape_text}
use Rattle.dted_write.proofs.Landscapes.{landscape_is_cell}
use Rattle.dted_write.proofs.landscape.generate.Goals as goal

pub returns-clause-text : goal.returns-clause-text
returns-clause-text c =
    c.in_ok-text.ensures ∙ landscape_text c.in_ok-posts.posts c.args.number c.args.square c.args.level
    c.in_ok-posts.ensures.shape.0 c.in_ok-posts.ensures.shape.1 c.in_ok-posts.ensures.posts

pub returns-clause-cell : goal.returns-clause-cell
returns-clause-cell c =
    let a = c.args in
    subst (λ text. IsCell text a.square a.level (columns_from a.square a.level (generated_post a.number a.square a.level)))
    (sym (returns-clause-text c)) (landscape_is_cell a.number a.square a.level)
