use Rattle.std.proofs.Common.{rules, FitsSigned, w16}
use Rattle.std.proofs.lemmas.Int.{to_z-of_z}
use Rattle.top_words.proofs.Same.{params_found}
use Rattle.top_words.proofs.number.params_of.Goals as goal

pub returns-clause-all : goal.returns-clause-all
returns-clause-all c = λ wanted caps fills.
    let fits : FitsSigned w16 c.args.fill = Prim.search rules in
    params_found c.of.result c.args.cap c.args.fill wanted (simp to_z-of_z at c.of.ensures.some.1) (simp to_z-of_z at c.of.ensures.value) caps fills
