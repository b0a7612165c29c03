-- A filter by the level.
use Rattle.std.proofs.Common.{rules}
use Rattle.std.proofs.lemmas.Fn.{filter_same}
use Rattle.mesh_check.specs.Spans.{reaches_up}
use Rattle.mesh_check.proofs.active.let_go.Goals as goal

pub returns-clause-items : goal.returns-clause-items
returns-clause-items c = filter_same _ (reaches_up c.args.high) _
    (λ x r f' k. search rules) _ _ c.retain.ensures.filtered
