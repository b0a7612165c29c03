use Rattle.top_words.specs.Meant.{edit_meant}
use Rattle.top_reply.specs.Edits.{edit_reply}
use Rattle.terrain_top.proofs.EditsGo.{edit_unread}
use Rattle.terrain_top.proofs.edit.answer_to_edit.Goals as goal

pub returns-in_err-wanted-clause-goes : goal.returns-in_err-wanted-clause-goes
returns-in_err-wanted-clause-goes g c = λ s library h tells.
    edit_unread (edit_reply (edit_meant c.args.edit.now) library s) _ _ _ _ c.in_err-wanted.field-0.0 c.from_residual.result c.in_err-wanted.ensures.asks.only c.from_residual.ensures.1
