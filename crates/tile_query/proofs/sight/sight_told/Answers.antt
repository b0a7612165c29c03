-- The text is that of the answer.
use Rattle.std.proofs.lemmas.Result.{IfOk-weaker}
use Rattle.tile_query.proofs.sight.sight_told.Goals as goal

pub returns : goal.returns
returns c =
    IfOk-weaker c.sight_text.result _ _
    (λ text e. record { answer = c.in_ok-answer.answer; is = c.in_ok-answer.ensures.answer; text_is = e })
    c.sight_text.ensures
