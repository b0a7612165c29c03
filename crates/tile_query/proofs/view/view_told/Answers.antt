-- The text is that of the vertices.
use Rattle.std.proofs.lemmas.Result.{IfOk-weaker}
use Rattle.tile_query.proofs.view.view_told.Goals as goal

pub returns : goal.returns
returns c =
    IfOk-weaker c.view_text.result _ _
    (λ text e. record {
      seen = c.in_ok-seen.seen.items;
      are = c.in_ok-seen.ensures;
      text_is = rw (c.deref.ensures.value, c.vertices.ensures) at e;
    })
    c.view_text.ensures
