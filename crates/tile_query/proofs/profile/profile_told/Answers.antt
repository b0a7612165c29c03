-- The text is that of the breaks.
use Rattle.std.proofs.lemmas.Result.{IfOk-weaker}
use Rattle.tile_query.proofs.profile.profile_told.Goals as goal

pub returns : goal.returns
returns c =
    IfOk-weaker c.profile_text.result _ _
    (λ text e. record {
      breaks = c.in_ok-list.list.items;
      are = c.in_ok-list.ensures.profile;
      text_is = rw c.deref.ensures.value at e;
    })
    c.profile_text.ensures
