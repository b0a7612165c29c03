use Rattle.std.proofs.Common.{sym, ◌∙◌}
use Rattle.availability.proofs.Deepest.{at_numbers}
use Rattle.heightmap_out.proofs.Masks.{none_exists}
use Rattle.heightmap_out.proofs.mask.exists_at.Goals as goal

pub returns-in-Some : goal.returns-in-Some
returns-in-Some c =
    let a = c.args in
    let is = c.in-Some.ensures.value in
    c.exists.ensures.value ∙ sym (at_numbers a.cap a.summaries.now c.in-Some.tile a.z a.y a.x is.0 is.2 is.1)

pub returns-in-None : goal.returns-in-None
returns-in-None c = none_exists c.args.cap c.args.summaries.now c.args.z c.args.y c.args.x c.in-None.ensures.some.1
