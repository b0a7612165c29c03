use Rattle.std.proofs.Common.{refl, ap, string_bytes}
use Rattle.terrain_top.proofs.Surfaces.{told_surface}
use Rattle.terrain_top.proofs.query.tell_surface.Goals as goal

pub returns-in-Told-clause-says : goal.returns-in-Told-clause-says
returns-in-Told-clause-says c =
    told_surface c.args.tile c.args.question.now c.args.terrain.now (string_bytes c.in-Told.text) _ (rw c.in-Told.is at c.in_ok-text.ensures) refl
    (ap (λ vec. vec.items) c.into_bytes.ensures.value)
