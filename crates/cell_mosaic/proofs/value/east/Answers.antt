use Rattle.std.proofs.Common.{◌≤◌, ◌+◌, ◌-◌, ◌*◌, ◌%◌, ℕ, subst, sym}
use Rattle.cell_mosaic.proofs.Values.{east_within}
use Rattle.cell_mosaic.proofs.value.east.Goals as goal

pub returns-clause-within : goal.returns-clause-within
returns-clause-within c =
    let place = c.args.place in
    let square = c.args.square in
    let h = c.requires.holds in
    subst (λ (lon : ℕ). (180 * place.p + (360 - lon) * place.d) % (360 * place.d) ≤ place.d) (sym c.lon.ensures)
    (east_within (180 * place.p) place.d square.lon h.turns h.point_turns c.requires.place.positive square.lon_in_range h.longitude)
