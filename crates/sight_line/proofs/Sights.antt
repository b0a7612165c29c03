-- Sight by the ends and the crossings, and by the breaks.
use Rattle.std.proofs.Common.{arith, subst}
use Rattle.std.specs.Prelude.{◌*ℤ◌}
use Rattle.std.proofs.lemmas.Int.{ints, by_lt_z}
use Rattle.mesh_plane.specs.Plane.{IsCounterClockwise}
use Rattle.sight_line.specs.Sight.{ClearLaw, SightLaw, line_at}
use Rattle.mesh_query.proofs.BreakCauses.{caused}
use Rattle.sight_line.proofs.Clearings.{found}

pub sight_law : SightLaw
sight_law ts p q a b cover = (
  λ c k x f u. omega (arith, ints, c k u.height x u.surface, u.below),
  λ none k h f s.
      by_lt_z ((line_at a b k).over *ℤ h.under) (h.over *ℤ (line_at a b k).under)
      (λ l.
      let x = s.shown in
      let ccw : IsCounterClockwise x.1 = subst IsCounterClockwise x.3 (cover.counter_clockwise x.0 x.1 x.2) in
      let m = found ts p q a b x.0 x.1 x.2 x.3 ccw k h f s.above_zero x.4.0 x.4.1 l in
      absurd (none m.0 m.1 m.2 m.3))
      (λ l. l),
)

pub clear_law : ClearLaw
clear_law ts p q a b cover = (
  λ c k x u. omega (arith, ints, c k u.height x.fraction u.surface, u.below),
  λ none. (sight_law ts p q a b cover).1
      (λ k i f. none k (record { fraction = i; cause = caused ts p q k i f })),
)
