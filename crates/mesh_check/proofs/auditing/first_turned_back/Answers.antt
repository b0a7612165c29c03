-- The first one.
use Rattle.std.specs.Prelude.{pos}
use Rattle.mesh_plane.specs.declared.corner.Corner.{Corner}
use Rattle.mesh_plane.specs.declared.corner.Tri.{Tri}
use Rattle.std.proofs.Common.{◌≡◌, true, false, sym, refl}
use Rattle.mesh_check.proofs.MeshPlaced.{first_turned, turned_on}
use Rattle.mesh_check.proofs.auditing.first_turned_back.Goals as goal

abbrev none : Tri
none = let o : Corner = record { u = pos 0; v = pos 0; h = pos 0 } in record { a = o; b = o; c = o }

pub returns-then-not-is_counter_clockwise-clause-found : goal.returns-then-not-is_counter_clockwise-clause-found
returns-then-not-is_counter_clockwise-clause-found c =
    first_turned c.args.triangles.now c.loop-number.number none c.loop-number-test.true c.loop-number.invariant
    (λ h. let f : true ≡ false = sym (c.if-not-is_counter_clockwise.ensures.1 h) in cc)

pub loop-number-preserved : goal.loop-number-preserved
loop-number-preserved c =
    turned_on c.args.triangles.now c.loop-number.number none c.loop-number-test.true c.loop-number.invariant
    (c.if-not-is_counter_clockwise.ensures.0 refl)
