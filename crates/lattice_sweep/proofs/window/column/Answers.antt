-- The rows that the triangle holds, if there are any.
use Rattle.std.proofs.Common.{ℕ, rules, subst, FitsSigned, w64}
use Rattle.std.specs.Prelude.{◌↔◌, ℤ, pos}
use Rattle.std.proofs.lemmas.Int.{to_z-of_z}
use Rattle.mesh_plane.specs.Plane.{TriangleHolds}
use Rattle.lattice_sweep.specs.Axis.{Has, point_of}
use Rattle.lattice_sweep.proofs.Raising.{raised_none}
use Rattle.lattice_sweep.proofs.Windows.{no_rows}
use Rattle.lattice_sweep.proofs.window.column.Goals as goal

pub returns-then-rows-clause-value : goal.returns-then-rows-clause-value
returns-then-rows-clause-value g c told is =
    let w = c.args.window.now in let t = c.args.tri.now in
    let u_fits : FitsSigned w64 c.at.result = search rules in
    let at_place = simp to_z-of_z at c.held-rows.ensures in
    let held = subst (λ (u : ℤ). (i : ℕ) → Has c.held-rows.result i ↔ (Has w.north i × TriangleHolds (pos 10125) u (point_of w.north i) t)) c.at.ensures at_place in
    raised_none (no_rows told w.key c.args.col t (point_of w.east c.args.col) w.north c.held-rows.result held c.if-rows.true)

pub climb-requires-clause-rows : goal.climb-requires-clause-rows
climb-requires-clause-rows g c =
    let w = c.args.window.now in let t = c.args.tri.now in
    let u_fits : FitsSigned w64 c.at.result = search rules in
    let at_place = simp to_z-of_z at c.held-rows.ensures in
    subst (λ (u : ℤ). (i : ℕ) → Has c.held-rows.result i ↔ (Has w.north i × TriangleHolds (pos 10125) u (point_of w.north i) t)) c.at.ensures at_place
