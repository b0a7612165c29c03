-- The window's axes are those of the definition.
use Rattle.std.proofs.Common.{◌∙◌, sym, length, ℕ}
use Rattle.std.specs.Prelude.{ℤ}
use Rattle.std.proofs.lemmas.Int.{to_z-of_z}
use Rattle.tile_mesh.specs.Plane.{triangles_in}
use Rattle.lattice_sweep.proofs.Bounds.{bounds_none, bounds_same}
use Rattle.post_bound.proofs.Levels.{window_of, no_posts, no_window}
use Rattle.post_bound.proofs.SweptWindows.{window_law}
use Rattle.post_bound.proofs.window.one_cell.Goals as goal

pub returns-then-not-has_cell-clause-value : goal.returns-then-not-has_cell-clause-value
returns-then-not-has_cell-clause-value g c told is =
    let agree = g.met.P.PostSource.agree c.args.src.now (g.S.Store.holds c.args.store.now) told is in
    bounds_none (no_posts told c.args.tile (triangles_in c.args.mesh.now) c.args.key c.args.turns (agree.keys c.args.key ∙ sym c.if-not-has_cell.ensures))

pub returns-then-not-have_posts-clause-value : goal.returns-then-not-have_posts-clause-value
returns-then-not-have_posts-clause-value g c told is =
    let r = c.ranges.turns in
    let mesh = c.args.mesh.now in
    let columns = simp to_z-of_z at c.columns_over.ensures.columns in
    bounds_none (λ n u w. no_window told c.args.key (triangles_in mesh) c.cut-east.result c.cut-north.result (length (triangles_in mesh)) (sym c.if-not-have_posts.ensures) n u
    ((window_law told c.args.tile (triangles_in mesh) c.args.key c.args.turns c.columns_over.result c.rows_over.result c.cut-east.result c.cut-north.result n u
    c.requires.deep columns c.rows_over.ensures.rows c.cut-east.ensures.cut c.cut-north.ensures.cut).1 w))

pub every_triangle-requires-clause-window : goal.every_triangle-requires-clause-window
every_triangle-requires-clause-window g c =
    let r = c.ranges.turns in
    let columns = simp to_z-of_z at c.columns_over.ensures.columns in
    window_of (g.P.PostSource.shapes c.args.src.now) c.args.tile c.args.key c.args.turns c.columns_over.result c.rows_over.result c.cut-east.result c.cut-north.result
    (sym c.if-not-has_cell.ensures) columns c.rows_over.ensures.rows c.cut-east.ensures.cut c.cut-north.ensures.cut c.cut-east.ensures.axis c.cut-north.ensures.axis

pub returns-clause-value : goal.returns-clause-value
returns-clause-value g c told is =
    let r = c.ranges.turns in
    let mesh = c.args.mesh.now in
    let columns = simp to_z-of_z at c.columns_over.ensures.columns in
    let law = λ (gap : ℕ) (under : ℤ). window_law told c.args.tile (triangles_in mesh) c.args.key c.args.turns c.columns_over.result c.rows_over.result
    c.cut-east.result c.cut-north.result gap under c.requires.deep columns c.rows_over.ensures.rows c.cut-east.ensures.cut c.cut-north.ensures.cut in
    bounds_same (λ n u i. (law n u).0 i) (λ n u w. (law n u).1 w) (c.in_ok-after.ensures.value told is)
