use Rattle.quad_split.proofs.Windows.{is_in_window}
use Rattle.quad_split.proofs.triangle.triangle_follows.Goals as goal

pub follows_window-requires-clause-tri : goal.follows_window-requires-clause-tri
follows_window-requires-clause-tri c =
    rw (c.corner.ensures.value, c.corner-2.ensures.value, c.corner-3.ensures.value)
    (is_in_window c.args.grid.now c.window_of.result c.args.a c.args.b c.args.c c.window_of.ensures.a c.window_of.ensures.b
    c.window_of.ensures.c c.requires.counter_clockwise c.requires.a c.requires.b c.requires.c c.corner.ensures.height
    c.corner-2.ensures.height c.corner-3.ensures.height)
