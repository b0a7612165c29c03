use Rattle.quad_split.proofs.Windows.{on_tile}
use Rattle.quad_split.proofs.triangle.point_follows.Goals as goal

pub follows_point-requires-clause-tile : goal.follows_point-requires-clause-tile
follows_point-requires-clause-tile c =
    rw (c.corner.ensures.value, c.corner-2.ensures.value, c.corner-3.ensures.value) (record {
      a = on_tile c.args.grid.now c.args.a c.requires.a;
      b = on_tile c.args.grid.now c.args.b c.requires.b;
      c = on_tile c.args.grid.now c.args.c c.requires.c;
    })

pub follows_point-requires-clause-heights : goal.follows_point-requires-clause-heights
follows_point-requires-clause-heights c =
    rw (c.corner.ensures.value, c.corner-2.ensures.value, c.corner-3.ensures.value) (record {
      a = c.corner.ensures.height;
      b = c.corner-2.ensures.height;
      c = c.corner-3.ensures.height;
    })
