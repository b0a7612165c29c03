use Rattle.tile_rule.specs.Tile.{note_text}
use Rattle.tile_file.proofs.note.note.Goals as goal

pub returns : goal.returns
unfolding note_text
returns c =
    rw (
      c.into_bytes.ensures.value,
      c.in_ok-text.ensures.ok,
      c.in_ok-multiple.ensures,
      c.tolerance-tolerance.ensures.value,
      c.points.ensures,
      c.triangles.ensures,
    )
