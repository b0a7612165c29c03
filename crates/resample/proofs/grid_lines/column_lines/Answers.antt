use Rattle.std.proofs.Common.{ℕ, ◌+◌, ◌*◌, ◌^◌, ◌∙◌, length-set, arith, subst}
use Rattle.tms_tree.specs.declared.place.Place.{Place}
use Rattle.tms_tree.specs.Place.{place_of}
use Rattle.resample.specs.Line.{IsLine}
use Rattle.resample.proofs.Lines.{each_set}
use Rattle.resample.proofs.grid_lines.column_lines.Goals as goal

pub loop-i-preserved : goal.loop-i-preserved
loop-i-preserved c =
    let lines = c.loop-i.lines in
    let i = c.loop-i.i in
    let inv = c.loop-i.invariant in (
      length-set lines i c.line_at.result ∙ inv.0,
      each_set (λ (n : ℕ) line. IsLine (180 * (place_of c.args.tile n 0).p) (2 ^ c.args.tile.z * 32767) line) lines i (i + 1) c.line_at.result (omega (arith, inv.0, c.loop-i-test.true))
          (subst (λ (place : Place). IsLine (180 * place.p) place.d c.line_at.result) c.tile_place-place.ensures.value c.line_at.ensures)
          (λ n below off. inv.1 n (omega (arith, below, off))),
    )
