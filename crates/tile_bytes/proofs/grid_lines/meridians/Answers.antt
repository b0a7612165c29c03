use Rattle.std.proofs.Common.{◌≡◌, ap, ◌∙◌, arith}
use Rattle.tile_bytes.specs.GridLines.{meridians_of}
use Rattle.tile_bytes.proofs.Lines.{next_meridian}
use Rattle.tile_bytes.proofs.grid_lines.meridians.Goals as goal

pub loop-i-preserved : goal.loop-i-preserved
loop-i-preserved c =
    next_meridian c.args.tile c.loop-i.i c.loop-i.lines.items c.push.new.self.items c.tile_place-place.result c.at.result c.loop-i.invariant
    c.tile_place-place.ensures.value c.at.ensures.exact c.in_ok-push.ensures.items

pub returns : goal.returns
returns c =
    let end : c.loop-i.i ≡ 67 = omega (arith, c.loop-i.auto.i-end, c.loop-i-test.false) in
    c.loop-i.invariant ∙ ap (meridians_of c.args.tile) end
