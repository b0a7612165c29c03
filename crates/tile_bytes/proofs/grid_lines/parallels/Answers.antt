use Rattle.std.proofs.Common.{◌≡◌, ap, ◌∙◌, arith}
use Rattle.tile_bytes.specs.GridLines.{parallels_of}
use Rattle.tile_bytes.proofs.Lines.{next_parallel}
use Rattle.tile_bytes.proofs.grid_lines.parallels.Goals as goal

pub loop-j-preserved : goal.loop-j-preserved
loop-j-preserved c =
    next_parallel c.args.tile c.loop-j.j c.loop-j.lines.items c.push.new.self.items c.tile_place-place.result c.at.result c.loop-j.invariant
    c.tile_place-place.ensures.value c.at.ensures.exact c.in_ok-push.ensures.items

pub returns : goal.returns
returns c =
    let end : c.loop-j.j ≡ 67 = omega (arith, c.loop-j.auto.j-end, c.loop-j-test.false) in
    c.loop-j.invariant ∙ ap (parallels_of c.args.tile) end
