use Rattle.std.proofs.Common.{◌≡◌}
use Rattle.ecef_boxes.specs.Lines.{meridian_of}
use Rattle.ecef_boxes.specs.declared.line.Meridian.{Meridian}
use Rattle.ecef_boxes.proofs.GridLines.{meridian_is, meridian_place, made_meridian}
use Rattle.ecef_boxes.proofs.line.Meridian.at.Goals as goal

pub longitude-requires : goal.longitude-requires
longitude-requires c = meridian_place c.args.p c.args.d c.requires.positive c.requires.fine c.requires.turn

pub returns : goal.returns
returns c =
    let exact : ◌≡◌ {A = Meridian} (record { p = c.args.p; d = c.args.d; turn = c.longitude.result }) (meridian_of c.args.p c.args.d) =
    meridian_is c.args.p c.args.d c.longitude.result c.longitude.ensures.exact in
    record { exact = exact; bounds = made_meridian c.args.p c.args.d _ exact c.requires.positive c.requires.fine c.requires.turn }
