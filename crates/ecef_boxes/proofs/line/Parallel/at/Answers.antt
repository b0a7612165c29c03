use Rattle.std.proofs.Common.{◌≡◌}
use Rattle.ecef_boxes.specs.Lines.{parallel_of}
use Rattle.ecef_boxes.specs.declared.line.Parallel.{Parallel}
use Rattle.ecef_boxes.proofs.GridLines.{made_parallel, parallel_is, parallel_place}
use Rattle.ecef_boxes.proofs.line.Parallel.at.Goals as goal

pub latitude-turn-requires : goal.latitude-turn-requires
latitude-turn-requires c = parallel_place c.args.q c.args.d c.requires.positive c.requires.fine c.requires.pole

pub returns : goal.returns
returns c =
    let exact : ◌≡◌ {A = Parallel} (record { q = c.args.q; d = c.args.d; turn = c.latitude-turn.result; radii = c.radii.result })
    (parallel_of c.args.q c.args.d) =
    parallel_is c.args.q c.args.d c.latitude-turn.result c.radii.result c.latitude-turn.ensures.exact c.radii.ensures.exact in
    record { exact = exact; bounds = made_parallel c.args.q c.args.d _ exact c.requires.positive c.requires.fine c.requires.pole }
