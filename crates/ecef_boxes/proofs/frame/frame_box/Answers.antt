use Rattle.std.proofs.Common.{◌≡◌, refl, rules, FitsSigned}
use Rattle.std.proofs.lemmas.Int.{to_z-of_z}
use mir.Syntax.{w16}
use Rattle.ecef_boxes.specs.Box.{box_of}
use Rattle.ecef_boxes.proofs.Enclosing.{box_encloses}
use Rattle.ecef_boxes.proofs.GridLines.{crossed}
use Rattle.ecef_boxes.proofs.frame.frame_box.Goals as goal

pub box_at-requires-clause-units : goal.box_at-requires-clause-units
box_at-requires-clause-units c = rw (c.at.ensures.exact, c.at-2.ensures.exact) refl

pub returns : goal.returns
returns c =
    let small : FitsSigned w16 c.args.metres = search rules in
    let crossed_box = simp to_z-of_z at c.box_at.ensures.exact in
    let exact : c.box_at.result ≡ box_of c.args.place c.args.metres =
    crossed c.args.place c.args.metres c.at.result c.at-2.result _ c.at.ensures.exact c.at-2.ensures.exact crossed_box in
    record {
      exact = exact;
      encloses = rw exact (box_encloses c.args.place c.args.metres c.requires.place);
      size = c.box_at.ensures.size;
    }
