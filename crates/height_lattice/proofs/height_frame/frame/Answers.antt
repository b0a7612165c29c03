use Rattle.std.proofs.Common.{◌≡◌, arith, rules, FitsSigned}
use Rattle.std.proofs.lemmas.Int.{ints, to_z-of_z}
use mir.Syntax.{w16}
use Rattle.height_lattice.specs.HeightFrame.{IsFrame}
use Rattle.height_lattice.proofs.Frames.{frame_is, not_far, same_frame}
use Rattle.height_lattice.proofs.height_frame.frame.Goals as goal

pub returns : goal.returns
returns c =
    let fits : FitsSigned w16 c.args.least = search rules in
    let divisor = c.least_divisor-range.ensures in
    let is : IsFrame c.args.least c.args.greatest (record { base = c.args.least; range = c.least_divisor-range.result }) = record {
      base = omega (arith, ints);
      divides = divisor.divides;
      reaches = omega (arith, ints, divisor.reaches);
      shortest = λ r d h. divisor.shortest r d (omega (arith, ints, h));
    } in
    let same = same_frame c.args.least c.args.greatest _ _ is
    (frame_is c.args.least c.args.greatest c.requires.order (not_far c.args.least c.args.greatest c.requires.low c.requires.high)) in
    record { frame = simp to_z-of_z is; exact = simp to_z-of_z same }
