use Rattle.std.proofs.Common.{◌≡◌, ◌^◌, ◌≤◌, arith, rules, FitsSigned}
use Rattle.std.proofs.lemmas.Int.{ints, to_z-of_z}
use Rattle.std.specs.Prelude.{unsigned_abs}
use mir.Syntax.{w128, w64}
use Rattle.ecef_boxes.specs.Box.{up_of}
use Rattle.ecef_boxes.proofs.Ends.{up_is, up_size}
use Rattle.ecef_boxes.proofs.frame.up.Goals as goal

pub returns : goal.returns
returns c =
    let n : FitsSigned w128 c.args.n = search rules in
    let wide : FitsSigned w128 c.ceil_div.result = search rules in
    let exact : c.ceil_div.result ≡ up_of c.args.n = up_is _ _ (simp to_z-of_z at c.ceil_div.ensures.exact) in
    let size : unsigned_abs c.ceil_div.result ≤ 2 ^ 31 = rw exact (up_size c.args.n c.requires) in
    let narrow : FitsSigned w64 c.ceil_div.result = omega (arith, ints, size) in
    record { exact = simp to_z-of_z exact; size = simp to_z-of_z size }
