use Rattle.std.proofs.Common.{◌≡◌, ap, ◌*◌, ◌≤◌, ◌^◌, rules, FitsSigned}
use Rattle.std.proofs.lemmas.Int.{to_z-of_z}
use mir.Syntax.{w64}
use Rattle.bound_spheres.specs.Reach.{span_reach}
use Rattle.bound_spheres.proofs.Farthest.{span_few, span_is, square_few}
use Rattle.bound_spheres.proofs.distance.span.Goals as goal

pub returns : goal.returns
returns c =
    let at : FitsSigned w64 c.args.at = search rules in
    let lo : FitsSigned w64 c.args.lo = search rules in
    let hi : FitsSigned w64 c.args.hi = search rules in
    let exact : c.max-reach.result ≡ span_reach c.args.at c.args.lo c.args.hi =
    span_is c.args.at c.args.lo c.args.hi _ _ _ (simp to_z-of_z at c.abs_diff.ensures)
    (simp to_z-of_z at c.abs_diff-2.ensures) c.max-reach.ensures in
    let few : c.max-reach.result ≤ 2 ^ 34 = rw exact
    (span_few c.args.at c.args.lo c.args.hi c.requires.at c.requires.lo c.requires.hi) in
    record { exact = ap (λ n. n * n) exact; few = square_few c.max-reach.result few }
