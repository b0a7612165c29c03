use Rattle.std.proofs.Common.{◌≡◌, arith, rules, subst, ℕ, FitsSigned}
use Rattle.std.specs.Prelude.{unsigned_abs}
use Rattle.std.proofs.lemmas.Int.{ints, to_z-of_z}
use mir.Syntax.{w32}
use Rattle.float_bits.specs.Binary32.{binary32, IsNormal32}
use Rattle.float_bits.proofs.Patterns.{above, below, shift32}
use Rattle.float_bits.proofs.binary32.bits32.Goals as goal

pub returns-then-n-gt0-clause-exact : goal.returns-then-n-gt0-clause-exact
returns-then-n-gt0-clause-exact c =
    let fits : FitsSigned w32 c.args.n = search rules in
    let size : c.unsigned_abs.result ≡ unsigned_abs c.args.n = simp to_z-of_z at c.unsigned_abs.ensures.value in
    above binary32 c.args.n 0 _ (omega (arith, ints)) c.requires shift32
    (subst (λ (k : ℕ). IsNormal32 0 k c.normal32.result) size c.normal32.ensures)

pub returns-else-n-gt0-clause-exact : goal.returns-else-n-gt0-clause-exact
returns-else-n-gt0-clause-exact c =
    let fits : FitsSigned w32 c.args.n = search rules in
    let size : c.unsigned_abs-else-n-gt0.result ≡ unsigned_abs c.args.n = simp to_z-of_z at c.unsigned_abs-else-n-gt0.ensures.value in
    below binary32 c.args.n 0 _ (omega (arith, ints)) c.requires shift32
    (subst (λ (k : ℕ). IsNormal32 1 k c.normal32-else-n-gt0.result) size c.normal32-else-n-gt0.ensures)
