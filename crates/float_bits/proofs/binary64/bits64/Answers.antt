use Rattle.std.proofs.Common.{◌≡◌, arith, rules, subst, ℕ, FitsSigned}
use Rattle.std.specs.Prelude.{unsigned_abs}
use Rattle.std.proofs.lemmas.Int.{ints, to_z-of_z}
use mir.Syntax.{w64}
use Rattle.float_bits.specs.Binary64.{binary64, IsNormal64}
use Rattle.float_bits.proofs.Patterns.{above, below, shift64}
use Rattle.float_bits.proofs.binary64.bits64.Goals as goal

pub returns-then-n-gt0-clause-exact : goal.returns-then-n-gt0-clause-exact
returns-then-n-gt0-clause-exact c =
    let fits : FitsSigned w64 c.args.n = search rules in
    let size : c.unsigned_abs.result ≡ unsigned_abs c.args.n = simp to_z-of_z at c.unsigned_abs.ensures.value in
    above binary64 c.args.n c.args.shift _ (omega (arith, ints)) c.requires.size (shift64 c.args.shift c.requires.shift)
    (subst (λ (k : ℕ). IsNormal64 0 k c.args.shift c.normal64.result) size c.normal64.ensures)

pub returns-else-n-gt0-clause-exact : goal.returns-else-n-gt0-clause-exact
returns-else-n-gt0-clause-exact c =
    let fits : FitsSigned w64 c.args.n = search rules in
    let size : c.unsigned_abs-else-n-gt0.result ≡ unsigned_abs c.args.n = simp to_z-of_z at c.unsigned_abs-else-n-gt0.ensures.value in
    below binary64 c.args.n c.args.shift _ (omega (arith, ints)) c.requires.size (shift64 c.args.shift c.requires.shift)
    (subst (λ (k : ℕ). IsNormal64 1 k c.args.shift c.normal64-else-n-gt0.result) size c.normal64-else-n-gt0.ensures)
