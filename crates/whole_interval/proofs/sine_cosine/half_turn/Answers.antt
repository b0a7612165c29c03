use Rattle.std.proofs.Common.{rules, ◌*ℤ◌, pos, ap, FitsSigned}
use Rattle.std.proofs.lemmas.Int.{to_z-of_z}
use Rattle.std.specs.Prelude.{unsigned_abs}
use mir.Syntax.{w128}
use Rattle.whole_interval.specs.declared.sine_cosine.SineCosine.{SineCosine}
use Rattle.whole_interval.proofs.Enclosures.{holds_as}
use Rattle.whole_interval.proofs.Series.{cosine_holds, sine_holds}
use Rattle.whole_interval.proofs.Angle.{size_positive, twice_is}
use Rattle.whole_interval.proofs.sine_cosine.half_turn.Goals as goal

pub returns : goal.returns
returns c =
    let n : FitsSigned w128 c.args.n = search rules in
    let d : FitsSigned w128 c.args.d = search rules in
    let turn : FitsSigned w128 (pos 2 *ℤ c.args.d) = search rules in
    let rem : FitsSigned w128 c.rem_euclid.result = search rules in
    let size = size_positive c.args.d c.requires.positive in
    let value = rw (twice_is c.args.d c.requires.positive)
    at (simp to_z-of_z at c.rem_euclid.ensures.value) in
    let exact = rw value at (simp to_z-of_z at c.turn.ensures.exact) in
    record {
      exact = exact;
      sine_size = c.turn.ensures.sine;
      cosine_size = c.turn.ensures.cosine;
      sine = λ s h. holds_as s (ap (λ (t : SineCosine). t.sine) exact)
          (sine_holds c.args.n (unsigned_abs c.args.d) s size h);
      cosine = λ s h. holds_as s (ap (λ (t : SineCosine). t.cosine) exact)
          (cosine_holds c.args.n (unsigned_abs c.args.d) s size h);
    }
