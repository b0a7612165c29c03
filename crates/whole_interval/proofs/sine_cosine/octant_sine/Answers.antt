use Rattle.std.proofs.Common.{◌∙◌, arith}
use Rattle.whole_interval.specs.HalfTurn.{IsUpTo}
use Rattle.whole_interval.proofs.Sizes.{mul_up_to, octant_sine_is, series_within}
use Rattle.whole_interval.proofs.sine_cosine.octant_sine.Goals as goal

pub series-requires-clause-square : goal.series-requires-clause-square
series-requires-clause-square c = rw c.mul.ensures.exact
    (mul_up_to 48 _ _ c.angle-x.ensures.size c.angle-x.ensures.size)

pub returns : goal.returns
returns c =
    let square : IsUpTo 48 c.mul.result = rw c.mul.ensures.exact
    (mul_up_to 48 _ _ c.angle-x.ensures.size c.angle-x.ensures.size) in
    record {
      exact = c.series.ensures ∙ octant_sine_is c.args.t c.args.d c.angle-x.result c.mul.result
          c.angle-x.ensures.exact c.mul.ensures.exact;
      size = rw c.series.ensures (series_within _ _ 2 (omega arith) c.angle-x.ensures.size square);
    }
