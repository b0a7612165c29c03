use Rattle.std.proofs.Common.{◌≡◌}
use Rattle.whole_interval.specs.HalfTurn.{term_of, partial_of}
use Rattle.whole_interval.proofs.sine_cosine.series.Given as goal

abbrev pub invariant-loop-j : goal.invariant-loop-j
invariant-loop-j l = record {
  term : l.term ≡ term_of l.first l.square l.from l.j;
  eight : l.eight ≡ partial_of l.first l.square l.from l.j;
}
