use Rattle.std.proofs.Common.{◌<◌, ℕ, arith, subst, sym, ◌∙◌, length-set}
use Rattle.resample.specs.declared.line.Line.{Line}
use Rattle.resample.proofs.Lines.{turned_lines, each_set}
use Rattle.resample.proofs.grid_lines.turn_run.Goals as goal

pub loop-k-preserved : goal.loop-k-preserved
loop-k-preserved c =
    let inv = c.loop-k.invariant in
    let k = c.loop-k.k in
    let below : k < 67 = omega (arith, c.loop-k-test.true, c.requires.run) in
    let e = c.turn_to.ensures in (
      length-set c.loop-k.lines k c.turn_to.new.line ∙ inv.0,
      λ units are. turned_lines units c.args.d c.loop-k.lines k c.turn_to.new.line below e.line (inv.1 units are),
      each_set (λ (n : ℕ) (line : Line). line.rest < c.args.d) c.loop-k.lines k 67 c.turn_to.new.line (omega (arith, inv.0, below)) (subst (λ (rest : ℕ). rest < c.args.d) (sym e.rest) (inv.2 k below)) (λ n b off. inv.2 n b),
    )
