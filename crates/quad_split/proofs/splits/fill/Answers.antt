use Rattle.std.proofs.Common.{arith, ◌∙◌, ◌/◌, ◌^◌, suc, add-one, ◌≤◌}
use Rattle.quad_split.proofs.Levels.{level_end, level_same, row_here, by_last}
use Rattle.quad_split.proofs.splits.fill.Goals as goal

pub fill_row-requires-clause-below : goal.fill_row-requires-clause-below
fill_row-requires-clause-below c = c.loop-y.invariant.lower c.args.k (omega arith)

pub loop-y-preserved : goal.loop-y-preserved
loop-y-preserved c = record {
  room = c.fill_row.auto.bits ∙ c.loop-y.invariant.room;
  lower = λ m h x y. c.fill_row.ensures.lower m x y h ∙ c.loop-y.invariant.lower m h x y;
  here = λ v i u. by_last v c.loop-y.y i
      (λ h. c.fill_row.ensures.others u v (λ e. absurd (omega arith)) ∙ c.loop-y.invariant.here v h u)
      (λ h. row_here c.args.grid.now c.args.tol c.args.k c.loop-y.y v c.fill_row.new.bits h
      c.fill_row.ensures.here u);
}

pub returns : goal.returns
returns c =
    let t : 64 / 2 ^ suc c.args.k ≤ c.loop-y.y = rw add-one at c.loop-y-test.false in
    λ l h. by_last l (suc c.args.k) (omega arith) (λ i. c.loop-y.invariant.lower l (omega arith))
    (λ e. level_same c.args.grid.now c.args.tol (suc c.args.k) l c.loop-y.bits e
    (level_end c.args.grid.now c.args.tol c.args.k c.loop-y.bits (λ v i u. c.loop-y.invariant.here v
    (omega arith) u)))
