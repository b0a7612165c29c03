use Rattle.std.proofs.Common.{arith, ◌∙◌, length-set, ◌+◌, ◌*◌, ◌/◌, ◌^◌, ◌<◌, ◌≤◌, suc, add-one}
use Rattle.quad_split.proofs.Nodes.{is_node_yes}
use Rattle.quad_split.proofs.Levels.{here_on, row_end, set_other, set_lower}
use Rattle.quad_split.proofs.splits.fill_row.Goals as goal

pub decide-is_split-requires-clause-place : goal.decide-is_split-requires-clause-place
decide-is_split-requires-clause-place c =
    let t : c.loop-x.x < 64 / 2 ^ suc c.args.k = rw add-one at c.loop-x-test.true in
    is_node_yes (suc c.args.k) c.loop-x.x c.args.y t c.requires.row

pub loop-x-preserved : goal.loop-x-preserved
loop-x-preserved c = let i = 1024 * c.args.k + 32 * c.args.y + c.loop-x.x in
    let v = c.decide-is_split.result in let t : c.loop-x.x < 64 / 2 ^ suc c.args.k = rw add-one at
    c.loop-x-test.true in record {
      room = length-set c.loop-x.bits i v ∙ c.loop-x.invariant.room;
      here = here_on c.args.grid.now c.args.tol c.args.k c.loop-x.x c.args.y c.loop-x.bits v c.requires.level t
          c.requires.row c.loop-x.invariant.room
          (λ x y. c.loop-x.invariant.lower c.args.k x y (omega arith)
          ∙ c.requires.below x y) c.decide-is_split.ensures c.loop-x.invariant.here;
      others = λ u z d. set_other c.loop-x.bits c.args.k c.loop-x.x c.args.y u z v c.requires.level t
          c.requires.row (λ _ e. d e) ∙ c.loop-x.invariant.others u z d;
      lower = λ m u z h. set_lower c.loop-x.bits c.args.k c.loop-x.x c.args.y v c.requires.level m u z h
          ∙ c.loop-x.invariant.lower m u z h;
    }

pub returns : goal.returns
returns c = let t : 64 / 2 ^ suc c.args.k ≤ c.loop-x.x = rw add-one at c.loop-x-test.false in record {
  here = row_end c.args.grid.now c.args.tol c.args.k c.args.y c.loop-x.bits
      (λ u h. c.loop-x.invariant.here u (omega arith));
  others = c.loop-x.invariant.others;
  lower = c.loop-x.invariant.lower;
}
