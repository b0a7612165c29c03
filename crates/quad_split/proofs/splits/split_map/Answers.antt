use Rattle.std.proofs.Common.{arith, ◌∙◌, refl, zero, replicate, false}
use Rattle.std.proofs.lemmas.List.{length-replicate}
use Rattle.quad_split.proofs.Levels.{level_same}
use Rattle.quad_split.proofs.splits.split_map.Goals as goal

pub loop-k-init : goal.loop-k-init
loop-k-init c = record {
  room = length-replicate 6144 false;
  right = λ m h. level_same c.args.grid.now c.args.tol zero m (replicate 6144 false) (omega arith)
      (λ x y. refl);
}

pub loop-k-preserved : goal.loop-k-preserved
loop-k-preserved c = record {
  room = c.fill.auto.bits ∙ c.loop-k.invariant.room;
  right = λ m h. c.fill.ensures m (omega arith);
}

pub returns : goal.returns
returns c = λ k h x y. c.loop-k.invariant.right k (omega arith) x y
