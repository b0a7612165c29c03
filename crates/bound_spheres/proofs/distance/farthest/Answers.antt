use Rattle.std.proofs.Common.{refl, rules, FitsSigned}
use Rattle.std.proofs.lemmas.Int.{to_z-of_z}
use mir.Syntax.{w64}
use Rattle.bound_spheres.specs.Reach.{farthest_of}
use Rattle.bound_spheres.proofs.Farthest.{farthest_end, farthest_few, farthest_next}
use Rattle.bound_spheres.proofs.distance.farthest.Goals as goal

pub loop-next-init : goal.loop-next-init
unfolding farthest_of
loop-next-init c = refl

pub loop-next-preserved : goal.loop-next-preserved
loop-next-preserved c =
    farthest_next _ _ _ c.loop-next.far c.reach.result c.max-far.result c.args.boxes.now c.loop-next.next-index _
    c.loop-next-test.true c.loop-next.invariant c.reach.ensures.exact c.max-far.ensures

pub returns : goal.returns
returns c =
    let x : FitsSigned w64 c.args.x = search rules in
    let y : FitsSigned w64 c.args.y = search rules in
    let z : FitsSigned w64 c.args.z = search rules in
    let exact = farthest_end c.args.x c.args.y c.args.z c.loop-next.far c.args.boxes.now c.loop-next.next-index
    c.loop-next-test.false (simp to_z-of_z at c.loop-next.invariant) in
    record {
      exact = exact;
      few = rw exact (farthest_few c.args.x c.args.y c.args.z c.args.boxes.now c.requires.x c.requires.y
          c.requires.z c.requires.size);
    }
