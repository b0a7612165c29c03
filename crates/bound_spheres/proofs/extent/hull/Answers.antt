use Rattle.std.proofs.Common.{refl}
use Rattle.std.proofs.lemmas.List.Elements.{Contains-get_or}
use Rattle.bound_spheres.specs.Hull.{IsHull}
use Rattle.bound_spheres.proofs.Hulls.{hull_end, hull_next, hull_within}
use Rattle.bound_spheres.proofs.extent.hull.Goals as goal

pub loop-next-init : goal.loop-next-init
loop-next-init c = refl

pub loop-next-preserved : goal.loop-next-preserved
loop-next-preserved c =
    hull_next _ c.loop-next.hull c.join-hull.result c.args.boxes.now c.loop-next.next-index _ c.loop-next-test.true
    c.loop-next.invariant c.join-hull.ensures

pub returns : goal.returns
returns c =
    let hull : IsHull c.args.boxes.now c.loop-next.hull =
    hull_end _ c.loop-next.hull c.args.boxes.now c.loop-next.next-index c.loop-next-test.false c.loop-next.invariant
    (Contains-get_or c.args.boxes.now 0 _ c.requires.some) in
    record { hull = hull; size = hull_within c.args.boxes.now c.loop-next.hull hull c.requires.size }
