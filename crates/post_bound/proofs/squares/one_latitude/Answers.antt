-- Degree by degree.
use Rattle.std.proofs.Common.{arith, rules}
use Rattle.std.proofs.lemmas.Nat.{pow_pos}
use Rattle.cell_mosaic.proofs.Keeping.{told_next, leaves_then, leaves_err}
use Rattle.tile_mesh.specs.Plane.{triangles_in}
use Rattle.post_bound.proofs.Among.{one_more, no_degree, all_degrees, few_degrees}
use Rattle.post_bound.proofs.squares.one_latitude.Goals as goal

pub loop-degree-init : goal.loop-degree-init
loop-degree-init g c = (
  search rules,
  λ told is. no_degree told c.args.tile (triangles_in c.args.mesh.now) c.requires.mesh.triangles (pow_pos c.args.tile.z) c.args.lat c.first_degree-west.result
      (λ d h. (c.first_degree-west.ensures.value d).0 h),
  c.requires.bound,
)

pub one_degree-requires-clause-degree : goal.one_degree-requires-clause-degree
one_degree-requires-clause-degree g c =
    let tile = c.args.tile in
    let last = few_degrees tile.z tile.x c.last_degree-east.result (pow_pos tile.z) tile.x_in_range (λ h. (c.last_degree-east.ensures.value 361).1 h) in
    omega (arith, c.loop-degree-test.true, last)

pub loop-degree-preserved : goal.loop-degree-preserved
loop-degree-preserved g c =
    let inv = c.loop-degree.invariant in let e = c.in_ok-most.ensures in (
      leaves_then inv.0 e.leaves,
      λ told is. one_more told c.args.tile (triangles_in c.args.mesh.now) c.requires.mesh.triangles c.args.lat c.loop-degree.degree (inv.1 told is)
          (e.value told (told_next inv.0 told is)),
      e.few,
    )

pub returns-in_err-most-clause-leaves : goal.returns-in_err-most-clause-leaves
returns-in_err-most-clause-leaves g c =
    leaves_then c.loop-degree.invariant.0 (leaves_err c.from_residual.result c.from_residual.ensures.1 c.in_err-most.ensures.leaves)

pub returns-clause-value : goal.returns-clause-value
returns-clause-value g c told is =
    all_degrees told c.args.tile (triangles_in c.args.mesh.now) c.requires.mesh.triangles (pow_pos c.args.tile.z) c.args.lat c.last_degree-east.result c.loop-degree.degree
    (λ d h. (c.last_degree-east.ensures.value d).0 h) (omega (arith, c.loop-degree-test.false)) (c.loop-degree.invariant.1 told is)
