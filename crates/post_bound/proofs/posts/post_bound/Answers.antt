-- Latitude by latitude.
use Rattle.std.proofs.Common.{arith, rules}
use Rattle.std.proofs.lemmas.Nat.{pow_pos}
use Rattle.cell_mosaic.proofs.Keeping.{told_next, leaves_then, leaves_err}
use Rattle.tile_mesh.specs.Plane.{triangles_in}
use Rattle.post_bound.proofs.Among.{next_latitude, no_latitude, all_latitudes, all_turning}
use Rattle.post_bound.proofs.Meshes.{swept_mesh}
use Rattle.post_bound.proofs.Numbers.{post_bound_law}
use Rattle.post_bound.proofs.Swept.{swept_law, one_bound_law}
use Rattle.post_bound.proofs.posts.post_bound.Goals as goal

pub one_latitude-requires-clause-mesh : goal.one_latitude-requires-clause-mesh
one_latitude-requires-clause-mesh g c = swept_mesh c.args.tile.z c.args.mesh.now c.requires.mesh

pub loop-lat-init : goal.loop-lat-init
loop-lat-init g c =
    let swept = swept_mesh c.args.tile.z c.args.mesh.now c.requires.mesh in (
      search rules,
      λ told is. no_latitude told c.args.tile (triangles_in c.args.mesh.now) swept.triangles (pow_pos c.args.tile.z) c.first_degree.result c.saturating_sub-south.result
          (λ d h. (c.first_degree.ensures.value d).0 h) c.saturating_sub-south.ensures,
      omega arith,
    )

pub loop-lat-preserved : goal.loop-lat-preserved
loop-lat-preserved g c =
    let inv = c.loop-lat.invariant in let e = c.in_ok-bound.ensures in
    let swept = swept_mesh c.args.tile.z c.args.mesh.now c.requires.mesh in (
      leaves_then inv.0 e.leaves,
      λ told is. next_latitude told c.args.tile (triangles_in c.args.mesh.now) swept.triangles c.loop-lat.lat (inv.1 told is) (e.value told (told_next inv.0 told is)),
      e.few,
    )

pub returns-in_err-bound-clause-leaves : goal.returns-in_err-bound-clause-leaves
returns-in_err-bound-clause-leaves g c =
    leaves_then c.loop-lat.invariant.0 (leaves_err c.from_residual.result c.from_residual.ensures.1 c.in_err-bound.ensures.leaves)

pub returns-clause-value : goal.returns-clause-value
returns-clause-value g c told is =
    let swept = swept_mesh c.args.tile.z c.args.mesh.now c.requires.mesh in
    let ts = triangles_in c.args.mesh.now in
    swept_law told c.args.tile ts c.loop-lat.bound (omega (arith, c.requires.deep)) (all_turning ts swept.triangles)
    (all_latitudes told c.args.tile ts swept.triangles (pow_pos c.args.tile.z) c.last_degree.result c.min-north.result c.loop-lat.lat
    (λ d h. (c.last_degree.ensures.value d).0 h) (omega (arith, c.min-north.ensures)) c.loop-lat-test.false (c.loop-lat.invariant.1 told is))

pub returns-clause-number : goal.returns-clause-number
returns-clause-number g c told is =
    let swept = swept_mesh c.args.tile.z c.args.mesh.now c.requires.mesh in
    one_bound_law told c.args.tile (triangles_in c.args.mesh.now) _ _ (returns-clause-value g c told is)
    (post_bound_law told c.args.tile c.args.mesh.now swept.triangles)
