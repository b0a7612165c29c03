-- All crossings and the two ends.
use Rattle.std.proofs.Common.{arith, FitsSigned, w64}
use Rattle.std.proofs.lemmas.Int.{ints, to_z-of_z}
use Rattle.mesh_query.proofs.Listing.{listed_is}
use Rattle.mesh_query.proofs.profile.listed.Goals as goal

pub returns : goal.returns
returns c =
    let under_fits : FitsSigned w64 c.start-end.result.under =
    omega (arith, ints, c.start-end.ensures.above_zero, c.start-end.ensures.under_size) in
    let height_fits : FitsSigned w64 c.start-end.result.height = omega (arith, ints, c.start-end.ensures.height_size) in
    let is = simp to_z-of_z at c.with_rank-2.ensures.crossing in
    rw (c.in_ok-push-2.ensures.items, c.in_ok-push.ensures.items)
    (listed_is c.args.tris.now c.args.from.now c.args.to.now c.in_ok-found.found.items c.with_rank.result
    c.with_rank-2.result c.start.result c.start-end.result c.requires.covers c.requires.apart c.in_ok-found.ensures
    c.with_rank.ensures.rank c.with_rank.ensures.crossing c.start.ensures c.with_rank-2.ensures.rank
    is c.start-end.ensures)
