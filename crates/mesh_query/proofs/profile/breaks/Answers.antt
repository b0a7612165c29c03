-- The listed crossings in order, one at each place, are the breaks.
use Rattle.mesh_query.specs.Found.{at_place}
use Rattle.mesh_query.proofs.Straights.{straight}
use Rattle.mesh_query.proofs.Profiles.{profile_law}
use Rattle.mesh_query.proofs.Finish.{kept_on_way, kept_small, kept_profile}
use Rattle.mesh_query.proofs.profile.breaks.Goals as goal

pub breaks_of-requires : goal.breaks_of-requires
breaks_of-requires c =
    rw (c.deref.ensures.value, c.thin.ensures.kept)
    (kept_on_way c.tris.result.now (at_place c.place_of.result) (at_place c.place_of-2.result) c.in_ok-found.found.items
    c.order.new.found.items c.in_ok-found.ensures c.order.ensures.permutation)

pub returns-clause-profile : goal.returns-clause-profile
returns-clause-profile c =
    let up = rw c.thin.ensures.kept at c.thin.ensures.rising in
    let made = rw (c.deref.ensures.value, c.thin.ensures.kept) at c.in_ok-breaks_of.ensures in
    let is = kept_profile c.tris.result.now (at_place c.place_of.result) (at_place c.place_of-2.result)
    c.in_ok-found.found.items c.order.new.found.items c.in_ok-found.ensures c.order.ensures.permutation
    c.in_ok-breaks_of.field-0.items up made in
    rw (c.tris.ensures.tris, c.place_of.ensures.place, c.place_of-2.ensures.place) at is

pub returns-clause-small : goal.returns-clause-small
returns-clause-small c =
    kept_small c.tris.result.now (at_place c.place_of.result) (at_place c.place_of-2.result)
    c.in_ok-found.found.items c.order.new.found.items c.in_ok-found.ensures c.order.ensures.permutation
    c.in_ok-breaks_of.field-0.items (rw (c.deref.ensures.value, c.thin.ensures.kept) at c.in_ok-breaks_of.ensures)

pub returns-clause-straight : goal.returns-clause-straight
returns-clause-straight c =
    let up = rw c.thin.ensures.kept at c.thin.ensures.rising in
    let made = rw (c.deref.ensures.value, c.thin.ensures.kept) at c.in_ok-breaks_of.ensures in
    let is = kept_profile c.tris.result.now (at_place c.place_of.result) (at_place c.place_of-2.result)
    c.in_ok-found.found.items c.order.new.found.items c.in_ok-found.ensures c.order.ensures.permutation
    c.in_ok-breaks_of.field-0.items up made in
    let straight_is = profile_law straight c.tris.result.now (at_place c.place_of.result) (at_place c.place_of-2.result)
    c.in_ok-breaks_of.field-0.items c.tris.ensures.covers c.place_of.ensures.on_tile c.place_of-2.ensures.on_tile is in
    rw (c.tris.ensures.tris, c.place_of.ensures.place, c.place_of-2.ensures.place) at straight_is
