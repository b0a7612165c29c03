use Rattle.tile_mesh.proofs.Places.{full_at_first, distinct_at_first, places_at_first}
use Rattle.tile_mesh.proofs.builder.Builder.new.Goals as goal

pub invariant_of-result-clause-distinct : goal.invariant_of-result-clause-distinct
invariant_of-result-clause-distinct c = distinct_at_first c.new.result.items c.new.ensures.items

pub invariant_of-result-clause-full : goal.invariant_of-result-clause-full
invariant_of-result-clause-full c = full_at_first c.in_ok-no_numbers.field-0.items c.in_ok-no_numbers.ensures

pub invariant_of-result-clause-places : goal.invariant_of-result-clause-places
invariant_of-result-clause-places c =
    places_at_first c.new.result.items c.in_ok-no_numbers.field-0.items c.new.ensures.items c.in_ok-no_numbers.ensures
