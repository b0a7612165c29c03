-- The verdict of the sweep, and what it means.
use Rattle.std.proofs.Common.{◌∙◌, subst, arith, refl, length}
use Rattle.std.specs.Prelude.{All}
use Rattle.mesh_plane.specs.Plane.{IsCounterClockwise}
use Rattle.mesh_check.specs.Spans.{AreSpans}
use Rattle.mesh_check.proofs.Audits.{tris_on_tile, turned_back_verdict, course_ready, swept_verdict}
use Rattle.mesh_check.proofs.auditing.audit.Goals as goal

pub first_turned_back-requires-clause-on_tile : goal.first_turned_back-requires-clause-on_tile
first_turned_back-requires-clause-on_tile c =
    tris_on_tile c.args.mesh.now c.vertices-vertices.ensures.mesh c.deref.result.now
    (c.deref.ensures.value ∙ c.in_ok-triangles.ensures)

pub returns-in-Some-clause-exact : goal.returns-in-Some-clause-exact
returns-in-Some-clause-exact c =
    turned_back_verdict c.args.mesh.now c.vertices-vertices.ensures.mesh c.deref.result.now
    (c.deref.ensures.value ∙ c.in_ok-triangles.ensures)
    (omega (arith, c.vertices-vertices.ensures.count, c.if-vertices-gt-MOST_VERTICES.false)) c.in-Some.triangle
    c.in-Some.ensures.found

pub spans_of-requires-clause-on_tile : goal.spans_of-requires-clause-on_tile
spans_of-requires-clause-on_tile c =
    tris_on_tile c.args.mesh.now c.vertices-vertices.ensures.mesh c.deref-2.result.now
    (c.deref-2.ensures.value ∙ c.in_ok-triangles.ensures)

pub sweep-requires : goal.sweep-requires
sweep-requires c =
    course_ready c.args.mesh.now c.vertices-vertices.ensures.mesh c.in_ok-triangles.triangles.items
    c.in_ok-triangles.ensures _ refl c.in_ok-levels_of.ensures.are
    c.in_ok-levels_of.ensures.ascending
    (subst (λ us. AreSpans us c.in_ok-spans_of.field-0.items) c.deref-2.ensures.value c.in_ok-spans_of.ensures)
    (subst (λ us. All IsCounterClockwise us) c.deref.ensures.value (c.in_default.ensures.none refl))

pub returns-clause-exact : goal.returns-clause-exact
returns-clause-exact c =
    swept_verdict c.args.mesh.now c.vertices-vertices.ensures.mesh c.in_ok-triangles.triangles.items
    c.in_ok-triangles.ensures
    (record {
      levels = c.in_ok-levels_of.field-0;
      triangles = c.in_ok-triangles.triangles;
      spans =
          c.in_ok-spans_of.field-0;
    }) refl c.in_ok-levels_of.ensures.are
    c.in_ok-sweep.field-0 (c.in_ok-sweep.ensures (length c.args.mesh.now.vertices)
    (omega (arith, c.vertices-vertices.ensures.count, c.if-vertices-gt-MOST_VERTICES.false)))

pub returns-clause-covers : goal.returns-clause-covers
returns-clause-covers c e = ((returns-clause-exact c).good.0 (cc e)).1

pub returns-clause-converse : goal.returns-clause-converse
returns-clause-converse c covered = (returns-clause-exact c).good.1 covered
