-- One vertex more, or the first without whole metres.
use Rattle.std.proofs.Common.{◌∙◌, ◌++◌, ap, sym, subst, arith, length, List}
use Rattle.std.specs.List.{AllZip}
use Rattle.std.proofs.lemmas.List.Elements.{All-rest}
use Rattle.std.proofs.lemmas.List.{append-nil, length-append}
use Rattle.mesh_codec.specs.declared.codes.Codes.{Codes}
use Rattle.mesh_codec.specs.declared.header.Header.{Header}
use Rattle.mesh_codec.specs.Mesh.{IsVertex}
use Rattle.mesh_codec.specs.Tile.{header_in}
use Rattle.mesh_codec.proofs.Lists.{next_whole}
use Rattle.mesh_query.specs.Metres.{IsCorner, IsWhole}
use Rattle.mesh_query.proofs.Vertices.{zip_more, zip_long, first_not_whole}
use Rattle.mesh_query.proofs.metres.corners_of.Goals as goal

pub loop-codes-preserved : goal.loop-codes-preserved
loop-codes-preserved c =
    let l = c.loop-codes in
    let codes = c.in-Some.codes in
    let step = c.in-Some.ensures.steps in
    let is : IsCorner (header_in c.args.view.now) codes c.in-Some-corner_of.corner =
    subst (λ (header : Header). IsCorner header codes c.in-Some-corner_of.corner) c.header-header.ensures
    c.in-Some-corner_of.ensures.some in
    record {
      whole = next_whole l.yielded l.codes-iterator c.next.new.self codes step _ l.invariant.whole;
      in_range = All-rest IsVertex codes c.next.new.self l.codes-iterator step l.invariant.in_range;
      done = rw c.in_ok-push-in-Some-corner_of.ensures.items
          (zip_more (IsCorner (header_in c.args.view.now)) l.yielded l.corners.items codes _ l.invariant.done is);
    }

pub overflow_cast-result : goal.overflow_cast-result
overflow_cast-result c =
    let l = c.loop-codes in
    let long = zip_long (IsCorner (header_in c.args.view.now)) l.yielded l.corners.items l.invariant.done in
    let whole = ap length (l.invariant.whole ∙ sym c.vertex_codes-codes-items.ensures.vertices) in
    omega (arith, long, whole, length-append l.yielded l.codes-iterator, c.len.ensures, c.vertex_codes-codes-items.ensures.few)

pub returns-in-None-corner_of-clause-err : goal.returns-in-None-corner_of-clause-err
returns-in-None-corner_of-clause-err c =
    let l = c.loop-codes in
    first_not_whole c.args.view.now c.in-Some.codes c.next.new.self l.yielded l.codes-iterator l.corners.items c.len.result
    c.in-Some.ensures.steps l.invariant.whole l.invariant.done (omega (arith, c.len.ensures))
    (subst (λ (header : Header). ¬ IsWhole header c.in-Some.codes) c.header-header.ensures
    c.in-None-corner_of.ensures.none)

pub returns-clause-ok : goal.returns-clause-ok
returns-clause-ok c =
    let l = c.loop-codes in
    subst (λ (list : List Codes). AllZip (IsCorner (header_in c.args.view.now)) list l.corners.items)
    (sym (append-nil l.yielded) ∙ ap (λ list. l.yielded ++ list) (sym c.in-None.ensures.steps.0) ∙ l.invariant.whole)
    l.invariant.done
