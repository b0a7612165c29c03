-- One level more.
use Rattle.std.proofs.Common.{◌≡◌, ℕ, arith, ap, sym, ◌∙◌, List, [], ◌∷◌, ◌++◌, map, take, slice_index_or}
use Rattle.std.proofs.lemmas.List.{map_more}
use Rattle.std.proofs.lemmas.Option.{get_or_from_slice_get}
use Rattle.mesh_codec.specs.declared.codes.Codes.{Codes}
use Rattle.mesh_check.proofs.mesh.all_levels.Goals as goal

pub loop-vertex-preserved : goal.loop-vertex-preserved
loop-vertex-preserved c =
    let vs = c.args.mesh.now.vertices in let k = c.loop-vertex.vertex in
    let v : slice_index_or vs k c.vertex.result ≡ c.vertex.result =
    get_or_from_slice_get vs k c.vertex.result c.vertex.result c.vertex.ensures.vertex in
    c.in_ok-push.ensures.items ∙ ap (λ (xs : List ℕ). xs ++ c.vertex.result.v ∷ []) c.loop-vertex.invariant
    ∙ ap (λ (n : ℕ). 0 ∷ (32767 ∷ (map (λ (codes : Codes). codes.v) (take k vs) ++ n ∷ [])))
    (ap (λ (codes : Codes). codes.v) (sym v))
    ∙ ap (λ (xs : List ℕ). 0 ∷ (32767 ∷ xs)) (sym (map_more (λ (codes : Codes). codes.v) vs k c.vertex.result
    (omega (arith, c.loop-vertex-test.true, c.vertices-vertex-end.ensures.count))))
