use Rattle.std.specs.Prelude.{◌≡◌, ◌++◌, ◌∷◌, [], map}
use Rattle.std.specs.List.{range_with_len}
use Rattle.std.proofs.Common.{arith, sym, ap, ◌∙◌}
use Rattle.std.proofs.lemmas.List.{map-append}
use Rattle.std.proofs.lemmas.List.FromFn.{map-range_with_len_more}
use Rattle.serde_json.specs.View.{view}
use Rattle.availability.specs.Runs.{runs_of}
use Rattle.availability.specs.LayerData.{level_data}
use Rattle.availability.proofs.layer.levels_value.Goals as goal

pub loop-z-preserved : goal.loop-z-preserved
loop-z-preserved c =
    let more = map-range_with_len_more (runs_of c.args.cap c.args.summaries.now) 0 c.loop-z.z c.loop-z.z (omega arith) in
    let level : view c.in_ok-value.value ≡ level_data (runs_of c.args.cap c.args.summaries.now c.loop-z.z) =
    c.in_ok-value.ensures ∙ ap level_data (c.deref.ensures.value ∙ c.in_ok-list.ensures.value) in
    ap (map view) c.in_ok-push.ensures.items
    ∙ map-append view c.loop-z.values.items (c.in_ok-value.value ∷ [])
    ∙ ap (λ list. list ++ view c.in_ok-value.value ∷ []) c.loop-z.invariant
    ∙ ap (λ value. map level_data (map (runs_of c.args.cap c.args.summaries.now) (range_with_len 0 c.loop-z.z)) ++ value ∷ []) level
    ∙ sym (map-append level_data (map (runs_of c.args.cap c.args.summaries.now) (range_with_len 0 c.loop-z.z)) (runs_of c.args.cap c.args.summaries.now c.loop-z.z ∷ []))
    ∙ ap (map level_data) (sym more)
