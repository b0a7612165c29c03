use Rattle.std.specs.Prelude.{◌≡◌, ◌+◌, map}
use Rattle.std.specs.List.{range_with_len}
use Rattle.std.proofs.Common.{◌∙◌, ap}
use Rattle.serde_json.specs.View.{view}
use Rattle.serde_json.specs.Written.{has_float, compact_text}
use Rattle.availability.specs.Layer.{layer_text_of, layer_text_from}
use Rattle.availability.specs.LayerData.{layer_data, levels_data}
use Rattle.availability.specs.Runs.{runs_of}
use Rattle.availability.proofs.Texts.{layer_is, layer_whole}
use Rattle.availability.proofs.layer.layer_text.Goals as goal

pub returns : goal.returns
unfolding layer_text_of
returns c =
    let levels = map (runs_of c.args.cap c.args.summaries.now) (range_with_len 0 (c.deepest_level-deepest.result + 1)) in
    let seen : view c.in_ok-value.value ≡ layer_data (levels_data levels) c.deepest_level-deepest.result =
    c.in_ok-value.ensures ∙ ap (λ available. layer_data available c.deepest_level-deepest.result) c.in_ok-available.ensures in
    let whole = ap has_float seen ∙ layer_whole levels c.deepest_level-deepest.result in
    ap (λ bytes. bytes.items) c.into_bytes.ensures.value ∙ c.in_ok-text.ensures.text whole ∙ ap compact_text seen ∙ layer_is levels c.deepest_level-deepest.result
    ∙ ap (λ n. layer_text_from (map (runs_of c.args.cap c.args.summaries.now) (range_with_len 0 (n + 1))) n) c.deepest_level-deepest.ensures.value
