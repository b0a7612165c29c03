use Rattle.std.proofs.Common.{refl, ap, length, ◌∙◌}
use Rattle.availability.specs.Count.{tile_count_of}
use Rattle.db_trial.proofs.Reports.{are_params, are_kept, few_tiles, is_report, parts}
use Rattle.db_trial.proofs.trial.compare.Goals as goal

pub returns-clause-trial : goal.returns-clause-trial
returns-clause-trial g c =
    let both = parts c.args.count c.args.number (are_params _ refl refl) (are_params _ refl refl) c.in_ok-opened.ensures.keeps c.in_ok-counts.ensures.did c.in_ok-grown.ensures.keeps c.in_ok-add_cells.ensures.built in
    is_report c.args.count c.args.number _ refl refl both.0 both.1 (ap length c.summaries.ensures.value) (c.in_ok-tile_count.ensures ∙ ap (tile_count_of 9) c.summaries-2.ensures.value)
    (λ files is. c.in_ok-bytes_held.ensures.total files (c.in_ok-add_cells.ensures.same ∙ is)) c.in_ok-bytes_held-2.ensures.total

pub returns-clause-few : goal.returns-clause-few
returns-clause-few g c =
    let both = parts c.args.count c.args.number (are_params _ refl refl) (are_params _ refl refl) c.in_ok-opened.ensures.keeps c.in_ok-counts.ensures.did c.in_ok-grown.ensures.keeps c.in_ok-add_cells.ensures.built in
    few_tiles _ c.args.count c.args.number (are_params _ refl refl) (are_params _ refl refl) c.in_ok-opened.ensures.keeps c.in_ok-grown.ensures.keeps c.in_ok-opened.ensures.few both.0 c.in_ok-grown.ensures.few both.1

pub add_cells-requires : goal.add_cells-requires
add_cells-requires g c =
    are_kept c.args.count c.args.number (are_params _ refl refl) (are_params _ refl refl) c.in_ok-opened.ensures.keeps c.in_ok-counts.ensures.did c.in_ok-grown.ensures.keeps
