-- The line of a trial.
use Rattle.std.specs.Prelude.{ℕ, List, [], ◌∷◌, codes, decimal}
use Rattle.report_text.specs.Words.{joined}
use Rattle.db_report.specs.declared.trial.TrialReport.{TrialReport}

abbrev pub commands_text : TrialReport → List ℕ
commands_text report = joined
    (codes "trial " ∷ decimal report.count ∷ codes " " ∷ decimal report.number ∷ codes " accepted "
    ∷ decimal report.accepted
    ∷ codes " refused " ∷ decimal report.refused ∷ [])

-- `trial COUNT NUMBER accepted A refused R cells C tiles T bytes B scratch D`
abbrev pub trial_line_of : TrialReport → List ℕ
trial_line_of report = joined
    (commands_text report ∷ codes " cells " ∷ decimal report.cells ∷ codes " tiles " ∷ decimal report.tiles
    ∷ codes " bytes " ∷ decimal report.bytes ∷ codes " scratch " ∷ decimal report.scratch ∷ [])
