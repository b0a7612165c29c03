-- What a trial tells, from what its parts leave.
use Rattle.std.proofs.Common.{◌≡◌, ℕ, ◌+◌, ◌≤◌, ◌-ℤ◌, ◌≤ℤ◌, pos, length, Option, Some, sym, ap, subst, ◌∙◌, arith}
use mathlib.Core.HLevel.{is_prop→PathP}
use Rattle.std.specs.Coded.{le_prop}
use Rattle.common_laws.proofs.Orders.{at_most_prop}
use Rattle.terrain_base.specs.declared.params.Params.{Params}
use Rattle.terrain_base.specs.Step.{Files}
use Rattle.availability.specs.Count.{tile_count_of}
use Rattle.cell_mosaic.specs.Summaries.{summaries_of}
use Rattle.database.specs.Commands.{existing}
use Rattle.database.specs.State.{State}
use Rattle.db_engine.specs.Holding.{no_cells}
use Rattle.db_engine.specs.Opened.{Contents}
use Rattle.db_engine.proofs.CellRows.{count_is}
use Rattle.db_files.specs.Serving.{count_existing}
use Rattle.db_report.specs.declared.trial.TrialReport.{TrialReport}
use Rattle.db_trial.specs.Generated.{generated_list}
use Rattle.db_trial.specs.Sequence.{adding, tiles_made}
use Rattle.db_trial.specs.Step.{Keeps, AreKept, DidAll, Built}
use Rattle.db_trial.specs.Trial.{IsTrial, begun_tiles, bytes_in, trial_end, trial_params, trial_tiles}
use Rattle.db_trial.proofs.Additions.{params_stay}
use Rattle.db_trial.proofs.Beginnings.{total_of}

-- the params of a trial, whatever shows that they are in range
pub are_params : (p : Params) → p.cap ≡ 9 → p.fill ≡ pos 0 → p ≡ trial_params
are_params p c f = λ i. record {
  cap = c i;
  fill = f i;
  cap_in_range = is_prop→PathP (λ j. c j ≤ 14) (λ j. le_prop) p.cap_in_range trial_params.cap_in_range i;
  fill_above = is_prop→PathP (λ j. (pos 0 -ℤ pos 16000) ≤ℤ f j) (λ j. at_most_prop _ _) p.fill_above trial_params.fill_above i;
  fill_below = is_prop→PathP (λ j. f j ≤ℤ pos 16000) (λ j. at_most_prop _ _) p.fill_below trial_params.fill_below i;
}

-- the state that the commands leave has these params too
pub end_begins : (count number : ℕ) → no_cells (trial_end count number).params ≡ no_cells trial_params
end_begins count number = ap no_cells (params_stay (generated_list count number) (no_cells trial_params))

-- what the four parts leave, each begun on what those before it left
pub parts : {held now other after_it : Option Files} {o o' grown grown' : Contents} {work mid last end accepted refused : ℕ} (count number : ℕ) {params others : Params} → params ≡ trial_params → others ≡ trial_params
    → Keeps held o (no_cells params)
    → ((s : State) → Keeps held o s → DidAll (generated_list count number) s now o' work mid accepted refused)
    → Keeps other grown (no_cells others)
    → ((s : State) → Keeps now o' s → Keeps other grown (no_cells s.params) → Built s after_it grown' last end)
    → DidAll (generated_list count number) (no_cells trial_params) now o' work mid accepted refused × Built (trial_end count number) after_it grown' last end
parts {held = held} {other = other} {o = o} {grown = grown} count number is also first did second built =
    let begun = subst (λ p. Keeps held o (no_cells p)) is first in
    let again = subst (λ p. Keeps other grown (no_cells p)) also second in
    let all = did (no_cells trial_params) begun in
    (all, built (trial_end count number) all.keeps (subst (Keeps other grown) (sym (end_begins count number)) again))

-- before the last of them
pub are_kept : {held now other : Option Files} {o o' grown : Contents} {work mid accepted refused : ℕ} (count number : ℕ) {params others : Params} → params ≡ trial_params → others ≡ trial_params
    → Keeps held o (no_cells params)
    → ((s : State) → Keeps held o s → DidAll (generated_list count number) s now o' work mid accepted refused)
    → Keeps other grown (no_cells others) → AreKept now o' other grown
are_kept {held = held} {other = other} {o = o} {grown = grown} count number is also first did second = record {
  state = trial_end count number;
  keeps = (did (no_cells trial_params) (subst (λ p. Keeps held o (no_cells p)) is first)).keeps;
  begun = subst (Keeps other grown) (sym (end_begins count number)) (subst (λ p. Keeps other grown (no_cells p)) also second);
}

-- the report is that of the trial
pub is_report : {held other : Option Files} {o grown : Contents} {work mid last end : ℕ} (count number : ℕ) (report : TrialReport)
    → report.count ≡ count → report.number ≡ number
    → DidAll (generated_list count number) (no_cells trial_params) held o work mid report.accepted report.refused
    → Built (trial_end count number) other grown last end
    → report.cells ≡ length o.rows → report.tiles ≡ tile_count_of 9 o.rows
    → ((files : Files) → held ≡ Some files → report.bytes ≡ bytes_in files)
    → ((files : Files) → other ≡ Some files → report.scratch ≡ bytes_in files)
    → IsTrial count number report
is_report {o = o} count number report same_count same_number did built cells tiles bytes scratch =
    let rows : o.rows ≡ summaries_of (trial_end count number).cells = did.keeps.stands.holds.rows_is in
    record {
      count_is = same_count;
      number_is = same_number;
      accepted = did.accepted_is;
      refused = did.refused_is;
      cells = cells ∙ ap length rows ∙ count_is (trial_end count number).cells;
      tiles = tiles ∙ ap (tile_count_of 9) rows;
      bytes = total_of did.keeps bytes;
      scratch = total_of built.keeps scratch;
    }

-- four parts make the tiles
pub few_tiles : {at_first from_scratch held other : Option Files} {first_o scratch_o o grown : Contents} {begun mid again end accepted refused : ℕ} (start count number : ℕ)
    {params others : Params} → params ≡ trial_params → others ≡ trial_params
    → Keeps at_first first_o (no_cells params) → Keeps from_scratch scratch_o (no_cells others)
    → begun ≤ start + count_existing (no_cells params) (existing (no_cells params))
    → DidAll (generated_list count number) (no_cells trial_params) held o begun mid accepted refused
    → again ≤ mid + count_existing (no_cells others) (existing (no_cells others))
    → Built (trial_end count number) other grown again end
    → end ≤ start + trial_tiles count number
few_tiles {begun = begun} {mid = mid} {again = again} {end = end} start count number is also kept built_on first did second built =
    let one : begun ≤ start + begun_tiles = subst (λ p. begun ≤ start + count_existing (no_cells p) (existing (no_cells p))) is first in
    let other : again ≤ mid + begun_tiles = subst (λ p. again ≤ mid + count_existing (no_cells p) (existing (no_cells p))) also second in
    let few = did.few in
    let few_again : end ≤ again + tiles_made (adding (trial_end count number)) (no_cells trial_params) =
    subst (λ s. end ≤ again + tiles_made (adding (trial_end count number)) s) (end_begins count number) built.few in
    omega arith
