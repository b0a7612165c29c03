use Rattle.std.proofs.Common.{◌≤◌, ap₂, map, ◌∙◌, refl, arith}
use Rattle.dted_cell.specs.Words.{words_of, key, low_key, least_of, greatest_of, extremes_from}
use Rattle.dted_cell.proofs.Keys.{keys_judge}
use Rattle.dted_cell.proofs.Rows.{rows_judged, fits_all, voids_by_row, extremes_by_row}
use Rattle.dted_cell.proofs.tally.tally_of.Goals as goal
use Rattle.dted_cell.proofs.tally.tally_of.Goals.{else-found-le-HIGHEST_KEY-via-then-found-le-HIGHEST_KEY+else-found-ge-LOWEST_KEY, else-found-le-HIGHEST_KEY-via-else-found-le-HIGHEST_KEY}

pub returns-then-found-ge-LOWEST_KEY-clause-range : goal.returns-then-found-ge-LOWEST_KEY-clause-range
returns-then-found-ge-LOWEST_KEY-clause-range c =
    let xs = c.args.elevations.now in
    let high : greatest_of (map key (words_of xs)) ≤ 48768 = omega (arith, c.if-found-le-HIGHEST_KEY.true, c.found_in-found.ensures.greatest) in
    let low : 16768 ≤ least_of (map low_key (words_of xs)) = omega (arith, c.if-found-ge-LOWEST_KEY.true, c.found_in-found.ensures.least) in
    let by_row = rows_judged c.args.rows xs c.requires (λ n. (c.type_inv.elevations n).fits) in
    (λ _. by_row.0 ((keys_judge (words_of xs) (fits_all xs c.type_inv.elevations)).0 (high, low)), λ _. refl)

pub returns-then-found-ge-LOWEST_KEY-clause-voids : goal.returns-then-found-ge-LOWEST_KEY-clause-voids
returns-then-found-ge-LOWEST_KEY-clause-voids c = c.found_in-found.ensures.voids ∙ voids_by_row c.args.rows c.args.elevations.now c.requires

pub returns-then-found-ge-LOWEST_KEY-clause-extremes : goal.returns-then-found-ge-LOWEST_KEY-clause-extremes
returns-then-found-ge-LOWEST_KEY-clause-extremes c =
    let xs = c.args.elevations.now in
    let high : greatest_of (map key (words_of xs)) ≤ 48768 = omega (arith, c.if-found-le-HIGHEST_KEY.true, c.found_in-found.ensures.greatest) in
    let low : 16768 ≤ least_of (map low_key (words_of xs)) = omega (arith, c.if-found-ge-LOWEST_KEY.true, c.found_in-found.ensures.least) in
    let all = (keys_judge (words_of xs) (fits_all xs c.type_inv.elevations)).0 (high, low) in
    c.extremes_of.ensures ∙ ap₂ extremes_from c.found_in-found.ensures.least c.found_in-found.ensures.greatest ∙ extremes_by_row c.args.rows xs c.requires all

pub returns-else-found-le-HIGHEST_KEY-clause-range : goal.returns-else-found-le-HIGHEST_KEY-clause-range
returns-else-found-le-HIGHEST_KEY-clause-range c =
    let xs = c.args.elevations.now in
    let by_row = rows_judged c.args.rows xs c.requires (λ n. (c.type_inv.elevations n).fits) in
    let judge = keys_judge (words_of xs) (fits_all xs c.type_inv.elevations) in (
      λ no. cc,
      λ each. elim c.else-found-le-HIGHEST_KEY.branch [
        | else-found-le-HIGHEST_KEY-via-then-found-le-HIGHEST_KEY+else-found-ge-LOWEST_KEY w ↦ absurd (omega (arith, w.if-found-ge-LOWEST_KEY.false, (judge.1 (by_row.1 each)).1, c.found_in-found.ensures.least))
        | else-found-le-HIGHEST_KEY-via-else-found-le-HIGHEST_KEY w ↦ absurd (omega (arith, w.if-found-le-HIGHEST_KEY.false, (judge.1 (by_row.1 each)).0, c.found_in-found.ensures.greatest))
      ],
    )
