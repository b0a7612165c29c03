-- The grid lines of a block.
use Rattle.std.proofs.Common.{◌≡◌, ℕ, ◌*◌, ◌<◌, ◌≤◌, get_or, sym, ◌∙◌, subst, arith}
use Rattle.tms_tree.specs.declared.place.Place.{Place}
use Rattle.tms_tree.specs.Place.{place_of}
use Rattle.tms_tree.proofs.Places.{place_fits}
use Rattle.cell_mosaic.specs.Cells.{Shapes}
use Rattle.resample.specs.declared.block.Block.{Block}
use Rattle.resample.specs.declared.grid_lines.GridLines.{GridLines}
use Rattle.resample.specs.Block.{IsBlock}
use Rattle.resample.specs.Line.{IsLine, AreGridLines, no_line, column_units, row_units, parts_of}
use Rattle.resample.proofs.Lines.{before_last}

round : (p d : ℕ) → p ≤ 2 * d → 180 * p ≤ 360 * d
round p d h = omega arith

half_round : (q d : ℕ) → q ≤ d → 180 * q ≤ 180 * d
half_round q d h = omega arith

-- the column through a grid point, which lies in the block's square where it is none of whole degrees
pub column_here : (shapes : Shapes) (block : Block) (lines : GridLines) (i j : ℕ) (place : Place) → IsBlock shapes block → AreGridLines block.tile lines → block.columns.first ≤ i → i < block.columns.end → place ≡ place_of block.tile i j
    → IsLine (180 * place.p) place.d (get_or lines.columns i no_line) × (0 < (get_or lines.columns i no_line).rest → block.square.lon ≡ (get_or lines.columns i no_line).degrees)
column_here shapes block lines i j place is are from to same =
    let runs = is.across in
    let last = runs.last in
    let below : i < 67 = omega (arith, to, last) in
    let line = are.across.each i below in
    let fit = place_fits block.tile i 0 (omega (arith, below)) (omega arith) in
    let degree = runs.each i from to in (
      subst (λ (p : Place). IsLine (180 * p.p) p.d (get_or lines.columns i no_line)) (sym same) line,
      λ some.
          is.lon (before_last (column_units block.tile i) (parts_of block.tile) block.columns.degrees 360 fit.positive (round _ _ fit.turn) (subst (λ (k : ℕ). 0 < k) line.rest some) degree)
          ∙ sym degree ∙ sym line.degrees,
    )

-- the row
pub row_here : (shapes : Shapes) (block : Block) (lines : GridLines) (i j : ℕ) (place : Place) → IsBlock shapes block → AreGridLines block.tile lines → block.rows.first ≤ j → j < block.rows.end → place ≡ place_of block.tile i j
    → IsLine (180 * place.q) place.d (get_or lines.rows j no_line) × (0 < (get_or lines.rows j no_line).rest → block.square.lat ≡ (get_or lines.rows j no_line).degrees)
row_here shapes block lines i j place is are from to same =
    let runs = is.along in
    let last = runs.last in
    let below : j < 67 = omega (arith, to, last) in
    let line = are.along.each j below in
    let fit = place_fits block.tile 0 j (omega arith) (omega (arith, below)) in
    let degree = runs.each j from to in (
      subst (λ (p : Place). IsLine (180 * p.q) p.d (get_or lines.rows j no_line)) (sym same) line,
      λ some.
          is.lat (before_last (row_units block.tile j) (parts_of block.tile) block.rows.degrees 180 fit.positive (half_round _ _ fit.pole) (subst (λ (k : ℕ). 0 < k) line.rest some) degree)
          ∙ sym degree ∙ sym line.degrees,
    )
