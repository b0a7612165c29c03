use Rattle.std.proofs.Common.{subst, ◌∙◌, ap}
use Rattle.cell_mosaic.specs.Cells.{IsSoundCell}
use Rattle.cell_mosaic.specs.Summaries.{summary_of}
use Rattle.cell_mosaic.specs.Whole.{key_in}
use Rattle.db_engine.proofs.rows.row_of.Goals as goal

pub returns-clause-value : goal.returns-clause-value
returns-clause-value c = c.row_in.ensures.value ∙ ap (λ bytes. summary_of (key_in bytes) bytes) c.bytes.ensures.value

pub returns-clause-sound : goal.returns-clause-sound
returns-clause-sound c = subst (λ bytes. IsSoundCell (key_in bytes) bytes) c.bytes.ensures.value c.row_in.ensures.sound
