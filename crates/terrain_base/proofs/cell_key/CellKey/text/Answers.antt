use Rattle.std.specs.Prelude.{◌++◌, ◌∷◌, []}
use Rattle.std.proofs.Common.{ap, ◌∙◌}
use Rattle.terrain_base.specs.SquareText.{square_text}
use Rattle.terrain_base.proofs.KeyTexts.{square_spelt}
use Rattle.terrain_base.proofs.cell_key.CellKey.text.Goals as goal

pub returns : goal.returns
returns c =
    square_spelt c.args.self.now.square c.text.result (32 ∷ c.digit.result ∷ []) c.text.ensures
    ∙ ap (λ d. square_text c.args.self.now.square ++ 32 ∷ d ∷ []) c.digit.ensures
