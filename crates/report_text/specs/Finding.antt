-- The texts of what an audit finds.
use Rattle.std.specs.Prelude.{ℕ, List, [], ◌∷◌, codes, decimal}
use Rattle.mesh_check.specs.declared.verdict.Finding.{Finding}
use Rattle.mesh_check.specs.declared.verdict.Finding.TheVariants.{TooLarge, NotCounterClockwise, SlabGap, HeightGap, LineDisagrees}
use Rattle.report_text.specs.Words.{joined}

abbrev pub finding_text_of : Finding → List ℕ
finding_text_of (TooLarge vertices) = joined (codes "too-large " ∷ decimal vertices ∷ [])
finding_text_of (NotCounterClockwise triangle) =
    joined (codes "not-counter-clockwise triangle " ∷ decimal triangle ∷ [])
finding_text_of (SlabGap low high place) =
    joined (codes "slab-gap " ∷ decimal low ∷ codes " " ∷ decimal high ∷ codes " place " ∷ decimal place ∷ [])
finding_text_of (HeightGap low high place) =
    joined (codes "height-gap " ∷ decimal low ∷ codes " " ∷ decimal high ∷ codes " place " ∷ decimal place ∷ [])
finding_text_of (LineDisagrees v) = joined (codes "line-disagrees " ∷ decimal v ∷ [])
