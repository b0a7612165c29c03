-- The texts of refusals, from their numbers on.
use Rattle.std.specs.Prelude.{ℕ, List, [], ◌∷◌, codes, decimal}
use Rattle.std.specs.Fmt.{signed_decimal}
use Rattle.dted_cell.specs.declared.refusal.CellRefusal.{CellRefusal}
use Rattle.dted_cell.specs.declared.refusal.CellRefusal.TheVariants.{TooShort, NoUhl, BadField, OffDegree, WrongSpacing, WrongCounts, NoDsi, SeriesDisagrees, NotWgs84, NoAcc, BadSentinel, BadColumn, BadChecksum, HeightOutOfRange}
use Rattle.report_text.specs.Words.{joined}

abbrev pub cell_refusal_of : CellRefusal → List ℕ
cell_refusal_of (TooShort need have) =
    joined (codes "C1 too short need " ∷ decimal need ∷ codes " have " ∷ decimal have ∷ [])
cell_refusal_of NoUhl = codes "C2 no UHL"
cell_refusal_of (BadField offset) = joined (codes "C3 bad field at " ∷ decimal offset ∷ [])
cell_refusal_of OffDegree = codes "C4 off degree"
cell_refusal_of WrongSpacing = codes "C5 wrong spacing"
cell_refusal_of WrongCounts = codes "C6 wrong counts"
cell_refusal_of NoDsi = codes "C7 no DSI"
cell_refusal_of SeriesDisagrees = codes "C8 series disagrees"
cell_refusal_of NotWgs84 = codes "C9 not WGS84"
cell_refusal_of NoAcc = codes "C10 no ACC"
cell_refusal_of (BadSentinel col) = joined (codes "C11 bad sentinel column " ∷ decimal col ∷ [])
cell_refusal_of (BadColumn col) = joined (codes "C12 bad column " ∷ decimal col ∷ [])
cell_refusal_of (BadChecksum col stated summed) =
    joined (codes "C13 bad checksum column " ∷ decimal col ∷ codes " stated " ∷ decimal stated ∷ codes " summed "
    ∷ decimal summed ∷ [])
cell_refusal_of (HeightOutOfRange col row value) =
    joined (codes "C14 height column " ∷ decimal col ∷ codes " row " ∷ decimal row ∷ codes " value "
    ∷ signed_decimal value ∷ [])
