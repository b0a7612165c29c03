-- The texts of refusals, from their numbers on.
use Rattle.std.specs.Prelude.{ℕ, List, [], ◌∷◌, codes, decimal, Option, Some, None}
use Rattle.terrain_base.specs.declared.level.CellLevel.{CellLevel}
use Rattle.terrain_base.specs.declared.square.Square.{Square}
use Rattle.terrain_base.specs.Level.{level_number}
use Rattle.terrain_base.specs.Name.{name_text, tile_text}
use Rattle.terrain_base.specs.SquareText.{square_text}
use Rattle.dted_cell.specs.declared.trouble.CellTrouble.{CellTrouble}
use Rattle.dted_cell.specs.declared.trouble.CellTrouble.TheVariants.{Lost, Bad, Elsewhere, Changed}
use Rattle.database.specs.declared.answer.EngineAnswer.{EngineAnswer}
use Rattle.database.specs.declared.answer.EngineAnswer.TheVariants.{CellPresent, CellAbsent, DatabaseFull, NotEmpty, NotADatabase, Trouble, NoTile, TileLost, OldVersion, NotOld, StoreFault, NoMemory}
use Rattle.report_text.specs.Words.{joined}
use Rattle.report_text.specs.Refusal.{cell_refusal_of}

-- `SQUARE level V`
abbrev pub key_text_of : Square → CellLevel → List ℕ
key_text_of square level = joined (square_text square ∷ codes " level " ∷ decimal (level_number level) ∷ [])

-- something is wrong with a stored cell
abbrev pub trouble_text_of : CellTrouble → List ℕ
trouble_text_of (Lost name) = joined (codes "K6 cell lost " ∷ name_text name ∷ [])
trouble_text_of (Bad name refusal) =
    joined (codes "K7 cell bad " ∷ name_text name ∷ codes " " ∷ cell_refusal_of refusal ∷ [])
trouble_text_of (Elsewhere name found) =
    joined (codes "K8 cell elsewhere " ∷ name_text name ∷ codes " " ∷ square_text found ∷ [])
trouble_text_of (Changed name opened found) = joined
    (codes "K9 cell changed " ∷ name_text name ∷ codes " from level " ∷ decimal (level_number opened)
    ∷ codes " to level " ∷ decimal (level_number found) ∷ [])

-- a stop of the store and want of memory refuse nothing
abbrev pub refusal_text_of : EngineAnswer → Option (List ℕ)
refusal_text_of (CellPresent square level) = Some (joined (codes "K1 cell present " ∷ key_text_of square level ∷ []))
refusal_text_of (CellAbsent square level) = Some (joined (codes "K2 cell absent " ∷ key_text_of square level ∷ []))
refusal_text_of DatabaseFull = Some (codes "K3 database full")
refusal_text_of (NotEmpty name) = Some (joined (codes "K4 not empty " ∷ name_text name ∷ []))
refusal_text_of (NotADatabase line) = Some (joined (codes "K5 not a database line " ∷ decimal line ∷ []))
refusal_text_of (Trouble trouble) = Some (trouble_text_of trouble)
refusal_text_of (NoTile tile) = Some (joined (codes "K10 no tile " ∷ tile_text tile ∷ []))
refusal_text_of (TileLost name) = Some (joined (codes "K11 tile lost " ∷ name_text name ∷ []))
refusal_text_of (OldVersion version) = Some (joined (codes "K12 old version " ∷ decimal version ∷ []))
refusal_text_of (NotOld version) = Some (joined (codes "K13 not old version " ∷ decimal version ∷ []))
refusal_text_of StoreFault = None
refusal_text_of NoMemory = None
