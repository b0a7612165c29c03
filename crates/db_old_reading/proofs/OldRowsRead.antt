-- The cells of old rows, read one by one.
use Rattle.std.proofs.Common.{◌≡◌, ℕ, zero, suc, ◌+◌, ◌<◌, ◌++◌, List, [], ◌∷◌, length, map, take, drop, get_or, Option, Some, None, refl, sym, ap, subst, ◌∙◌, add-one, drop-cons, arith}
use Rattle.std.specs.Prelude.{IsTrue}
use Rattle.std.specs.FinMap.{get}
use Rattle.std.specs.List.{AllByRecursion}
use Rattle.std.proofs.lemmas.List.{take_more, take-append-drop, map-append}
use Rattle.std.specs.Option.{unwrap_or}
use Rattle.terrain_base.specs.declared.level.CellLevel.{CellLevel}
use Rattle.terrain_base.specs.declared.summary.Summary.{Summary}
use Rattle.terrain_base.specs.Step.{Files}
use Rattle.manifest_lines.specs.declared.version.Version.{Version}
use Rattle.manifest_lines.specs.declared.version.Version.TheVariants.{One, Two, Three}
use Rattle.manifest_lines.proofs.Ascending.{all-push}
use Rattle.old_manifest.specs.declared.row.OldRow.{OldRow}
use Rattle.old_manifest.specs.OldRows.{same_row}
use Rattle.old_manifest.specs.Rows.{old_suits}
use Rattle.database.specs.Cells.{row_key, row_keys}
use Rattle.database.specs.declared.answer.EngineAnswer.{EngineAnswer}
use Rattle.database.specs.declared.answer.EngineAnswer.TheVariants as answer
use Rattle.db_old_reading.specs.Kept.{row_of, key_of, kept_under}
use Rattle.db_old_reading.specs.OldOpening.{IsKept}
use Rattle.db_old_reading.specs.Told.{IsRead, AreRead, IsRowTrouble, IsRowsTrouble}
use Rattle.db_old_reading.proofs.OldStates.{kept_of}

-- a row of the version is that of its cell's key
level_back : (v : Version) (level : Option CellLevel) (own : CellLevel) (row : OldRow) → row.level ≡ level → IsTrue (old_suits v level) → row ≡ row_of v (record { square = row.square; level = unwrap_or level own })
level_back One None own row e suits = same_row row _ refl e
level_back One (Some level) own row e suits = absurd (cc)
level_back Two None own row e suits = absurd (cc)
level_back Two (Some level) own row e suits = same_row row _ refl e
level_back Three None own row e suits = absurd (cc)
level_back Three (Some level) own row e suits = same_row row _ refl e

pub row_back : (v : Version) (row : OldRow) (bytes : List ℕ) (cell : Summary) → row_key cell ≡ key_of row bytes → IsTrue (old_suits v row.level) → row ≡ row_of v (row_key cell)
row_back v row bytes cell is suits = level_back v row.level _ row refl suits ∙ ap (row_of v) (sym is)

pub all_at : {A : Type 0} (P : A → Type 0) (xs : List A) (i : ℕ) (x : A) → i < length xs → x ≡ get_or xs i x → AllByRecursion P xs → P x
all_at P [] i x less is all = absurd (omega arith)
all_at P (y ∷ xs) zero x less is all = subst P (sym is) all.0
all_at P (y ∷ xs) (suc i) x less is all = all_at P xs i x (omega arith) is all.1

pub one_more : (files : Files) (v : Version) (staged : Option OldRow) (cells : List Summary) (row : OldRow) (cell : Summary) → row ≡ row_of v (row_key cell)
    → AreRead files v staged cells → IsRead files staged row cell → AreRead files v staged (cells ++ cell ∷ [])
one_more files v staged cells row cell row_is so_far one =
    all-push (λ c. IsRead files staged (row_of v (row_key c)) c) cells cell so_far (subst (λ r. IsRead files staged r cell) row_is one)

pub row_more : (v : Version) (rows : List OldRow) (i : ℕ) (row : OldRow) (cells : List Summary) (cell : Summary) → i < length rows → row ≡ get_or rows i row
    → row ≡ row_of v (row_key cell) → map (row_of v) (row_keys cells) ≡ take i rows → map (row_of v) (row_keys (cells ++ cell ∷ [])) ≡ take (i + 1) rows
row_more v rows i row cells cell less is row_is so_far =
    ap (map (row_of v)) (map-append row_key cells (cell ∷ []))
    ∙ map-append (row_of v) (row_keys cells) (row_key cell ∷ [])
    ∙ (λ j. so_far j ++ (sym row_is j ∷ []))
    ∙ ap (λ r. take i rows ++ r ∷ []) is ∙ sym (take_more rows i row less)

kept_front : (files : Files) (v : Version) (staged : Option OldRow) (cells : List Summary) → AreRead files v staged cells → AllByRecursion (IsKept files staged) (map (row_of v) (row_keys cells))
kept_front files v staged [] all = tt
kept_front files v staged (cell ∷ cells) all = (kept_of v (row_key cell) (get files (kept_under staged (row_of v (row_key cell)))) all.0.kept, kept_front files v staged cells all.1)

split_at : (rows : List OldRow) (i : ℕ) (row : OldRow) → i < length rows → row ≡ get_or rows i row → rows ≡ take i rows ++ row ∷ drop (i + 1) rows
split_at rows i row less is =
    sym (ap (λ r. take i rows ++ r ∷ drop (i + 1) rows) is ∙ ap (λ rs. take i rows ++ rs) (rw add-one (sym (drop-cons rows i row less))) ∙ take-append-drop i rows)

pub stop_at_row : (files : Files) (v : Version) (staged : Option OldRow) (rows : List OldRow) (i : ℕ) (row : OldRow) (cells : List Summary) (a : EngineAnswer) → i < length rows → row ≡ get_or rows i row
    → AreRead files v staged cells → map (row_of v) (row_keys cells) ≡ take i rows → IsRowTrouble files staged row a → IsRowsTrouble files staged rows a
stop_at_row files v staged rows i row cells (answer.CellPresent square level) less is read same t = t
stop_at_row files v staged rows i row cells (answer.CellAbsent square level) less is read same t = t
stop_at_row files v staged rows i row cells answer.DatabaseFull less is read same t = t
stop_at_row files v staged rows i row cells (answer.NotEmpty name) less is read same t = t
stop_at_row files v staged rows i row cells (answer.NotADatabase line) less is read same t = t
stop_at_row files v staged rows i row cells (answer.Trouble trouble) less is read same t = record {
  front = take i rows;
  row = row;
  back = drop (i + 1) rows;
  rows_are = split_at rows i row less is;
  before = subst (λ rs. AllByRecursion (IsKept files staged) rs) same (kept_front files v staged cells read);
  at = t;
}
stop_at_row files v staged rows i row cells (answer.NoTile tile) less is read same t = t
stop_at_row files v staged rows i row cells (answer.TileLost name) less is read same t = t
stop_at_row files v staged rows i row cells (answer.OldVersion version) less is read same t = t
stop_at_row files v staged rows i row cells (answer.NotOld version) less is read same t = t
stop_at_row files v staged rows i row cells answer.StoreFault less is read same t = tt
stop_at_row files v staged rows i row cells answer.NoMemory less is read same t = tt
