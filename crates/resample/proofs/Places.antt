-- Values where a square has no cell, and squares that hold a place.
use Rattle.std.proofs.Common.{◌≡◌, ℕ, ◌<◌, ℤ, Bool, true, false, cond, List, length, get_or, Option, Some, None, is_some, refl, sym, ap, subst, ◌∙◌, arith}
use Rattle.std.specs.Prelude.{Contains}
use Rattle.terrain_base.specs.declared.square.Square.{Square}
use Rattle.terrain_base.specs.declared.level.CellLevel.{CellLevel}
use Rattle.std.specs.FinSet.{contains}
use Rattle.terrain_base.specs.declared.level.CellLevel.TheVariants.{Zero, One, Two}
use Rattle.terrain_base.specs.CellKey.{key_at}
use Rattle.terrain_base.specs.Level.{level_number as number_of}
use Rattle.terrain_base.specs.declared.post.Post.{Post}
use Rattle.terrain_base.specs.declared.post.Post.TheVariants.{Void, Metres}
use Rattle.tms_tree.specs.declared.place.Place.{Place}
use Rattle.tms_tree.specs.Degrees.{RectangleHolds, square_rectangle}
use Rattle.tms_tree.specs.Place.{IsPlace, point_of}
use Rattle.cell_mosaic.specs.Cells.{Cells, Shapes, AreCells, finest_of, coarser_of}
use Rattle.cell_mosaic.specs.Candidates.{candidates_of}
use Rattle.cell_mosaic.specs.Value.{value_in_key, value_at}
use Rattle.cell_mosaic.proofs.Values.{from_finest, known_here, void_here}
use Rattle.cell_mosaic.proofs.Holders.{are_holders}

-- a square without a shape has no value
pub no_value : (told : Cells) (shapes : Shapes) (square : Square) (place : Place) → AreCells told shapes → None ≡ finest_of shapes square → Void ≡ value_at told square place
no_value told shapes square place are none = from_finest told shapes square place are None none

-- a value that is void where there is no coarser cell is that of the square
pub void_alone : (told : Cells) (shapes : Shapes) (square : Square) (level : CellLevel) (place : Place) (value : Post) → AreCells told shapes → Some level ≡ finest_of shapes square
    → value ≡ value_in_key told (key_at square level) place → value ≡ Void → None ≡ coarser_of shapes (key_at square level) → Void ≡ value_at told square place
void_alone told shapes square level place value are finest at void none =
    void_here told shapes square place are level value None at void none ∙ from_finest told shapes square place are (Some level) finest

-- one that is not void is that of the square
pub known_finest : (told : Cells) (shapes : Shapes) (square : Square) (level : CellLevel) (place : Place) (value : Post) (metres : ℤ) → AreCells told shapes → Some level ≡ finest_of shapes square
    → value ≡ value_in_key told (key_at square level) place → value ≡ Metres metres → value ≡ value_at told square place
known_finest told shapes square level place value metres are finest at known =
    known_here told shapes square place are level value metres at known ∙ from_finest told shapes square place are (Some level) finest

none_of : (two one zero : Bool) → None ≡ cond two (Some Two) (cond one (Some One) (cond zero (Some Zero) None)) → (two ≡ false) × (one ≡ false) × (zero ≡ false)
none_of true one zero is = absurd (cc)
none_of false true zero is = absurd (cc)
none_of false false true is = absurd (cc)
none_of false false false is = (refl, refl, refl)

pub is_none : (o : Option CellLevel) → is_some o ≡ false → None ≡ o
is_none None none = refl
is_none (Some level) none = absurd (cc)

-- a square without a shape has no key among the shapes
pub none_held : (shapes : Shapes) (square : Square) (level : CellLevel) → None ≡ finest_of shapes square → contains shapes (key_at square level) ≡ false
none_held shapes square Two none = (none_of (contains shapes (key_at square Two)) (contains shapes (key_at square One)) (contains shapes (key_at square Zero)) none).0
none_held shapes square One none = (none_of (contains shapes (key_at square Two)) (contains shapes (key_at square One)) (contains shapes (key_at square Zero)) none).1
none_held shapes square Zero none = (none_of (contains shapes (key_at square Two)) (contains shapes (key_at square One)) (contains shapes (key_at square Zero)) none).2

finest_is_less : (two one zero : Bool) (finest : CellLevel) → Some finest ≡ cond two (Some Two) (cond one (Some One) (cond zero (Some Zero) None)) → number_of finest < 2 → two ≡ false
finest_is_less true one zero finest is less = absurd (let same : finest ≡ Two = cc in let two = ap number_of same in omega (arith, less, two))
finest_is_less false one zero finest is less = refl

middle_is_less : (two one zero : Bool) (finest : CellLevel) → Some finest ≡ cond two (Some Two) (cond one (Some One) (cond zero (Some Zero) None)) → number_of finest < 1 → one ≡ false
middle_is_less true one zero finest is less = absurd (let same : finest ≡ Two = cc in let two = ap number_of same in omega (arith, less, two))
middle_is_less false true zero finest is less = absurd (let same : finest ≡ One = cc in let one = ap number_of same in omega (arith, less, one))
middle_is_less false false zero finest is less = refl

-- no key finer than the finest level of its square is among the shapes
pub none_finer : (shapes : Shapes) (square : Square) (level finest : CellLevel) → Some finest ≡ finest_of shapes square → number_of finest < number_of level → contains shapes (key_at square level) ≡ false
none_finer shapes square Two finest is less = finest_is_less (contains shapes (key_at square Two)) (contains shapes (key_at square One)) (contains shapes (key_at square Zero)) finest is less
none_finer shapes square One finest is less = middle_is_less (contains shapes (key_at square Two)) (contains shapes (key_at square One)) (contains shapes (key_at square Zero)) finest is less
none_finer shapes square Zero finest is less = absurd (omega (arith, less))

-- a candidate holds the place
pub candidate_holds : (place : Place) (squares : List Square) (k : ℕ) (square : Square) → IsPlace place → squares ≡ candidates_of place → k < length squares → square ≡ get_or squares k square → RectangleHolds (square_rectangle square) (point_of place)
candidate_holds place squares k square fit is below at = (are_holders place square fit).0 (subst (λ l. Contains l square) is (k, below, sym at))
