-- The posts of HGT files.
use Rattle.std.proofs.Common.{
  ◌≡◌,
  ℕ,
  ℤ,
  ◌-◌,
  ◌*◌,
  ◌/◌,
  ◌<◌,
  pos,
  Bool,
  true,
  false,
  List,
  ap,
  subst,
  arith,
  inl,
  inr,
  ◌⊎◌,
}
use Rattle.std.specs.Ordering.{int_eq}
use Rattle.std.proofs.lemmas.Bool.{cases_Bool, true≢false}
use Rattle.std.proofs.lemmas.Bool.Decides.{nat_tests, Decides-int_eq}
use Rattle.terrain_base.specs.declared.square.Square.{Square}
use Rattle.terrain_base.specs.declared.level.CellLevel.{CellLevel}
use Rattle.terrain_base.specs.declared.level.CellLevel.TheVariants.{Zero, One, Two}
use Rattle.terrain_base.specs.declared.post.Post.{Post}
use Rattle.terrain_base.specs.declared.post.Post.TheVariants.{Void, Metres}
use Rattle.terrain_base.specs.Height.{IsHeight}
use Rattle.terrain_base.specs.Level.{lat_step_of, lon_step_of, zone_factor_of, rows_of, columns_of}
use Rattle.dted_cell.specs.Cell.{IsCell}
use Rattle.dted_write.specs.Post.{IsPost}
use Rattle.dted_write.specs.Cell.{cell_text, columns_from}
use Rattle.dted_write.proofs.Law.{written}
use Rattle.hgt_cells.specs.Sample.{unknown, IsSample, post_of}
use Rattle.hgt_cells.specs.File.{level_in, lines_in, sample_in, IsHgt}
use Rattle.hgt_cells.specs.Cell.{hgt_post}

-- the parts of a post
abbrev is_void : Post → Bool
is_void Void = true
is_void (Metres metres) = false

abbrev number_of : Post → ℤ
number_of Void = pos 0
number_of (Metres metres) = metres

-- the factor is the quotient of the steps
pub factor_is : (square : Square) (level : CellLevel)
    → lon_step_of square level / lat_step_of level ≡ zone_factor_of square.lat
factor_is square Zero = omega arith
factor_is square One = omega arith
factor_is square Two = omega arith

-- a column stands at a place on the line
pub place_within : (square : Square) (level : CellLevel) (col : ℕ) → col < columns_of square level
    → col * zone_factor_of square.lat < rows_of level
place_within square Zero col h = grind (arith, nat_tests, h)
place_within square One col h = grind (arith, nat_tests, h)
place_within square Two col h = grind (arith, nat_tests, h)

height_of : (metres : ℤ) (number : ℤ) → IsHeight number → Metres number ≡ Metres metres → IsHeight metres
height_of metres number height same = subst IsHeight (ap number_of same) height

sample_post : (number : ℤ) → IsSample number → IsPost (post_of number)
sample_post number good = cases (cases_Bool (int_eq number unknown))
  where
    cases : ((int_eq number unknown ≡ true) ⊎ (int_eq number unknown ≡ false)) → IsPost (post_of number)
    cases (inl void) = rw void (λ metres same. absurd (true≢false (ap is_void same)))
    cases (inr some) =
        let height = good (λ e. grind (arith, Decides-int_eq number unknown, e, some)) in
        rw some (λ metres same. height_of metres number height same)

hgt_is_post : (square : Square) (bytes : List ℕ) → IsHgt bytes → (col row : ℕ)
    → col < columns_of square (level_in bytes) → row < rows_of (level_in bytes) → IsPost (hgt_post square bytes col row)
unfolding hgt_post
hgt_is_post square bytes file col row c r =
    sample_post (sample_in bytes (lines_in bytes - 1 - row) (col * zone_factor_of square.lat))
    (file.samples (lines_in bytes - 1 - row) (col * zone_factor_of square.lat) (omega arith)
    (place_within square (level_in bytes) col c))

pub hgt_is_cell : (square : Square) (bytes : List ℕ) → IsHgt bytes
    → IsCell (cell_text square (level_in bytes) (hgt_post square bytes)) square (level_in bytes)
    (columns_from square (level_in bytes) (hgt_post square bytes))
hgt_is_cell square bytes file = written square (level_in bytes) (hgt_post square bytes) (hgt_is_post square bytes file)
