-- Loops over the rows of a record and over the records of a cell.
use Rattle.std.proofs.Common.{◌≡◌, ℕ, zero, suc, ◌+◌, ◌-◌, ◌*◌, ◌<◌, ◌≤◌, ◌^◌, List, [], ◌∷◌, ◌++◌, map, length, refl, arith, append_assoc}
use Rattle.std.specs.List.{flat_map, range_with_len}
use Rattle.common_laws.proofs.Lists.{range_next}
use Rattle.terrain_base.specs.declared.post.Post.{Post}
use Rattle.terrain_base.specs.declared.level.CellLevel.{CellLevel}
use Rattle.terrain_base.specs.declared.level.CellLevel.TheVariants.{Zero, One, Two}
use Rattle.terrain_base.specs.Level.{rows_of}
use Rattle.dted_write.specs.Record.{word_of, two_bytes, bytes_of_post, counted_posts}
use Rattle.dted_write.specs.Cell.{column_of}

-- one part more at the end of a text
pub flat_next : (f : ℕ → List ℕ) (out : List ℕ) (k n : ℕ) → k < n → (out ++ f k) ++ flat_map f (range_with_len (k + 1) (n - (k + 1))) ≡ out ++ flat_map f (range_with_len k (n - k))
flat_next f out k n h = rw (range_next k n h) (append_assoc out (f k) (flat_map f (range_with_len (k + 1) (n - (k + 1)))))

-- one elevation more
pub elevations_next : (post : ℕ → Post) (out : List ℕ) (k n : ℕ) → k < n → (out ++ two_bytes (word_of (post k))) ++ flat_map bytes_of_post (map post (range_with_len (k + 1) (n - (k + 1)))) ≡ out ++ flat_map bytes_of_post (map post (range_with_len k (n - k)))
elevations_next post out k n h = rw (range_next k n h) (append_assoc out (two_bytes (word_of (post k))) (flat_map bytes_of_post (map post (range_with_len (k + 1) (n - (k + 1))))))

-- a record is short
pub length_elevations : (posts : List Post) → length (flat_map bytes_of_post posts) ≡ 2 * length posts
length_elevations [] = refl
length_elevations (p ∷ ps) = omega (arith, length_elevations ps)

pub length_column : (post : ℕ → Post) (k n : ℕ) → length (map post (range_with_len k n)) ≡ n
length_column post k zero = refl
length_column post k (suc n) = omega (arith, length_column post (k + 1) n)

rows_small : (level : CellLevel) → rows_of level ≤ 3601
rows_small Zero = omega arith
rows_small One = omega arith
rows_small Two = omega arith

pub record_small : (post : ℕ → ℕ → Post) (level : CellLevel) (col : ℕ) → length (counted_posts col (column_of post (rows_of level) col)) < 2 ^ 20
unfolding counted_posts
record_small post level col = omega (arith, length_elevations (column_of post (rows_of level) col), length_column (post col) 0 (rows_of level), rows_small level)
