-- What stands where in the records of a cell that is written.
use Rattle.std.proofs.Common.{◌≡◌, ℕ, zero, suc, ◌+◌, ◌-◌, ◌*◌, ◌/◌, ◌%◌, ◌^◌, ◌<◌, ◌≤◌, List, [], ◌∷◌, ◌++◌, length, get_or, drop, sum, refl, ap, sym, ◌∙◌, append_assoc, arith, length-append}
use Rattle.std.proofs.Math.Seq.{get_or-append_right, take-append_seam, drop-append_seam}
use Rattle.std.proofs.Math.ListN.{get_or-append}
use Rattle.std.proofs.lemmas.List.Sums.{sum_by-cons}
use Rattle.std.specs.List.{flat_map, range_with_len, slice_range}
use Rattle.terrain_base.specs.declared.post.Post.{Post}
use Rattle.terrain_base.specs.declared.post.Post.TheVariants.{Void}
use Rattle.dted_write.specs.Record.{word_of, four_bytes, bytes_of_post, counted_posts, record_text}
use Rattle.dted_write.specs.Cell.{column_of, record_from}
use Rattle.dted_write.proofs.Records.{length_elevations, length_column}

pub length_counted : (col : ℕ) (posts : List Post) → length (counted_posts col posts) ≡ 8 + 2 * length posts
unfolding counted_posts
length_counted col posts = omega (arith, length_elevations posts)

pub length_record : (col : ℕ) (posts : List Post) → length (record_text col posts) ≡ 12 + 2 * length posts
unfolding record_text
length_record col posts = omega (arith, length-append (counted_posts col posts) (four_bytes (sum (counted_posts col posts))), length_counted col posts)

-- an elevation's two bytes
first_at : (ps : List Post) (r : ℕ) → r < length ps → get_or (flat_map bytes_of_post ps) (2 * r) 0 ≡ word_of (get_or ps r Void) / 256 % 256
first_at [] r h = absurd (omega arith)
first_at (p ∷ ps) zero h = refl
first_at (p ∷ ps) (suc r) h = let i : 2 * suc r ≡ suc (suc (2 * r)) = omega arith in rw i (first_at ps r (omega arith))

second_at : (ps : List Post) (r : ℕ) → r < length ps → get_or (flat_map bytes_of_post ps) (2 * r + 1) 0 ≡ word_of (get_or ps r Void) % 256
second_at [] r h = absurd (omega arith)
second_at (p ∷ ps) zero h = refl
second_at (p ∷ ps) (suc r) h = let i : 2 * suc r + 1 ≡ suc (suc (2 * r + 1)) = omega arith in rw i (second_at ps r (omega arith))

-- a text, parted round a part of it
pub record Parted (text : List ℕ) (at : ℕ) (part : List ℕ) : Type 0 where
  pub before : List ℕ
  pub after : List ℕ
  pub parts : text ≡ before ++ (part ++ after)
  pub place : length before ≡ at

pub parted : (post : ℕ → ℕ → Post) (rows : ℕ) (head : List ℕ) (first n col : ℕ) → col < n → Parted (head ++ flat_map (record_from post rows) (range_with_len first n)) (length head + col * (12 + 2 * rows)) (record_from post rows (first + col))
parted post rows head first zero col h = absurd (omega arith)
parted post rows head first (suc n) zero h =
    let same : first + 0 ≡ first = omega arith in
    record { before = head; after = flat_map (record_from post rows) (range_with_len (first + 1) n); parts = rw same refl; place = omega arith }
parted post rows head first (suc n) (suc col) h =
    let next = parted post rows (head ++ record_from post rows first) (first + 1) n col (omega arith) in
    let number : first + 1 + col ≡ first + suc col = omega arith in
    record {
      before = next.before;
      after = next.after;
      parts = sym (append_assoc head (record_from post rows first) (flat_map (record_from post rows) (range_with_len (first + 1) n))) ∙ next.parts ∙ ap (λ k. next.before ++ (record_from post rows k ++ next.after)) number;
      place = next.place ∙ omega (arith, length-append head (record_from post rows first), length_record first (column_of post rows first), length_column (post first) 0 rows);
    }

pub byte_in : (text : List ℕ) (at i j : ℕ) (part : List ℕ) → Parted text at part → i ≡ at + j → j < length part → get_or text i 0 ≡ get_or part j 0
byte_in text at i j part p e h =
    let k : i - length p.before ≡ j = omega (arith, p.place) in
    rw p.parts (get_or-append_right p.before (part ++ p.after) i 0 (omega (arith, p.place)) ∙ rw k (get_or-append part p.after 0 j h))

pub high_in : (col : ℕ) (ps : List Post) (row : ℕ) → row < length ps → get_or (record_text col ps) (8 + 2 * row) 0 ≡ word_of (get_or ps row Void) / 256 % 256
unfolding record_text counted_posts
high_in col ps row h =
    let i : 8 + 2 * row ≡ suc (suc (suc (suc (suc (suc (suc (suc (2 * row)))))))) = omega arith in
    rw i (get_or-append (flat_map bytes_of_post ps) (four_bytes (sum (counted_posts col ps))) 0 (2 * row) (omega (arith, length_elevations ps)) ∙ first_at ps row h)

pub low_in : (col : ℕ) (ps : List Post) (row : ℕ) → row < length ps → get_or (record_text col ps) (8 + 2 * row + 1) 0 ≡ word_of (get_or ps row Void) % 256
unfolding record_text counted_posts
low_in col ps row h =
    let i : 8 + 2 * row + 1 ≡ suc (suc (suc (suc (suc (suc (suc (suc (2 * row + 1)))))))) = omega arith in
    rw i (get_or-append (flat_map bytes_of_post ps) (four_bytes (sum (counted_posts col ps))) 0 (2 * row + 1) (omega (arith, length_elevations ps)) ∙ second_at ps row h)

pub sum_in : (col : ℕ) (ps : List Post) (k : ℕ) → k < 4 → get_or (record_text col ps) (8 + 2 * length ps + k) 0 ≡ get_or (four_bytes (sum (counted_posts col ps))) k 0
unfolding record_text
sum_in col ps k h =
    let i : 8 + 2 * length ps + k - length (counted_posts col ps) ≡ k = omega (arith, length_counted col ps) in
    get_or-append_right (counted_posts col ps) (four_bytes (sum (counted_posts col ps))) (8 + 2 * length ps + k) 0 (omega (arith, length_counted col ps)) ∙ rw i refl

pub two_value : (w : ℕ) → w < 65536 → 256 * (w / 256 % 256) + w % 256 ≡ w
two_value w h = omega arith

pub four_value : (n : ℕ) → n < 2 ^ 32 → 65536 * (256 * (n / 16777216 % 256) + n / 65536 % 256) + (256 * (n / 256 % 256) + n % 256) ≡ n
four_value n h = omega arith

more : (x : ℕ) (xs : List ℕ) → sum (x ∷ xs) ≡ x + sum xs
more x xs = sum_by-cons (λ y. y) x xs

sum_bytes : (ps : List Post) → sum (flat_map bytes_of_post ps) ≤ 510 * length ps
sum_bytes [] = omega arith
sum_bytes (p ∷ ps) = omega (arith, sum_bytes ps, more (word_of p / 256 % 256) (word_of p % 256 ∷ flat_map bytes_of_post ps), more (word_of p % 256) (flat_map bytes_of_post ps))

-- the part as a slice of the text, without its last four bytes
pub counted_slice : (text : List ℕ) (at col : ℕ) (ps : List Post) → Parted text at (record_text col ps) → slice_range text at (at + (8 + 2 * length ps)) ≡ counted_posts col ps
unfolding record_text
counted_slice text at col ps p =
    let body = counted_posts col ps in
    let len : at + (8 + 2 * length ps) - at ≡ length body = omega (arith, length_counted col ps) in
    let rest : drop at text ≡ body ++ (four_bytes (sum body) ++ p.after) =
    ap (λ n. drop n text) (sym p.place) ∙ ap (drop (length p.before)) p.parts ∙ drop-append_seam p.before (record_text col ps ++ p.after) ∙ append_assoc body (four_bytes (sum body)) p.after in
    rw (len, rest) (take-append_seam body (four_bytes (sum body) ++ p.after))

pub sum_counted : (col : ℕ) (ps : List Post) → col < 65536 → length ps ≤ 3601 → sum (counted_posts col ps) < 2 ^ 32
unfolding counted_posts
sum_counted col ps c h =
    let e = flat_map bytes_of_post ps in
    let high = col / 256 % 256 in
    let low = col % 256 in
    omega (arith, sum_bytes ps, more 170 (0 ∷ high ∷ low ∷ high ∷ low ∷ 0 ∷ 0 ∷ e), more 0 (high ∷ low ∷ high ∷ low ∷ 0 ∷ 0 ∷ e), more high (low ∷ high ∷ low ∷ 0 ∷ 0 ∷ e), more low (high ∷ low ∷ 0 ∷ 0 ∷ e), more high (low ∷ 0 ∷ 0 ∷ e), more low (0 ∷ 0 ∷ e), more 0 (0 ∷ e), more 0 e)
