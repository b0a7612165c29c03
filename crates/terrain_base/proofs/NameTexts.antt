-- A name's text is told apart at its dot and its slashes.
use Rattle.std.specs.Prelude.{◌≡◌, ◌≢◌, ℕ, zero, suc, ◌+◌, ◌%◌, ◌^◌, ◌<◌, Bool, true, false, nat_le, List, [], ◌∷◌, ◌++◌, Option, Some, None, IsSomeAnd, Result, Ok, Err, MatchResult, length, codes, decimal, refl}
use Rattle.std.specs.Borrow.{Bor}
use Rattle.std.proofs.Common.{arith, rules, ap, sym, ◌∙◌, append_assoc, length-append, subst}
use Rattle.std.proofs.Math.Dec.{eqb}
use Rattle.std.proofs.Math.Seq.{take-append_seam, drop-append-add}
use Rattle.std.proofs.lemmas.Bool.{ne_eqb, eq-eqb}
use Rattle.std.proofs.lemmas.Str.{IsAscii-append, IsUtf8-from_ascii}
use Rattle.std.specs.Str.{IsAscii, IsUtf8}
use Rattle.std.proofs.lemmas.Fmt.{decimal_by_steps, parse-decimal}
use Rattle.std.specs.Str.Parse.{ParsesUnsigned}
use Rattle.std.specs.Result.{result_ok}
use Rattle.std.proofs.lemmas.Str.Pattern.{split_once_first, IsSplitOnceResult}
use Rattle.std.specs.List.{AllByRecursion, position_or_len, before_first, after_first}
use Rattle.terrain_base.specs.declared.tile.TileId.{TileId}
use Rattle.terrain_base.specs.declared.square.Square.{Square}
use Rattle.terrain_base.specs.declared.level.CellLevel.{CellLevel}
use Rattle.terrain_base.specs.declared.level.CellLevel.TheVariants.{Zero, One, Two}
use Rattle.terrain_base.specs.declared.name.Key.{Key}
use Rattle.terrain_base.specs.declared.name.Key.TheVariants.{Manifest, Layer, Stage, Cell, OldCell, Terrain, Note}
use Rattle.terrain_base.specs.Level.{level_number}
use Rattle.terrain_base.specs.SquareText.{digit_of, lat_text, lon_text, square_text}
use Rattle.terrain_base.specs.Name.{tile_text, name_text}
use Rattle.terrain_base.specs.NameParts.{cell_stem, level_ending, stem_of, ending_of}
use Rattle.terrain_base.proofs.SquareTexts.{lat_case, lon_case}
use Rattle.terrain_base.proofs.TileNumbers.{small_z, small_y, small_x}

-- ---- what the bytes of a name's text are

-- no byte of the text is c
abbrev pub Lacks : ℕ → List ℕ → Type 0
Lacks c text = AllByRecursion (λ x. x ≢ c) text

-- an ASCII character that is no dot
abbrev IsPlain : ℕ → Type 0
IsPlain x = (x ≢ 46) × (x < 128)

all-append : (P : ℕ → Type 0) (xs ys : List ℕ) → AllByRecursion P xs → AllByRecursion P ys → AllByRecursion P
    (xs ++ ys)
all-append P [] ys p q = q
all-append P (x ∷ xs) ys p q = (p.0, all-append P xs ys p.1 q)

all-decimal : (P : ℕ → Type 0) → ((digit : ℕ) → digit < 10 → P (48 + digit)) → (n : ℕ) → n < 2 ^ 64
    → AllByRecursion P (decimal n)
all-decimal P digit n fits =
    decimal_by_steps (λ n ds. AllByRecursion P ds) (λ n small. (digit n small, tt)) (λ n ds big p. all-append P ds _ p (digit (n % 10) (omega arith), tt)) n fits

-- no digit is a slash
pub lacks-decimal : (n : ℕ) → n < 2 ^ 64 → Lacks 47 (decimal n)
lacks-decimal n fits = all-decimal (λ x. x ≢ 47) (λ digit small. omega arith) n fits

plain-decimal : (n : ℕ) → n < 2 ^ 64 → AllByRecursion IsPlain (decimal n)
plain-decimal n fits = all-decimal IsPlain (λ digit small. (omega arith, omega arith)) n fits

plain-tile : (tile : TileId) → AllByRecursion IsPlain (tile_text tile)
plain-tile tile =
    let slash : IsPlain 47 = (omega arith, omega arith) in
    all-append IsPlain (decimal tile.z) _ (plain-decimal tile.z (omega (arith, small_z tile))) (
      slash,
      all-append IsPlain (decimal tile.x) _ (plain-decimal tile.x (omega (arith, small_x tile)))
          (slash, plain-decimal tile.y (omega (arith, small_y tile))),
    )

plain_digit : (n : ℕ) → IsPlain (digit_of n)
plain_digit n = (omega arith, omega arith)

plain-lat : (north : Bool) (lat : ℕ) → AllByRecursion IsPlain (lat_case north lat)
plain-lat true lat = ((omega arith, omega arith), (plain_digit _, (plain_digit _, tt)))
plain-lat false lat = ((omega arith, omega arith), (plain_digit _, (plain_digit _, tt)))

plain-lon : (east : Bool) (lon : ℕ) → AllByRecursion IsPlain (lon_case east lon)
plain-lon true lon = ((omega arith, omega arith), (plain_digit _, (plain_digit _, (plain_digit _, tt))))
plain-lon false lon = ((omega arith, omega arith), (plain_digit _, (plain_digit _, (plain_digit _, tt))))

plain-cell : (s : Square) → AllByRecursion IsPlain (cell_stem s)
plain-cell s =
    all-append IsPlain (codes "cells/") (square_text s) (search rules)
    (all-append IsPlain (lat_text s.lat) (lon_text s.lon) (plain-lat (nat_le 90 s.lat) s.lat) (plain-lon (nat_le 180 s.lon) s.lon))

plain-stem : (key : Key) → AllByRecursion IsPlain (stem_of key)
plain-stem Manifest = search rules
plain-stem Layer = search rules
plain-stem Stage = search rules
plain-stem (Cell k) = plain-cell k.square
plain-stem (OldCell s) = plain-cell s
plain-stem (Terrain t) = plain-tile t
plain-stem (Note t) = plain-tile t

lacks-plain : (xs : List ℕ) → AllByRecursion IsPlain xs → Lacks 46 xs
lacks-plain [] p = p
lacks-plain (x ∷ xs) p = (p.0.0, lacks-plain xs p.1)

-- the part before the dot has none
pub lacks-stem : (key : Key) → Lacks 46 (stem_of key)
lacks-stem key = lacks-plain (stem_of key) (plain-stem key)

IsAscii-plain : (xs : List ℕ) → AllByRecursion IsPlain xs → IsAscii xs
IsAscii-plain [] p i = omega arith
IsAscii-plain (x ∷ xs) p zero = p.0.1
IsAscii-plain (x ∷ xs) p (suc i) = IsAscii-plain xs p.1 i

pub parts_of : (key : Key) → name_text key ≡ stem_of key ++ 46 ∷ ending_of key
parts_of Manifest = refl
parts_of Layer = refl
parts_of Stage = refl
parts_of (Cell k) = simp append_assoc
parts_of (OldCell s) = simp append_assoc
parts_of (Terrain t) = refl
parts_of (Note t) = refl

dot_ascii : IsAscii (46 ∷ [])
dot_ascii zero = omega arith
dot_ascii (suc i) = omega arith

small_level : (level : CellLevel) → level_number level < 2 ^ 64
small_level Zero = omega arith
small_level One = omega arith
small_level Two = omega arith

one_digit : (n : ℕ) → n < 10 → decimal n ≡ (48 + n) ∷ []
one_digit n small = decimal_by_steps (λ n ds. n < 10 → ds ≡ (48 + n) ∷ []) (λ n less less'. refl) (λ n ds big p less. absurd (omega arith)) n (omega arith) small

pub decimal_level : (level : CellLevel) → decimal (level_number level) ≡ (48 + level_number level) ∷ []
decimal_level Zero = one_digit 0 (omega arith)
decimal_level One = one_digit 1 (omega arith)
decimal_level Two = one_digit 2 (omega arith)

pub ending_is : (level : CellLevel) → level_ending level ≡ (48 + level_number level) ∷ codes ".dt"
ending_is level = ap (λ xs. xs ++ codes ".dt") (decimal_level level)

IsAscii-ending : (key : Key) → IsAscii (ending_of key)
IsAscii-ending Manifest = IsAscii-plain (codes "txt") (search rules)
IsAscii-ending Layer = IsAscii-plain (codes "json") (search rules)
IsAscii-ending Stage = IsAscii-plain (codes "dt") (search rules)
IsAscii-ending (Cell k) = IsAscii-append (decimal (level_number k.level)) (46 ∷ codes "dt") (IsAscii-plain _ (plain-decimal _ (small_level k.level)))
    (IsAscii-append (46 ∷ []) (codes "dt") dot_ascii (IsAscii-plain (codes "dt") (search rules)))
IsAscii-ending (OldCell s) = IsAscii-plain (codes "dt") (search rules)
IsAscii-ending (Terrain t) = IsAscii-plain (codes "terrain") (search rules)
IsAscii-ending (Note t) = IsAscii-plain (codes "txt") (search rules)

IsAscii-text : (key : Key) → IsAscii (name_text key)
IsAscii-text key = rw (parts_of key) (IsAscii-append (stem_of key) (46 ∷ ending_of key) (IsAscii-plain _ (plain-stem key)) (IsAscii-append (46 ∷ []) (ending_of key) dot_ascii (IsAscii-ending key)))

-- ---- a text is cut at a byte that its front lacks

cut_place : (c : ℕ) (xs ys : List ℕ) → Lacks c xs → position_or_len (λ b. eqb b c) (xs ++ c ∷ ys) ≡ length xs
cut_place c [] ys p = rw (eq-eqb c c refl) refl
cut_place c (x ∷ xs) ys p = rw (ne_eqb x c p.0) (omega (arith, cut_place c xs ys p.1))

cut_front : (c : ℕ) (xs ys : List ℕ) → Lacks c xs → before_first (λ b. eqb b c) (xs ++ c ∷ ys) ≡ xs
cut_front c xs ys p = rw (cut_place c xs ys p) (take-append_seam xs (c ∷ ys))

cut_rest : (c : ℕ) (xs ys : List ℕ) → Lacks c xs → after_first (λ b. eqb b c) (xs ++ c ∷ ys) ≡ ys
cut_rest c xs ys p = rw (cut_place c xs ys p) (drop-append-add xs (c ∷ ys) 1)

pub cut : (c : ℕ) (xs ys cs ds : List ℕ) → Lacks c xs → Lacks c ys → xs ++ c ∷ cs ≡ ys ++ c ∷ ds → (xs ≡ ys) ×
    (cs ≡ ds)
cut c xs ys cs ds p q e = (
  sym (cut_front c xs cs p) ∙ ap (before_first (λ b. eqb b c)) e ∙ cut_front c ys ds q,
  sym (cut_rest c xs cs p) ∙ ap (after_first (λ b. eqb b c)) e ∙ cut_rest c ys ds q,
)

-- `split_once` finds the cut
pub split_found : (c : ℕ) (xs ys bs : List ℕ) (r : Option (Bor (List ℕ) × Bor (List ℕ))) → IsSplitOnceResult c bs r
    → c < 128 → Lacks c xs → bs ≡ xs ++ c ∷ ys → IsSomeAnd r (λ x. (x.0.now ≡ xs) × (x.1.now ≡ ys))
split_found c xs ys bs None is small p e =
    let none : position_or_len (λ b. eqb b c) bs ≡ length bs = split_once_first c bs None is small in
    let here : position_or_len (λ b. eqb b c) bs ≡ length xs = ap (position_or_len (λ b. eqb b c)) e ∙ cut_place c xs ys p in
    absurd (omega (arith, ap length e, length-append xs (c ∷ ys)))
split_found c xs ys bs (Some x) is small p e =
    let parts = split_once_first c bs (Some x) is small in
    (parts.1 ∙ ap (before_first (λ b. eqb b c)) e ∙ cut_front c xs ys p, parts.2 ∙ ap (after_first (λ b. eqb b c)) e ∙ cut_rest c xs ys p)

-- ---- what the reader finds

pub utf8_found : {E : Type 0} (Q : E → Type 0) (key : Key) (bytes : List ℕ) (r : Result (Bor (List ℕ)) E)
    (o : Option (Bor (List ℕ))) → MatchResult r (λ text. (text.now ≡ bytes) × IsUtf8 bytes)
    (λ e. (¬ (IsUtf8 bytes)) × Q e) → o ≡ result_ok r → bytes ≡ name_text key → IsSomeAnd o
    (λ text. text.now ≡ name_text key)
utf8_found Q key bytes (Ok text) o is by e = rw by (is.0 ∙ e)
utf8_found Q key bytes (Err f) o is by e = absurd (is.0 (subst IsUtf8 (sym e) (IsUtf8-from_ascii _ (IsAscii-text key))))

pub stem_found : (key : Key) (text : List ℕ) (r : Option (Bor (List ℕ) × Bor (List ℕ))) → IsSplitOnceResult 46 text r
    → text ≡ name_text key → IsSomeAnd r (λ x. (x.0.now ≡ stem_of key) × (x.1.now ≡ ending_of key))
stem_found key text r is e = split_found 46 (stem_of key) (ending_of key) text r is (omega arith) (lacks-stem key) (e ∙ parts_of key)

-- `split_once` finds a tile's level, then its column
pub level_found : (tile : TileId) (text : List ℕ) (r : Option (Bor (List ℕ) × Bor (List ℕ)))
    → IsSplitOnceResult 47 text r → text ≡ tile_text tile → IsSomeAnd r
    (λ x. (x.0.now ≡ decimal tile.z) × (x.1.now ≡ decimal tile.x ++ 47 ∷ decimal tile.y))
level_found tile text r is e = let small = small_z tile in split_found 47 _ _ text r is (omega arith) (lacks-decimal tile.z (omega arith)) e

pub column_found : (tile : TileId) (text : List ℕ) (r : Option (Bor (List ℕ) × Bor (List ℕ)))
    → IsSplitOnceResult 47 text r → text ≡ decimal tile.x ++ 47 ∷ decimal tile.y → IsSomeAnd r
    (λ x. (x.0.now ≡ decimal tile.x) × (x.1.now ≡ decimal tile.y))
column_found tile text r is e = let small = small_x tile in split_found 47 _ _ text r is (omega arith) (lacks-decimal tile.x (omega arith)) e

-- a number's text is read back
pub parse_found : {E : Type 0} (bits n : ℕ) (text : List ℕ) (r : Result ℕ E) (o : Option ℕ) → n < 2 ^ bits
    → n < 2 ^ 64 → text ≡ decimal n → ParsesUnsigned bits 10 text r → o ≡ result_ok r → o ≡ Some n
parse_found bits n text r o fits small e parses is = is ∙ ap result_ok (parse-decimal bits n text r fits small e parses)

pub same_some : {A : Type 0} (o : Option A) (x y : A) → o ≡ Some x → o ≡ Some y → x ≡ y
same_some o x y p q = cc

pub no_some : {A : Type 0} (o : Option A) (x : A) → o ≡ None → o ≡ Some x → ⊥
no_some o x p q = absurd (cc)
