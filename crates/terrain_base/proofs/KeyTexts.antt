-- A key's text in a row, and how it is read.
use Rattle.std.specs.Prelude.{◌≡◌, ◌≢◌, ℕ, suc, ◌+◌, Bool, true, false, nat_le, List, [], ◌∷◌, ◌++◌, length, take, codes, refl}
use Rattle.std.proofs.Common.{arith, ap, sym, ◌∙◌, get_or, length-append}
use Rattle.std.proofs.lemmas.List.{append_cancel_left}
use Rattle.std.specs.List.{AllByRecursion}
use Rattle.terrain_base.specs.declared.level.CellLevel.{CellLevel}
use Rattle.terrain_base.specs.declared.level.CellLevel.TheVariants.{Zero, One, Two}
use Rattle.terrain_base.specs.declared.cell_key.CellKey.{CellKey}
use Rattle.terrain_base.specs.declared.square.Square.{Square}
use Rattle.terrain_base.specs.Level.{level_number}
use Rattle.terrain_base.specs.SquareText.{digit_of, lat_text, lon_text, square_text}
use Rattle.terrain_base.specs.Name.{key_text, row_text}
use Rattle.terrain_base.proofs.SquareTexts.{lat_case, lon_case, square_cut}
use Rattle.terrain_base.proofs.NameTexts.{decimal_level}
use Rattle.terrain_base.proofs.KeyOrder.{same_key}

-- ---- lengths

length-lat : (north : Bool) (lat : ℕ) → length (lat_case north lat) ≡ 3
length-lat true lat = refl
length-lat false lat = refl

length-lon : (east : Bool) (lon : ℕ) → length (lon_case east lon) ≡ 4
length-lon true lon = refl
length-lon false lon = refl

pub length-square : (s : Square) → length (square_text s) ≡ 7
length-square s = omega (arith, length-append (lat_text s.lat) (lon_text s.lon), length-lat (nat_le 90 s.lat) s.lat, length-lon (nat_le 180 s.lon) s.lon)

abbrev pub level_text : CellLevel → List ℕ
level_text level = 32 ∷ digit_of (level_number level) ∷ []

pub level_apart : (a b : CellLevel) → digit_of (level_number a) ≡ digit_of (level_number b) → a ≡ b
level_apart Zero Zero e = refl
level_apart Zero One e = absurd (omega arith)
level_apart Zero Two e = absurd (omega arith)
level_apart One Zero e = absurd (omega arith)
level_apart One One e = refl
level_apart One Two e = absurd (omega arith)
level_apart Two Zero e = absurd (omega arith)
level_apart Two One e = absurd (omega arith)
level_apart Two Two e = refl

-- a square's text, and what follows it
pub square_cut_rest : (s t : Square) (xs ys : List ℕ) → square_text s ++ xs ≡ square_text t ++ ys → (s ≡ t) × (xs ≡ ys)
square_cut_rest s t xs ys e =
    let same = square_cut s t xs ys e in
    (same, append_cancel_left (square_text s) xs ys (e ∙ ap (λ u. square_text u ++ ys) (sym same)))

pub key_apart : (a b : CellKey) → row_text a ≡ row_text b → a ≡ b
key_apart a b e =
    let parts = square_cut_rest a.square b.square (level_text a.level) (level_text b.level) e in
    same_key a b parts.0 (level_apart a.level b.level (ap (λ xs. get_or xs 1 0) parts.1))

-- ---- no line feed

pub all-append : (P : ℕ → Type 0) (xs ys : List ℕ) → AllByRecursion P xs → AllByRecursion P ys → AllByRecursion P (xs ++ ys)
all-append P [] ys p q = q
all-append P (x ∷ xs) ys p q = (p.0, all-append P xs ys p.1 q)

other_digit : (n : ℕ) → digit_of n ≢ 10
other_digit n = omega arith

line-lat : (north : Bool) (lat : ℕ) → AllByRecursion (λ byte. byte ≢ 10) (lat_case north lat)
line-lat true lat = (omega arith, (other_digit _, (other_digit _, tt)))
line-lat false lat = (omega arith, (other_digit _, (other_digit _, tt)))

line-lon : (east : Bool) (lon : ℕ) → AllByRecursion (λ byte. byte ≢ 10) (lon_case east lon)
line-lon true lon = (omega arith, (other_digit _, (other_digit _, (other_digit _, tt))))
line-lon false lon = (omega arith, (other_digit _, (other_digit _, (other_digit _, tt))))

pub line-square : (s : Square) → AllByRecursion (λ byte. byte ≢ 10) (square_text s)
line-square s = all-append _ (lat_text s.lat) (lon_text s.lon) (line-lat (nat_le 90 s.lat) s.lat) (line-lon (nat_le 180 s.lon) s.lon)

pub line-level : (level : CellLevel) → AllByRecursion (λ byte. byte ≢ 10) (level_text level)
line-level Zero = (omega arith, (omega arith, tt))
line-level One = (omega arith, (omega arith, tt))
line-level Two = (omega arith, (omega arith, tt))

pub line-key : (key : CellKey) → AllByRecursion (λ byte. byte ≢ 10) (row_text key)
line-key key = all-append _ (square_text key.square) (level_text key.level) (line-square key.square) (line-level key.level)

-- ---- what the reader finds

pub length-key : (key : CellKey) → length (row_text key) ≡ 9
length-key key = omega (arith, length-append (square_text key.square) (level_text key.level), length-square key.square)

front_of : (xs ys : List ℕ) (n : ℕ) → n ≡ length xs → take n (xs ++ ys) ≡ xs
front_of [] ys n e = rw e refl
front_of (x ∷ xs) ys n e = rw e (ap (λ zs. x ∷ zs) (front_of xs ys (length xs) refl))

at_of : (xs ys : List ℕ) (n k : ℕ) → n ≡ length xs + k → get_or (xs ++ ys) n 0 ≡ get_or ys k 0
at_of [] ys n k e = let same : n ≡ k = omega (arith, e) in ap (λ i. get_or ys i 0) same
at_of (x ∷ xs) ys n k e = let next : n ≡ suc (length xs + k) = omega (arith, e) in ap (λ i. get_or (x ∷ (xs ++ ys)) i 0) next ∙ at_of xs ys (length xs + k) k refl

pub key_square : (key : CellKey) → take 7 (row_text key) ≡ square_text key.square
key_square key = front_of (square_text key.square) (level_text key.level) 7 (sym (length-square key.square))

pub key_level : (key : CellKey) → get_or (row_text key) 8 0 ≡ digit_of (level_number key.level)
key_level key = at_of (square_text key.square) (level_text key.level) 8 1 (omega (arith, length-square key.square))

pub square_is : (s t : Square) (bytes : List ℕ) → bytes ≡ square_text s → bytes ≡ square_text t → s ≡ t
square_is s t bytes p q = square_cut s t [] [] (ap (λ xs. xs ++ []) (sym p ∙ q))

-- a square's text, byte by byte, and what follows it
abbrev spelt_by : List ℕ → List ℕ → List ℕ
spelt_by xs rest = get_or xs 0 0 ∷ get_or xs 1 0 ∷ get_or xs 2 0 ∷ get_or xs 3 0 ∷ get_or xs 4 0 ∷ get_or xs 5 0 ∷ get_or xs 6 0 ∷ rest

spelt : (a b : Bool) (m n : ℕ) (rest : List ℕ) → spelt_by (lat_case a m ++ lon_case b n) rest ≡ (lat_case a m ++ lon_case b n) ++ rest
spelt true true m n rest = refl
spelt true false m n rest = refl
spelt false true m n rest = refl
spelt false false m n rest = refl

pub square_spelt : (s : Square) (xs rest : List ℕ) → xs ≡ square_text s → spelt_by xs rest ≡ square_text s ++ rest
square_spelt s xs rest e = ap (λ ys. spelt_by ys rest) e ∙ spelt (nat_le 90 s.lat) (nat_le 180 s.lon) s.lat s.lon rest

-- ---- a row's text and a name's have one form

digit_is : (level : CellLevel) → digit_of (level_number level) ∷ [] ≡ (48 + level_number level) ∷ []
digit_is Zero = refl
digit_is One = refl
digit_is Two = refl

pub row_is_spelt : (key : CellKey) → row_text key ≡ key_text (codes " ") key
row_is_spelt key = ap (λ digits. square_text key.square ++ (32 ∷ digits)) (digit_is key.level ∙ sym (decimal_level key.level))
