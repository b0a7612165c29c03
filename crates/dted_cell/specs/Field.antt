-- Numbers and words in a cell's labels and records (MIL-PRF-89020, user header label and data record).
use Rattle.std.specs.Prelude.{
  ◌≡◌,
  ◌++◌,
  replicate,
  ℕ,
  ◌+◌,
  ◌-◌,
  ◌*◌,
  ◌<◌,
  ◌==◌,
  nat_eq,
  nat_lt,
  Bool,
  ◌&&◌,
  List,
  length,
  drop,
  fold,
  slice_index,
  slice_range,
  Option,
  Some,
  None,
  is_some,
  unwrap_or,
  IsTrue,
  if◌then◌else◌,
}
use Rattle.std.specs.List.{AllPass, list_all, prefix_len, starts_with}
use Rattle.std.specs.Char.{is_ascii_digit}

-- the byte ' '
abbrev pub is_blank : ℕ → Bool
is_blank byte = byte == 32

-- what follows the leading blanks of a field
abbrev pub after_blanks : List ℕ → List ℕ
after_blanks field = drop (prefix_len is_blank field) field

-- the number that decimal digits spell
abbrev pub decimal_value : List ℕ → ℕ
decimal_value digits = fold (λ n digit. 10 * n + (digit - 48)) 0 digits

-- at least one decimal digit and nothing else
abbrev pub are_digits : List ℕ → Bool
are_digits digits = nat_lt 0 (length digits) && list_all is_ascii_digit digits

-- the number in a field: at least one decimal digit, after any number of leading blanks, and nothing else
unfoldable pub number_of : List ℕ → Option ℕ
number_of field = if are_digits (after_blanks field) then Some (decimal_value (after_blanks field)) else None

-- the same by its parts: blanks, and then digits that spell the number
abbrev pub IsNumberField : List ℕ → ℕ → Type 0
IsNumberField field n =
    (blanks : ℕ) × (digits : List ℕ) × (field ≡ replicate blanks 32 ++ digits) ×
    (0 < length digits) × AllPass is_ascii_digit digits × (n ≡ decimal_value digits)

-- the number in the field from one byte up to another, and 0 where there is none
abbrev pub number_at : List ℕ → ℕ → ℕ → ℕ
number_at text from to = unwrap_or (number_of (slice_range text from to)) 0

-- whether there is one
abbrev pub is_number : List ℕ → ℕ → ℕ → Bool
is_number text from to = is_some (number_of (slice_range text from to))

-- the field from one byte up to another has this number
abbrev pub HasNumber : List ℕ → ℕ → ℕ → ℕ → Type 0
HasNumber text from to n = number_of (slice_range text from to) ≡ Some n

-- whether the bytes from a place on spell a word
unfoldable pub spells : List ℕ → ℕ → List ℕ → Bool
spells text at word = starts_with nat_eq (drop at text) word

abbrev pub Spells : List ℕ → ℕ → List ℕ → Type 0
Spells text at word = IsTrue (spells text at word)

-- the number of the two bytes at a place, and of the four, the highest first
abbrev pub word_at : List ℕ → ℕ → ℕ
word_at bytes at = 256 * slice_index bytes at + slice_index bytes (at + 1)

abbrev pub long_at : List ℕ → ℕ → ℕ
long_at bytes at = 65536 * word_at bytes at + word_at bytes (at + 2)
