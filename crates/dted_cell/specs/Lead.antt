-- The tape labels that may stand before a cell's header (MIL-PRF-89020, volume and header labels).
use Rattle.std.specs.Prelude.{
  ◌≡◌,
  ◌<◌,
  ◌≤◌,
  false,
  true,
  ℕ,
  ◌+◌,
  ◌*◌,
  nat_le,
  Bool,
  ◌&&◌,
  ◌||◌,
  List,
  length,
  drop,
  codes,
}
use Rattle.std.specs.List.{prefix_len, range_with_len}
use Rattle.dted_cell.specs.Field.{spells}

-- whether the k-th block of 80 bytes is whole and begins with VOL or HDR
abbrev pub is_label : List ℕ → ℕ → Bool
is_label bytes k =
    nat_le (80 * k + 80) (length bytes) && (spells bytes (80 * k) (codes "VOL") || spells bytes (80 * k) (codes "HDR"))

-- so many blocks at the start are labels, at most four, and where there are fewer the next is none
pub record AreLabels (bytes : List ℕ) (count : ℕ) : Type 0 where
  pub most : count ≤ 4
  pub each : (k : ℕ) → k < count → is_label bytes k ≡ true
  pub no_more : count < 4 → is_label bytes count ≡ false

-- the bytes of the lead: as many blocks as are labels from the start on, at most four
unfoldable pub lead_of : List ℕ → ℕ
lead_of bytes = 80 * prefix_len (is_label bytes) (range_with_len 0 4)

-- what follows the lead: the text of the cell, whose offsets count from here
unfoldable pub text_behind_lead : List ℕ → List ℕ
text_behind_lead bytes = drop (lead_of bytes) bytes
