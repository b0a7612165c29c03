-- The header that a file's first bytes are is the file's.
use Rattle.std.proofs.Common.{◌≡◌, ℕ, ◌+◌, ◌-◌, ◌*◌, ◌<◌, ◌≤◌, ◌++◌, ◌&&◌, ◌||◌, Bool, true, nat_le, codes, List, length, take, drop, slice_index, slice_range, None, refl, sym, ap, ap₂, ◌∙◌, arith, length-append}
use Rattle.std.proofs.lemmas.Bool.Decides.{nat_tests}
use Rattle.std.proofs.lemmas.List.{drop-append-le, take-append-le, length-drop, get_or_append_left}
use Rattle.common_laws.specs.First.{first_of}
use Rattle.common_laws.proofs.First.{neither, none_of_two, when_not}
use Rattle.terrain_base.specs.Level.{columns_of, rows_of}
use Rattle.terrain_base.specs.declared.level.CellLevel.{CellLevel}
use Rattle.terrain_base.specs.declared.level.CellLevel.TheVariants.{Zero, One, Two}
use Rattle.dted_cell.specs.declared.header.Header.{Header}
use Rattle.dted_cell.specs.Field.{spells}
use Rattle.dted_cell.specs.Fields.{SaysHeader}
use Rattle.dted_cell.specs.Header.{east, west, north, south, is_whole, degrees_from, square_of, square_at, level_at, series_of}
use Rattle.dted_cell.specs.Lead.{is_label, lead_of, text_behind_lead}
use Rattle.dted_cell.specs.Cell.{square_in, level_in, columns_in, rows_in}
use Rattle.dted_cell.specs.Refusal.{angle_conditions, lattice_conditions, field_conditions, shape_conditions, label_conditions, text_conditions, header_conditions}
use Rattle.dted_cell.proofs.WholeCells.{by_long}

series_length : (level : CellLevel) → length (series_of level) ≡ 5
series_length Zero = refl
series_length One = refl
series_length Two = refl

module _ (front rest : List ℕ) where
  -- ---- what stands at places of the front
  index_in : (at : ℕ) → at < length front → slice_index (front ++ rest) at ≡ slice_index front at
  index_in at h = get_or_append_left front rest 0 at h

  range_in : (from to : ℕ) → from ≤ to → to ≤ length front → slice_range (front ++ rest) from to ≡ slice_range front from to
  range_in from to h k =
      ap (take (to - from)) (drop-append-le from front rest (omega (arith, h, k)))
      ∙ take-append-le (to - from) (drop from front) rest (omega (arith, h, k, length-drop from front))

  spells_in : (at : ℕ) (word : List ℕ) → at + length word ≤ length front → spells (front ++ rest) at word ≡ spells front at word
  unfolding spells
  spells_in at word h =
      let same : take (length word) (drop at (front ++ rest)) ≡ take (length word) (drop at front) =
      ap (take (length word)) (drop-append-le at front rest (omega (arith, h)))
      ∙ take-append-le (length word) (drop at front) rest (omega (arith, h, length-drop at front)) in
      rw same refl

  -- ---- the lead
  whole_block : (block : ℕ) → 80 * block + 80 ≤ length front → nat_le (80 * block + 80) (length (front ++ rest)) ≡ nat_le (80 * block + 80) (length front)
  whole_block block h =
      let more : length (front ++ rest) ≡ length front + length rest = length-append front rest in
      let all : nat_le (80 * block + 80) (length (front ++ rest)) ≡ true = grind (arith, nat_tests) in
      let some : nat_le (80 * block + 80) (length front) ≡ true = grind (arith, nat_tests) in
      all ∙ sym some

  label_in : (block : ℕ) → 80 * block + 80 ≤ length front → is_label (front ++ rest) block ≡ is_label front block
  label_in block h =
      ap₂ (λ (a b : Bool). a && b) (whole_block block h)
      (ap₂ (λ (a b : Bool). a || b) (spells_in (80 * block) (codes "VOL") (omega (arith, h))) (spells_in (80 * block) (codes "HDR") (omega (arith, h))))

  lead_in : 320 ≤ length front → lead_of (front ++ rest) ≡ lead_of front
  unfolding lead_of
  lead_in h = rw (label_in 0 (omega (arith, h)), label_in 1 (omega (arith, h)), label_in 2 (omega (arith, h)), label_in 3 (omega (arith, h))) refl

  -- ---- the conditions of the fields
  angle_in : (at most one other : ℕ) → at + 8 ≤ length front → angle_conditions (front ++ rest) at most one other ≡ angle_conditions front at most one other
  unfolding angle_conditions
  angle_in at most one other h =
      rw (
        range_in at (at + 3) (omega arith) (omega (arith, h)),
        range_in (at + 3) (at + 5) (omega arith) (omega (arith, h)),
        range_in (at + 5) (at + 7) (omega arith) (omega (arith, h)),
        index_in (at + 7) (omega (arith, h)),
      )
      refl

  degrees_in : (at half letter : ℕ) → at + 8 ≤ length front → degrees_from (front ++ rest) at half letter ≡ degrees_from front at half letter
  degrees_in at half letter h = rw (range_in at (at + 3) (omega arith) (omega (arith, h)), index_in (at + 7) (omega (arith, h))) refl

  whole_in : (at : ℕ) → at + 8 ≤ length front → is_whole (front ++ rest) at ≡ is_whole front at
  whole_in at h = rw (range_in (at + 3) (at + 5) (omega arith) (omega (arith, h)), range_in (at + 5) (at + 7) (omega arith) (omega (arith, h))) refl

  lattice_in : 55 ≤ length front → lattice_conditions (front ++ rest) ≡ lattice_conditions front
  unfolding lattice_conditions
  lattice_in h =
      rw (
        range_in 20 24 (omega arith) (omega (arith, h)),
        range_in 24 28 (omega arith) (omega (arith, h)),
        range_in 47 51 (omega arith) (omega (arith, h)),
        range_in 51 55 (omega arith) (omega (arith, h)),
      )
      refl

  fields_in : 55 ≤ length front → field_conditions (front ++ rest) ≡ field_conditions front
  unfolding field_conditions
  fields_in h = rw (angle_in 4 180 east west (omega (arith, h)), angle_in 12 90 north south (omega (arith, h)), lattice_in h) refl

  -- ---- the square and the level
  square_at_in : 20 ≤ length front → square_at (front ++ rest) ≡ square_at front
  unfolding square_at
  square_at_in h = ap₂ square_of (degrees_in 4 180 east (omega (arith, h))) (degrees_in 12 90 north (omega (arith, h)))

  level_at_in : 28 ≤ length front → level_at (front ++ rest) ≡ level_at front
  unfolding level_at
  level_at_in h = rw (range_in 24 28 (omega arith) (omega (arith, h))) refl

  shape_in : 55 ≤ length front → shape_conditions (front ++ rest) ≡ shape_conditions front
  unfolding shape_conditions
  shape_in h =
      rw (
        whole_in 4 (omega (arith, h)),
        whole_in 12 (omega (arith, h)),
        degrees_in 12 90 north (omega (arith, h)),
        square_at_in (omega (arith, h)),
        level_at_in (omega (arith, h)),
        range_in 20 24 (omega arith) (omega (arith, h)),
        range_in 24 28 (omega arith) (omega (arith, h)),
        range_in 47 51 (omega arith) (omega (arith, h)),
        range_in 51 55 (omega arith) (omega (arith, h)),
      )
      refl

  -- ---- the labels, and all of the header
  labels_in : 736 ≤ length front → label_conditions (front ++ rest) ≡ label_conditions front
  unfolding label_conditions
  labels_in h =
      rw (
        level_at_in (omega (arith, h)),
        spells_in 80 (codes "DSI") (omega (arith, h)),
        spells_in 139 (series_of (level_at front)) (omega (arith, h, series_length (level_at front))),
        spells_in 224 (codes "WGS84") (omega (arith, h)),
        spells_in 728 (codes "ACC") (omega (arith, h)),
      )
      refl

  text_in : 736 ≤ length front → text_conditions (front ++ rest) ≡ text_conditions front
  unfolding text_conditions
  text_in h = rw (spells_in 0 (codes "UHL1") (omega (arith, h)), fields_in (omega (arith, h)), shape_in (omega (arith, h)), labels_in h) refl

-- a file without a lead is its own text
own_text : (bytes : List ℕ) → lead_of bytes ≡ 0 → text_behind_lead bytes ≡ bytes
unfolding text_behind_lead
own_text bytes lead = ap (λ n. drop n bytes) lead

module _ (front rest : List ℕ) (long : length front ≡ 3428) (unlabelled : lead_of front ≡ 0) where
  pub front_unlabelled : lead_of (front ++ rest) ≡ 0
  front_unlabelled = lead_in front rest (omega (arith, long)) ∙ unlabelled

  pub front_text : text_behind_lead (front ++ rest) ≡ front ++ rest
  front_text = own_text (front ++ rest) front_unlabelled

  pub front_accepted : first_of (header_conditions front) ≡ None → first_of (header_conditions (front ++ rest)) ≡ None
  unfolding header_conditions
  front_accepted accepted =
      let bytes = front ++ rest in
      let size : length bytes ≡ length front + length rest = length-append front rest in
      let by_text : text_conditions (text_behind_lead front) ≡ text_conditions (text_behind_lead bytes) =
      ap text_conditions (own_text front unlabelled) ∙ sym (text_in front rest (omega (arith, long))) ∙ ap text_conditions (sym front_text) in
      none_of_two _ _ (when_not _ _ (by_long bytes 3428 (omega (arith, long, size, ap length front_text)) (omega arith)))
      (sym (ap first_of by_text) ∙ (neither _ _ accepted).1)

  whole_square : square_in front ≡ square_in (front ++ rest)
  unfolding square_in
  whole_square = ap square_at (own_text front unlabelled) ∙ sym (square_at_in front rest (omega (arith, long))) ∙ ap square_at (sym front_text)

  whole_level : level_in front ≡ level_in (front ++ rest)
  unfolding level_in
  whole_level = ap level_at (own_text front unlabelled) ∙ sym (level_at_in front rest (omega (arith, long))) ∙ ap level_at (sym front_text)

  pub front_says : (header : Header) → SaysHeader front header → SaysHeader (front ++ rest) header
  unfolding columns_in rows_in
  front_says header says = record {
    lead_is = says.lead_is ∙ unlabelled ∙ sym front_unlabelled;
    square_is = says.square_is ∙ whole_square;
    level_is = says.level_is ∙ whole_level;
    columns_are = says.columns_are ∙ ap₂ columns_of whole_square whole_level;
    rows_are = says.rows_are ∙ ap rows_of whole_level;
  }
