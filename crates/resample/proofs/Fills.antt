-- Points of a grid get their heights, run after run.
use Rattle.std.proofs.Common.{◌≡◌, ◌≢◌, ◌⊎◌, ℕ, ◌+◌, ◌/◌, ◌%◌, ◌<◌, ◌≤◌, ℤ, pos, List, length, get_or, set, inl, inr, sym, ap, ◌∙◌, arith, subst, get_or-set_other, get_or-set_same}
use Rattle.std.proofs.lemmas.Bool.{cases_lt, cases_order}
use Rattle.terrain_base.specs.declared.tile.TileId.{TileId}
use Rattle.terrain_base.specs.Grid.{spot}
use Rattle.tms_tree.specs.Place.{place_of}
use Rattle.cell_mosaic.specs.Cells.{Cells}
use Rattle.resample.specs.declared.block.Block.{Block}
use Rattle.resample.specs.declared.grid_lines.Run.{Run}
use Rattle.resample.specs.Height.{height_at, grid_of}
use Rattle.resample.specs.Block.{HasHeight, IsFrom, Fills}
use Rattle.resample.proofs.Grids.{is_grid}

in_row : (first between end k : ℕ) → IsFrom first end k → IsFrom first between k ⊎ IsFrom between end k
in_row first between end k from = elim (cases_lt k between) [
  | inl before ↦ inl (from.0, before)
  | inr behind ↦ inr (behind, from.1)
]

other_spot : (a b i j : ℕ) → a ≤ 66 → i ≤ 66 → (a ≢ i) ⊎ (b ≢ j) → spot a b ≢ spot i j
other_spot a b i j h k (inl other) same = other (omega (arith, same))
other_spot a b i j h k (inr other) same = other (omega (arith, same))

module _ (fill : ℤ) (cells : Cells) (tile : TileId) where
  -- no columns, and no rows
  pub no_columns : (west south north : ℕ) (grid : List ℤ) → Fills fill cells tile west west south north grid grid
  no_columns west south north grid i j h k (inl both) = absurd (let column = both.0 in omega (arith, column.0, column.1))
  no_columns west south north grid i j h k (inr has) = has

  pub no_rows : (west east south : ℕ) (grid : List ℤ) → Fills fill cells tile west east south south grid grid
  no_rows west east south grid i j h k (inl both) = absurd (let row = both.1 in omega (arith, row.0, row.1))
  no_rows west east south grid i j h k (inr has) = has

  -- rows on top of rows, and columns beside columns
  pub more_rows : (west east south between north : ℕ) (grid grid' grid'' : List ℤ) → Fills fill cells tile west east south between grid grid' → Fills fill cells tile west east between north grid' grid''
      → Fills fill cells tile west east south north grid grid''
  more_rows west east south between north grid grid' grid'' first next i j h k (inl both) = elim (in_row south between north j both.1) [
    | inl below ↦ next i j h k (inr (first i j h k (inl (both.0, below))))
    | inr above ↦ next i j h k (inl (both.0, above))
  ]
  more_rows west east south between north grid grid' grid'' first next i j h k (inr has) = next i j h k (inr (first i j h k (inr has)))

  pub more_columns : (west between east south north : ℕ) (grid grid' grid'' : List ℤ) → Fills fill cells tile west between south north grid grid' → Fills fill cells tile between east south north grid' grid''
      → Fills fill cells tile west east south north grid grid''
  more_columns west between east south north grid grid' grid'' first next i j h k (inl both) = elim (in_row west between east i both.0) [
    | inl below ↦ next i j h k (inr (first i j h k (inl (below, both.1))))
    | inr above ↦ next i j h k (inl (above, both.1))
  ]
  more_columns west between east south north grid grid' grid'' first next i j h k (inr has) = next i j h k (inr (first i j h k (inr has)))

  -- one point
  pub point_more : (i j : ℕ) (grid : List ℤ) (metres : ℤ) → i ≤ 66 → j ≤ 66 → length grid ≡ 4489 → metres ≡ height_at fill cells (place_of tile i j)
      → Fills fill cells tile i (i + 1) j (j + 1) grid (set grid (spot i j) metres)
  point_more i j grid metres h k full is a b ha hb either = elim (cases_order a i) [
    | inl e ↦ elim (cases_order b j) [
      | inl f ↦ here e f
      | inr s ↦ there (inr (apart b j s)) (old (inr (apart b j s)) either)
    ]
    | inr s ↦ there (inl (apart a i s)) (old (inl (apart a i s)) either)
  ]
    where
      apart : (m n : ℕ) → (m < n) ⊎ (n < m) → m ≢ n
      apart m n (inl less) same = omega arith
      apart m n (inr more) same = omega arith

      here : a ≡ i → b ≡ j → HasHeight fill cells tile (set grid (spot i j) metres) a b
      here e f =
          (λ t. get_or (set grid (spot i j) metres) (spot (e t) (f t)) (pos 0))
          ∙ get_or-set_same grid (spot i j) metres (pos 0) (omega (arith, full, h, k))
          ∙ is
          ∙ (λ t. height_at fill cells (place_of tile (sym e t) (sym f t)))

      there : (a ≢ i) ⊎ (b ≢ j) → HasHeight fill cells tile grid a b → HasHeight fill cells tile (set grid (spot i j) metres) a b
      there other has = get_or-set_other grid (spot i j) (spot a b) metres (pos 0) (other_spot a b i j ha h other) ∙ has

      old : (a ≢ i) ⊎ (b ≢ j) → (IsFrom i (i + 1) a × IsFrom j (j + 1) b) ⊎ HasHeight fill cells tile grid a b → HasHeight fill cells tile grid a b
      old other (inr has) = has
      old (inl other) (inl both) = absurd (let column = both.0 in other (omega (arith, column.0, column.1)))
      old (inr other) (inl both) = absurd (let row = both.1 in other (omega (arith, row.0, row.1)))

  -- the points of a block, by its tile and its runs
  pub block_fills : (columns rows : Run) (block : Block) (grid grid' : List ℤ) → block.tile ≡ tile → block.columns ≡ columns → block.rows ≡ rows
      → Fills fill cells block.tile block.columns.first block.columns.end block.rows.first block.rows.end grid grid' → Fills fill cells tile columns.first columns.end rows.first rows.end grid grid'
  block_fills columns rows block grid grid' same across along fills =
      subst (λ (t : TileId). Fills fill cells t columns.first columns.end rows.first rows.end grid grid') same
      (subst (λ (run : Run). Fills fill cells block.tile run.first run.end rows.first rows.end grid grid') across
      (subst (λ (run : Run). Fills fill cells block.tile block.columns.first block.columns.end run.first run.end grid grid') along fills))

  -- all points
  pub all_filled : (grid grid' : List ℤ) → length grid' ≡ 4489 → Fills fill cells tile 0 67 0 67 grid grid' → grid' ≡ grid_of fill cells tile
  all_filled grid grid' full fills = is_grid fill cells tile grid' full (λ n below.
      let column : n % 67 ≤ 66 = omega arith in
      let row : n / 67 ≤ 66 = omega (arith, below) in
      let at : n ≡ spot (n % 67) (n / 67) = omega arith in
      ap (λ (m : ℕ). get_or grid' m (pos 0)) at
      ∙ fills (n % 67) (n / 67) column row (inl ((omega arith, omega (arith, column)), (omega arith, omega (arith, row)))))
