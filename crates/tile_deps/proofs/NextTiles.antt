-- The next tile by rows and columns, and by levels.
use Rattle.std.specs.Prelude.{◌≡◌, ℕ, ◌+◌, ◌<◌, ◌≤◌, ◌==◌, ◌&&◌, ◌||◌, nat_le, Bool, true}
use Rattle.std.proofs.Common.{arith, inl, inr, refl, sym, ap, ◌∙◌}
use Rattle.std.proofs.lemmas.Bool.{and_from, and_parts, cases_order, eq-eqb, eqb-true, le-leb, leb-true}
use Rattle.terrain_base.specs.declared.square.Square.{Square}
use Rattle.terrain_base.specs.declared.tile.TileId.{TileId}
use Rattle.terrain_base.proofs.TileNumbers.{small_x, small_y}
use Rattle.tms_tree.specs.Touch.{touches_of}
use Rattle.tms_tree.specs.Touched.{is_in_run, is_in_east, is_in_rows}
use Rattle.tms_tree.specs.declared.touched.TouchedRows.{TouchedRows}
use Rattle.tile_deps.specs.Walk.{number_of, IsNextColumn, IsNextTile, IsBehindAll}

-- the level's tiles that touch, and those of the levels to the cap
abbrev pub of_level : ℕ → Square → TileId → Bool
of_level z square tile = (tile.z == z) && touches_of tile square

abbrev pub to_cap : ℕ → Square → TileId → Bool
to_cap cap square tile = nat_le tile.z cap && touches_of tile square

abbrev pub columns : TouchedRows → ℕ → Bool
columns touched column = is_in_run touched.west column || is_in_east touched.east column

-- what is touched on a level is what its rows and columns say
abbrev pub AreRowsOf : ℕ → Square → TouchedRows → Type 0
AreRowsOf z square touched = (tile : TileId) → tile.z ≡ z → touches_of tile square ≡ is_in_rows touched tile

-- ---- in the row

pub next_in_row : (square : Square) (touched : TouchedRows) (tile next : TileId) → AreRowsOf tile.z square touched → touches_of tile square ≡ true → next.z ≡ tile.z → next.y ≡ tile.y
    → IsNextColumn (columns touched) tile.x next.x → IsNextTile (of_level tile.z square) (number_of tile + 1) next
next_in_row square touched tile next rows touches level row h =
    let later = h.later in
    let here = and_parts (is_in_run touched.rows tile.y) (columns touched tile.x) (sym (rows tile refl) ∙ touches) in
    record {
      later = omega (arith, level, row, later);
      among = and_from (next.z == tile.z) _ (eq-eqb _ _ level) (rows next level ∙ and_from (is_in_run touched.rows next.y) (columns touched next.x) (ap (is_in_run touched.rows) row ∙ here.0) h.among);
      first = λ other is.
          let both = and_parts (other.z == tile.z) (touches_of other square) is in
          let same = eqb-true other.z tile.z both.0 in
          let there = and_parts (is_in_run touched.rows other.y) (columns touched other.x) (sym (rows other same) ∙ both.1) in
          let other_x = small_x other in
          let next_x = small_x next in
          let tile_x = small_x tile in
          elim (cases_order other.y tile.y) [
            | inr (inl south) ↦ inl (omega (arith, same, south, other_x))
            | inr (inr north) ↦ inr (omega (arith, same, level, row, north, next_x))
            | inl same_row ↦ elim (h.first other.x there.1) [
              | inl west ↦ inl (omega (arith, same, same_row, west))
              | inr east ↦ inr (omega (arith, same, level, row, same_row, east))
            ]
          ];
    }

-- ---- from level to level

pub next_within_cap : (square : Square) (cap : ℕ) (tile next : TileId) → tile.z ≤ cap → IsNextTile (of_level tile.z square) (number_of tile + 1) next → IsNextTile (to_cap cap square) (number_of tile + 1) next
next_within_cap square cap tile next le h =
    let later = h.later in
    let among = and_parts (next.z == tile.z) (touches_of next square) h.among in
    let level = eqb-true next.z tile.z among.0 in
    record {
      later = later;
      among = and_from _ _ (le-leb next.z cap (omega (arith, le, level))) among.1;
      first = λ other is.
          let both = and_parts (nat_le other.z cap) (touches_of other square) is in
          let other_x = small_x other in
          let other_y = small_y other in
          let next_x = small_x next in
          let next_y = small_y next in
          elim (cases_order other.z tile.z) [
            | inr (inl above) ↦ inl (omega (arith, above, other_x, other_y))
            | inr (inr below) ↦ inr (omega (arith, below, level, next_x, next_y))
            | inl same ↦ h.first other (and_from _ _ (eq-eqb other.z tile.z same) both.1)
          ];
    }

pub behind_all_levels : (square : Square) (cap : ℕ) (tile : TileId) → tile.z ≡ cap → IsBehindAll (of_level tile.z square) (number_of tile + 1) → IsBehindAll (to_cap cap square) (number_of tile + 1)
behind_all_levels square cap tile at_cap h other is =
    let both = and_parts (nat_le other.z cap) (touches_of other square) is in
    let le = leb-true other.z cap both.0 in
    let other_x = small_x other in
    let other_y = small_y other in
    elim (cases_order other.z tile.z) [
      | inr (inl above) ↦ omega (arith, above, other_x, other_y)
      | inr (inr below) ↦ absurd (omega (arith, below, le, at_cap))
      | inl same ↦ h other (and_from _ _ (eq-eqb other.z tile.z same) both.1)
    ]

pub next_level : (square : Square) (cap : ℕ) (tile next : TileId) → tile.z < cap → next.z ≡ tile.z + 1 → IsBehindAll (of_level tile.z square) (number_of tile + 1) → IsNextTile (of_level (tile.z + 1) square) 0 next
    → IsNextTile (to_cap cap square) (number_of tile + 1) next
next_level square cap tile next within level behind h =
    let among = and_parts (next.z == tile.z + 1) (touches_of next square) h.among in
    let tile_x = small_x tile in
    let tile_y = small_y tile in
    let next_x = small_x next in
    let next_y = small_y next in
    record {
      later = omega (arith, level, tile_x, tile_y);
      among = and_from _ _ (le-leb next.z cap (omega (arith, within, level))) among.1;
      first = λ other is.
          let both = and_parts (nat_le other.z cap) (touches_of other square) is in
          let other_x = small_x other in
          let other_y = small_y other in
          elim (cases_order other.z (tile.z + 1)) [
            | inr (inr below) ↦ inr (omega (arith, below, level, next_x, next_y))
            | inl same ↦ elim (h.first other (and_from _ _ (eq-eqb other.z (tile.z + 1) same) both.1)) [
              | inl none ↦ absurd (omega (arith, none))
              | inr later ↦ inr later
            ]
            | inr (inl above) ↦ elim (cases_order other.z tile.z) [
              | inr (inl higher) ↦ inl (omega (arith, higher, other_x, other_y))
              | inr (inr lower) ↦ absurd (omega (arith, above, lower))
              | inl same ↦ inl (behind other (and_from _ _ (eq-eqb other.z tile.z same) both.1))
            ]
          ];
    }
