-- Where a place lies in a square that holds it.
use Rattle.std.proofs.Common.{◌≡◌, ℕ, ◌+◌, ◌-◌, ◌*◌, ◌/◌, ◌%◌, ◌<◌, ◌≤◌, ◌==◌, ℤ, Bool, true, false, ◌||◌, cond, map, List, [], ◌∷◌, Option, Some, None, refl, sym, ap, ◌∙◌, arith}
use Rattle.std.specs.Prelude.{is_some}
use Rattle.std.specs.List.{find, list_any}
use Rattle.std.specs.FinSet.{contains}
use Rattle.std.specs.FinMap.{get}
use Rattle.terrain_base.specs.declared.square.Square.{Square}
use Rattle.terrain_base.specs.declared.level.CellLevel.{CellLevel}
use Rattle.terrain_base.specs.declared.level.CellLevel.TheVariants.{Zero, One, Two}
use Rattle.terrain_base.specs.declared.cell_key.CellKey.{CellKey}
use Rattle.terrain_base.specs.CellKey.{key_at, all_levels}
use Rattle.terrain_base.specs.declared.post.Post.{Post}
use Rattle.terrain_base.specs.declared.post.Post.TheVariants.{Void, Metres}
use Rattle.tms_tree.specs.declared.place.Place.{Place}
use Rattle.dted_cell.specs.Cell.{level_in, post_in}
use Rattle.cell_mosaic.specs.declared.quad.Quad.{Quad}
use Rattle.cell_mosaic.specs.Cells.{Cells, Shapes, AreCells, post_at, post_or_void, has_cell, first_level, finest_of, coarser_levels, coarser_of}
use Rattle.cell_mosaic.specs.Blend.{blend_of}
use Rattle.cell_mosaic.specs.Value.{steps_east, steps_north, quad_round, quad_at, value_in_cell, value_or_void, value_in_key, value_in_levels, is_known, known_or_void, value_at}
use Rattle.std.proofs.Math.Nat.{add-mul-mod_self_right, mod-le}
use Rattle.tms_tree.specs.Degrees.{IsWithin, degree_span, turned}

-- at most a degree from the western meridian
pub east_within : (n d lon a b : ℕ) → 0 < d → lon < 360 → IsWithin (n + 360 * b * d) d (turned a (degree_span lon)) → (n + (360 - lon) * d) % (360 * d) ≤ d
east_within n d lon a b p h w =
    let k = 360 - lon in
    let whole : lon + k ≡ 360 = omega arith in
    let times : (lon + k) * d ≡ 360 * d = ap (λ (c : ℕ). c * d) whole in
    let e = n + 360 * b * d - (lon + 360 * a) * d in
    let same : n + k * d + b * (360 * d) ≡ e + (a + 1) * (360 * d) = omega (arith, w.above, times) in
    let here : (n + k * d) % (360 * d) ≡ e % (360 * d) = sym (add-mul-mod_self_right (n + k * d) b (360 * d)) ∙ ap (λ (c : ℕ). c % (360 * d)) same ∙ add-mul-mod_self_right e (a + 1) (360 * d) in
    let small : e ≤ d = omega (arith, w.below) in
    let least = mod-le e (360 * d) in
    omega (arith, here, least, small)

-- a value by its parts
pub value_by : (posts : ℕ → ℕ → Post) (square : Square) (level : CellLevel) (place : Place) (x y col e row n : ℕ) (quad : Quad) (post : Post)
    → x ≡ steps_east square level place → y ≡ steps_north square level place → col ≡ x / place.d → e ≡ x % place.d → row ≡ y / place.d → n ≡ y % place.d
    → quad ≡ quad_round posts col row (e == 0) (n == 0) → post ≡ blend_of quad e place.d n place.d → post ≡ value_in_cell posts square level place
unfolding value_in_cell
value_by posts square level place x y col e row n quad post hx hy hc he hr hn q p =
    p
    ∙ (λ i. blend_of (q i) e place.d n place.d)
    ∙ (λ i. blend_of (quad_round posts (hc i) (hr i) (he i == 0) (hn i == 0)) (he i) place.d (hn i) place.d)
    ∙ (λ i. blend_of (quad_at posts (hx i) (hy i) place.d) (hx i % place.d) place.d (hy i % place.d) place.d)

told_in : (o : Option (List ℕ)) (square : Square) (level : CellLevel) (place : Place) (post : Post) → is_some o ≡ true → ((bytes : List ℕ) → o ≡ Some bytes → level_in bytes ≡ level) → post ≡ value_in_cell (post_or_void o) square level place → post ≡ value_or_void o square place
told_in None square level place post some is h = absurd (cc)
told_in (Some bytes) square level place post some is h = h ∙ ap (λ l. value_in_cell (post_in bytes) square l place) (sym (is bytes refl))

-- the same of a told cell
pub told_value : (told : Cells) (shapes : Shapes) (key : CellKey) (place : Place) (post : Post) → AreCells told shapes → contains shapes key ≡ true
    → post ≡ value_in_cell (post_at told key) key.square key.level place → post ≡ value_in_key told key place
told_value told shapes key place post are known h = told_in (get told key) key.square key.level place post (are.keys key ∙ known) (λ bytes is. (are.each key bytes is).level) h

-- ---- the value in the cells of a square

-- from the first level that has a cell on
abbrev pub value_from : Cells → Square → Place → Option CellLevel → Post
value_from told square place None = Void
value_from told square place (Some level) = value_in_levels told square place (level ∷ coarser_levels level)

module _ (told : Cells) (shapes : Shapes) (square : Square) (place : Place) (are : AreCells told shapes) where
  no_cell : (o : Option (List ℕ)) → is_some o ≡ false → value_or_void o square place ≡ Void
  no_cell None none = refl
  no_cell (Some bytes) none = absurd (cc)

  -- a level that has no cell is passed over
  passed : (level : CellLevel) (levels : List CellLevel) → contains shapes (key_at square level) ≡ false → value_in_levels told square place (level ∷ levels) ≡ value_in_levels told square place levels
  passed level levels none = rw (no_cell (get told (key_at square level)) (are.keys (key_at square level) ∙ none)) refl

  -- one more level in front, whose coarser levels are the others
  one_more : (level : CellLevel) (levels : List CellLevel) (here : Bool) → contains shapes (key_at square level) ≡ here → coarser_levels level ≡ levels
      → value_in_levels told square place levels ≡ value_from told square place (first_level shapes square levels)
      → value_in_levels told square place (level ∷ levels) ≡ value_from told square place (cond here (Some level) (first_level shapes square levels))
  one_more level levels true is same rest = ap (λ l. value_in_levels told square place (level ∷ l)) (sym same)
  one_more level levels false is same rest = passed level levels is ∙ rest

  zero_on : value_in_levels told square place (Zero ∷ []) ≡ value_from told square place (first_level shapes square (Zero ∷ []))
  zero_on = one_more Zero [] (contains shapes (key_at square Zero)) refl refl refl

  one_on : value_in_levels told square place (One ∷ Zero ∷ []) ≡ value_from told square place (first_level shapes square (One ∷ Zero ∷ []))
  one_on = one_more One (Zero ∷ []) (contains shapes (key_at square One)) refl refl zero_on

  all_on : value_in_levels told square place all_levels ≡ value_from told square place (finest_of shapes square)
  all_on = one_more Two (One ∷ Zero ∷ []) (contains shapes (key_at square Two)) refl refl one_on

  coarser_on : (level : CellLevel) → value_in_levels told square place (coarser_levels level) ≡ value_from told square place (coarser_of shapes (key_at square level))
  coarser_on Two = one_on
  coarser_on One = zero_on
  coarser_on Zero = refl

  -- the value in the square is that from its finest level on
  pub from_finest : (next : Option CellLevel) → next ≡ finest_of shapes square → value_from told square place next ≡ value_at told square place
  unfolding value_at
  from_finest next is = ap (value_from told square place) is ∙ sym all_on

  known_first : (value : Post) (metres : ℤ) (levels : List CellLevel) (level : CellLevel) → value ≡ value_in_key told (key_at square level) place → value ≡ Metres metres → Metres metres ≡ value_in_levels told square place (level ∷ levels)
  known_first value metres levels level is known = rw (sym is ∙ known) refl

  -- where it is known there, it is that
  pub known_here : (level : CellLevel) (value : Post) (metres : ℤ) → value ≡ value_in_key told (key_at square level) place → value ≡ Metres metres → value ≡ value_from told square place (Some level)
  known_here level value metres is known = known ∙ known_first value metres (coarser_levels level) level is known

  -- else it is that from the next level on
  pub void_here : (level : CellLevel) (value : Post) (next : Option CellLevel) → value ≡ value_in_key told (key_at square level) place → value ≡ Void → next ≡ coarser_of shapes (key_at square level)
      → value_from told square place next ≡ value_from told square place (Some level)
  void_here level value next is void same =
      ap (value_from told square place) same ∙ sym (coarser_on level) ∙ (rw (sym is ∙ void) refl)

  -- the value from the next coarser level on is that in the coarser levels
  pub from_coarser : (level : CellLevel) (next : Option CellLevel) → next ≡ coarser_of shapes (key_at square level)
      → value_from told square place next ≡ value_in_levels told square place (coarser_levels level)
  from_coarser level next is = ap (value_from told square place) is ∙ sym (coarser_on level)

  -- where the finest cell has a void the value in the square is that in the coarser levels
  pub void_finest : (level : CellLevel) (value : Post) → Some level ≡ finest_of shapes square → value ≡ value_in_key told (key_at square level) place → value ≡ Void
      → value_in_levels told square place (coarser_levels level) ≡ value_at told square place
  void_finest level value finest is void =
      sym (from_coarser level (coarser_of shapes (key_at square level)) refl)
      ∙ void_here level value (coarser_of shapes (key_at square level)) is void refl
      ∙ from_finest (Some level) finest

  only_zero : (here : Bool) (level : CellLevel) → cond here (Some Zero) None ≡ Some level → level ≡ Zero
  only_zero true level is = cc
  only_zero false level is = absurd (cc)

  one_is_not_two : (one zero : Bool) → cond one (Some One) (cond zero (Some Zero) None) ≡ Some Two → ⊥
  one_is_not_two true zero is = absurd (cc)
  one_is_not_two false true is = absurd (cc)
  one_is_not_two false false is = absurd (cc)

  not_finest : (first : CellLevel) → Some Two ≡ coarser_of shapes (key_at square first) → ⊥
  not_finest Two is = one_is_not_two (contains shapes (key_at square One)) (contains shapes (key_at square Zero)) (sym is)
  not_finest One is = absurd (let zero = only_zero (contains shapes (key_at square Zero)) Two (sym is) in cc)
  not_finest Zero is = absurd (cc)

  -- the third level is the coarsest
  third : (first second level : CellLevel) → Some second ≡ coarser_of shapes (key_at square first) → Some level ≡ coarser_of shapes (key_at square second) → level ≡ Zero
  third first Two level is next = absurd (not_finest first is)
  third first One level is next = only_zero (contains shapes (key_at square Zero)) level (sym next)
  third first Zero level is next = absurd (cc)

  alone : (value : Post) → value ≡ known_or_void (find is_known (value ∷ []))
  alone Void = refl
  alone (Metres metres) = refl

  -- so the value there is the last
  pub last_here : (first second level : CellLevel) (value : Post) → Some second ≡ coarser_of shapes (key_at square first) → Some level ≡ coarser_of shapes (key_at square second)
      → value ≡ value_in_key told (key_at square level) place → value ≡ value_from told square place (Some level)
  last_here first second level value is next at =
      at ∙ alone (value_in_key told (key_at square level) place)
      ∙ ap (λ l. value_in_levels told square place (level ∷ l)) (sym (ap coarser_levels (third first second level is next)))

-- where the square has no cell the value is void
no_levels : (cells : Cells) (square : Square) (place : Place) (levels : List CellLevel) → list_any (λ level. is_some (get cells (key_at square level))) levels ≡ false → value_in_levels cells square place levels ≡ Void
no_levels cells square place [] none = refl
no_levels cells square place (level ∷ levels) none =
    let both = neither (is_some (get cells (key_at square level))) (list_any (λ l. is_some (get cells (key_at square l))) levels) none in
    rw (no_cell_of (get cells (key_at square level)) square place both.0) (no_levels cells square place levels both.1)
  where
    neither : (a b : Bool) → (a || b) ≡ false → (a ≡ false) × (b ≡ false)
    neither true b e = absurd (cc)
    neither false b e = (refl, e)

    no_cell_of : (o : Option (List ℕ)) (square : Square) (place : Place) → is_some o ≡ false → value_or_void o square place ≡ Void
    no_cell_of None square place e = refl
    no_cell_of (Some bytes) square place e = absurd (cc)

pub no_cells : (cells : Cells) (square : Square) (place : Place) → has_cell cells square ≡ false → value_at cells square place ≡ Void
unfolding value_at
no_cells cells square place none = no_levels cells square place all_levels none

-- the value depends on the square's cells alone
pub same_at : (cells others : Cells) (square : Square) (place : Place) → ((level : CellLevel) → get cells (key_at square level) ≡ get others (key_at square level)) → value_at cells square place ≡ value_at others square place
unfolding value_at
same_at cells others square place same = λ i. known_or_void (find is_known (map (λ level. value_or_void (same level i) square place) all_levels))
