-- Bounds raised by the cells of one set after another: levels, degrees of longitude, degrees of latitude.
use Rattle.std.proofs.Common.{◌≡◌, ℕ, ◌+◌, ◌-◌, ◌*◌, ◌^◌, ◌≤◌, ◌<◌, min, arith, refl, sym, subst, ap, ◌∙◌, List, [], ◌∷◌, inl, inr, ⊎_elim}
use Rattle.std.specs.Prelude.{◌⊎◌, ℤ, pos, ◌+ℤ◌, ◌*ℤ◌, ◌≤ℤ◌, ◌<ℤ◌, unsigned_abs, All}
use Rattle.std.proofs.lemmas.Int.{ints, by_lt_z}
use Rattle.std.proofs.lemmas.Nat.{pow-add}
use Rattle.polynomial.proofs.Expressions.{var, mul}
use Rattle.polynomial.proofs.NormalForm.{by_ring}
use Rattle.polynomial.proofs.Signs.{weaken, factor_nonneg}
use Rattle.terrain_base.specs.declared.square.Square.{Square}
use Rattle.terrain_base.specs.declared.level.CellLevel.{CellLevel}
use Rattle.terrain_base.specs.declared.level.CellLevel.TheVariants.{Zero, One, Two}
use Rattle.terrain_base.specs.declared.cell_key.CellKey.{CellKey}
use Rattle.terrain_base.specs.declared.tile.TileId.{TileId}
use Rattle.terrain_base.specs.CellKey.{key_at}
use Rattle.terrain_base.proofs.SquareTexts.{same_square}
use Rattle.terrain_base.proofs.KeyOrder.{same_key}
use Rattle.cell_mosaic.specs.Cells.{Cells}
use Rattle.mesh_plane.specs.declared.corner.Tri.{Tri}
use Rattle.mesh_plane.specs.Plane.{IsCounterClockwise}
use Rattle.lattice_sweep.specs.Plane.{IsTerrainTri}
use Rattle.lattice_sweep.specs.Bound.{IsRaisedBound}
use Rattle.lattice_sweep.proofs.Bounds.{bounds_both, bounds_same, bounds_none}
use Rattle.post_bound.specs.Window.{WindowGap}
use Rattle.post_bound.specs.Squares.{GapAmong, Everywhere, IsAt, InSquare, degree_of, InDegree, BeforeDegree, InLatitude, BeforeLatitude}
use Rattle.post_bound.proofs.Swept.{area_above}
use Rattle.post_bound.proofs.Far.{degree_of_column, degree_of_row}

pub all_turning : (ts : List Tri) → All IsTerrainTri ts → All IsCounterClockwise ts
all_turning ts all i t h = (all i t h).counter_clockwise

-- a whole number from 0 on as a natural one
pub natural : (z : ℤ) → pos 0 ≤ℤ z → pos (unsigned_abs z) ≡ z
natural z h = omega (arith, ints, h)

-- a column's last degree is at most the 360th
pub few_degrees : (z x last : ℕ) → 1 ≤ 2 ^ z → x < 2 ^ (z + 1) → (361 ≤ last → 361 * 2 ^ z ≤ 180 * x + 180) → last ≤ 360
few_degrees z x last some in_range reached =
    by_lt_z (pos 360) (pos last)
    (λ beyond. absurd (let far = reached (omega (arith, ints, beyond)) in omega (arith, far, in_range, some, pow-add 2 z 1)))
    (λ within. omega (arith, ints, within))

-- in a square the finest, the middle or the coarsest level
by_level : (square : Square) (round : ℤ) (key : CellKey) (turns : ℤ) (level : CellLevel) → key.level ≡ level → InSquare square round key turns
    → (IsAt (key_at square Two) round key turns ⊎ IsAt (key_at square One) round key turns) ⊎ IsAt (key_at square Zero) round key turns
by_level square round key turns Two is i = inl (inl (record { is_key = same_key key (key_at square Two) i.is_square is; is_turns = i.is_turns }))
by_level square round key turns One is i = inl (inr (record { is_key = same_key key (key_at square One) i.is_square is; is_turns = i.is_turns }))
by_level square round key turns Zero is i = inr (record { is_key = same_key key (key_at square Zero) i.is_square is; is_turns = i.is_turns })

in_square : (square : Square) (level : CellLevel) (round : ℤ) (key : CellKey) (turns : ℤ) → IsAt (key_at square level) round key turns → InSquare square round key turns
in_square square level round key turns i = record { is_square = ap (λ (k : CellKey). k.square) i.is_key; is_turns = i.is_turns }

module _ (cells : Cells) (tile : TileId) (ts : List Tri) (all : All IsTerrainTri ts) where
  least_area : (key : CellKey) (turns : ℤ) (gap : ℕ) (under : ℤ) → WindowGap cells tile ts key turns gap under → pos 0 ≤ℤ under
  least_area key turns gap under w =
      subst (λ (z : ℤ). pos 0 ≤ℤ z) (sym w.area) (weaken (area_above ts w.tri (pos 10125) (omega (arith, ints)) (all_turning ts all) w.among))

  -- by two sets of cells
  pub among_both : {P Q R : CellKey → ℤ → Type 0} {a b c : ℕ} → ((k : CellKey) (t : ℤ) → P k t → R k t) → ((k : CellKey) (t : ℤ) → Q k t → R k t)
      → ((k : CellKey) (t : ℤ) → R k t → P k t ⊎ Q k t)
      → IsRaisedBound (GapAmong P cells tile ts) a b → IsRaisedBound (GapAmong Q cells tile ts) b c → IsRaisedBound (GapAmong R cells tile ts) a c
  among_both {P} {Q} {R} f g cases r s =
      bounds_both (λ n u x. record { key = x.key; turns = x.turns; named = f x.key x.turns x.named; at = x.at })
      (λ n u x. record { key = x.key; turns = x.turns; named = g x.key x.turns x.named; at = x.at })
      (λ n u x. ⊎_elim (λ (p : P x.key x.turns). inl (record { key = x.key; turns = x.turns; named = p; at = x.at }))
      (λ (q : Q x.key x.turns). inr (record { key = x.key; turns = x.turns; named = q; at = x.at })) (cases x.key x.turns x.named))
      (λ n u x. least_area x.key x.turns n u x.at) r s

  -- by the same cells, as far as they have a gap
  pub among_same : {P Q : CellKey → ℤ → Type 0} {a b : ℕ} → ((k : CellKey) (t : ℤ) (n : ℕ) (u : ℤ) → WindowGap cells tile ts k t n u → P k t → Q k t)
      → ((k : CellKey) (t : ℤ) (n : ℕ) (u : ℤ) → WindowGap cells tile ts k t n u → Q k t → P k t)
      → IsRaisedBound (GapAmong P cells tile ts) a b → IsRaisedBound (GapAmong Q cells tile ts) a b
  among_same f g r =
      bounds_same (λ n u x. record { key = x.key; turns = x.turns; named = f x.key x.turns n u x.at x.named; at = x.at })
      (λ n u x. record { key = x.key; turns = x.turns; named = g x.key x.turns n u x.at x.named; at = x.at }) r

  -- by none that has a gap
  pub among_none : {P : CellKey → ℤ → Type 0} {a : ℕ} → ((k : CellKey) (t : ℤ) (n : ℕ) (u : ℤ) → WindowGap cells tile ts k t n u → P k t → ⊥)
      → IsRaisedBound (GapAmong P cells tile ts) a a
  among_none none = bounds_none (λ n u x. none x.key x.turns n u x.at x.named)

  -- by one cell
  one_key : (key : CellKey) (round : ℤ) {a b : ℕ} → IsRaisedBound (WindowGap cells tile ts key round) a b → IsRaisedBound (GapAmong (IsAt key round) cells tile ts) a b
  one_key key round r =
      bounds_same (λ n u w. record { key = key; turns = round; named = record { is_key = refl; is_turns = refl }; at = w })
      (λ n u x. subst (λ (t : ℤ). WindowGap cells tile ts key t n u) x.named.is_turns (subst (λ (k : CellKey). WindowGap cells tile ts k x.turns n u) x.named.is_key x.at)) r

  -- by a square's cells of the three levels
  pub three_levels : (square : Square) (round : ℤ) {a b c d : ℕ} → IsRaisedBound (WindowGap cells tile ts (key_at square Two) round) a b
      → IsRaisedBound (WindowGap cells tile ts (key_at square One) round) b c → IsRaisedBound (WindowGap cells tile ts (key_at square Zero) round) c d
      → IsRaisedBound (GapAmong (InSquare square round) cells tile ts) a d
  three_levels square round {a} {b} {c} {d} two one zero =
      let finer : IsRaisedBound (GapAmong (λ k t. IsAt (key_at square Two) round k t ⊎ IsAt (key_at square One) round k t) cells tile ts) a c =
      among_both {P = IsAt (key_at square Two) round} {Q = IsAt (key_at square One) round} (λ k t i. inl i) (λ k t i. inr i) (λ k t i. i)
      (one_key (key_at square Two) round two) (one_key (key_at square One) round one) in
      among_both {P = λ k t. IsAt (key_at square Two) round k t ⊎ IsAt (key_at square One) round k t} {Q = IsAt (key_at square Zero) round} {R = InSquare square round}
      (λ k t i. ⊎_elim (λ (j : IsAt (key_at square Two) round k t). in_square square Two round k t j) (λ (j : IsAt (key_at square One) round k t). in_square square One round k t j) i)
      (λ k t i. in_square square Zero round k t i)
      (λ k t i. by_level square round k t k.level refl i)
      finer (one_key (key_at square Zero) round zero)

  -- a square in its degrees
  pub its_degree : (square : Square) (round : ℤ) (lat degree : ℕ) {a b : ℕ} → square.lat ≡ lat
      → (pos square.lon +ℤ pos 360 *ℤ round) +ℤ pos 360 ≡ pos degree
      → IsRaisedBound (GapAmong (InSquare square round) cells tile ts) a b → IsRaisedBound (GapAmong (InDegree lat degree) cells tile ts) a b
  its_degree square round lat degree lat_is degree_is r =
      among_same {P = InSquare square round} {Q = InDegree lat degree}
      (λ k t n u w i. record {
        is_lat = ap (λ (s : Square). s.lat) i.is_square ∙ lat_is;
        is_degree = ap (λ (s : Square). (pos s.lon +ℤ pos 360 *ℤ t) +ℤ pos 360) i.is_square ∙ ap (λ (x : ℤ). (pos square.lon +ℤ pos 360 *ℤ x) +ℤ pos 360) i.is_turns ∙ degree_is;
      })
      (λ k t n u w i.
      let here = k.square.lon_in_range in let there = square.lon_in_range in let same = i.is_degree in
      let turns_are : t ≡ round = omega (arith, ints, here, there, same, degree_is) in
      record { is_square = same_square k.square square (i.is_lat ∙ sym lat_is) (omega (arith, ints, turns_are, same, degree_is)); is_turns = turns_are })
      r

  -- one degree of longitude more
  pub one_more : (lat degree : ℕ) {a b c : ℕ} → IsRaisedBound (GapAmong (BeforeDegree lat degree) cells tile ts) a b
      → IsRaisedBound (GapAmong (InDegree lat degree) cells tile ts) b c → IsRaisedBound (GapAmong (BeforeDegree lat (degree + 1)) cells tile ts) a c
  one_more lat degree r s =
      among_both {P = BeforeDegree lat degree} {Q = InDegree lat degree} {R = BeforeDegree lat (degree + 1)}
      (λ k t i. let b = i.before in record { is_lat = i.is_lat; before = omega (arith, ints, b) })
      (λ k t i. let e = i.is_degree in record { is_lat = i.is_lat; before = omega (arith, ints, e) })
      (λ k t i. by_lt_z (degree_of k t) (pos degree) (λ less. inl (record { is_lat = i.is_lat; before = less }))
      (λ least. let b = i.before in inr (record { is_lat = i.is_lat; is_degree = omega (arith, ints, b, least) })))
      r s

  module _ (some : 1 ≤ 2 ^ tile.z) where
    -- the degree after that of a post on the tile, counted from 180 degrees west, is a natural number
    next_degree : (k : CellKey) (t : ℤ) (n : ℕ) (u : ℤ) → WindowGap cells tile ts k t n u → pos 0 ≤ℤ ((pos k.square.lon +ℤ pos 360 *ℤ t) +ℤ pos 1)
    next_degree k t n u w =
        let wide = pos (2 ^ tile.z) in let next = (pos k.square.lon +ℤ pos 360 *ℤ t) +ℤ pos 1 in
        let column = degree_of_column cells tile k t _ _ _ w.post some in
        factor_nonneg wide next (omega (arith, ints, some)) (omega (arith, ints, column.0, by_ring (mul (var 0) (var 1)) (mul (var 1) (var 0)) (wide ∷ next ∷ []) refl))

    -- none before the first degree
    pub no_degree : (lat first : ℕ) {a : ℕ} → ((degree : ℕ) → 180 * tile.x ≤ degree * 2 ^ tile.z → first ≤ degree)
        → IsRaisedBound (GapAmong (BeforeDegree lat (first + 359)) cells tile ts) a a
    no_degree lat first is =
        among_none {P = BeforeDegree lat (first + 359)} (λ k t n u w i.
        let next = (pos k.square.lon +ℤ pos 360 *ℤ t) +ℤ pos 1 in
        let whole = natural next (next_degree k t n u w) in
        let column = degree_of_column cells tile k t _ _ _ w.post some in
        let reached = subst (λ (z : ℤ). (pos 180 *ℤ pos tile.x) ≤ℤ (z *ℤ pos (2 ^ tile.z))) (sym whole) column.0 in
        let least = is (unsigned_abs next) (omega (arith, ints, reached)) in
        let before = i.before in
        omega (arith, ints, least, whole, before))

    -- none after the last
    pub all_degrees : (lat last end : ℕ) {a b : ℕ} → ((degree : ℕ) → degree * 2 ^ tile.z ≤ 180 * tile.x + 180 → degree ≤ last) → last + 361 ≤ end
        → IsRaisedBound (GapAmong (BeforeDegree lat end) cells tile ts) a b → IsRaisedBound (GapAmong (InLatitude lat) cells tile ts) a b
    all_degrees lat last end is enough r =
        among_same {P = BeforeDegree lat end} {Q = InLatitude lat} (λ k t n u w i. record { is_lat = i.is_lat })
        (λ k t n u w i. record { is_lat = i.is_lat; before = before_end k t n u w }) r
      where
        before_end : (k : CellKey) (t : ℤ) (n : ℕ) (u : ℤ) → WindowGap cells tile ts k t n u → degree_of k t <ℤ pos end
        before_end k t n u w =
            let degree = pos k.square.lon +ℤ pos 360 *ℤ t in
            by_lt_z degree (pos 0) (λ west. omega (arith, ints, west, enough))
            (λ least.
            let whole = natural degree least in
            let column = degree_of_column cells tile k t _ _ _ w.post some in
            let reached = subst (λ (z : ℤ). (z *ℤ pos (2 ^ tile.z)) ≤ℤ (pos 180 *ℤ pos tile.x +ℤ pos 180)) (sym whole) column.1 in
            let most = is (unsigned_abs degree) (omega (arith, ints, reached)) in
            omega (arith, ints, most, whole, enough))

    -- none before the first degree of latitude
    pub no_latitude : (first south : ℕ) {a : ℕ} → ((degree : ℕ) → 180 * tile.y ≤ degree * 2 ^ tile.z → first ≤ degree) → south ≡ first - 1
        → IsRaisedBound (GapAmong (BeforeLatitude south) cells tile ts) a a
    no_latitude first south is south_is =
        among_none {P = BeforeLatitude south} (λ k t n u w i.
        let row = degree_of_row cells tile k t _ _ _ w.post some in
        let least = is (k.square.lat + 1) (omega (arith, ints, row.0)) in
        let before = i.before in
        omega (arith, least, before, south_is))

    -- none after the last
    pub all_latitudes : (last north end : ℕ) {a b : ℕ} → ((degree : ℕ) → degree * 2 ^ tile.z ≤ 180 * tile.y + 180 → degree ≤ last) → north ≡ min (last + 1) 180
        → north ≤ end → IsRaisedBound (GapAmong (BeforeLatitude end) cells tile ts) a b → IsRaisedBound (GapAmong Everywhere cells tile ts) a b
    all_latitudes last north end is north_is enough r =
        among_same {P = BeforeLatitude end} {Q = Everywhere} (λ k t n u w i. tt)
        (λ k t n u w i.
        let row = degree_of_row cells tile k t _ _ _ w.post some in
        let most = is k.square.lat (omega (arith, ints, row.1)) in
        let range = k.square.lat_in_range in
        record { before = omega (arith, most, range, north_is, enough) }) r

  -- one degree of latitude more
  pub next_latitude : (lat : ℕ) {a b c : ℕ} → IsRaisedBound (GapAmong (BeforeLatitude lat) cells tile ts) a b
      → IsRaisedBound (GapAmong (InLatitude lat) cells tile ts) b c → IsRaisedBound (GapAmong (BeforeLatitude (lat + 1)) cells tile ts) a c
  next_latitude lat r s =
      among_both {P = BeforeLatitude lat} {Q = InLatitude lat} {R = BeforeLatitude (lat + 1)}
      (λ k t i. let b = i.before in record { before = omega arith })
      (λ k t i. let e = i.is_lat in record { before = omega arith })
      (λ k t i. let b = i.before in by_lt_z (pos k.square.lat) (pos lat) (λ less. inl (record { before = omega (arith, ints, less) }))
      (λ least. inr (record { is_lat = omega (arith, ints, b, least) })))
      r s
