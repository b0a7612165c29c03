-- Windows far from the tile have no posts on it.
use Rattle.std.proofs.Common.{◌≡◌, ℕ, true, ◌+◌, ◌*◌, ◌/◌, ◌^◌, ◌≤◌, ◌<◌, arith, refl, ap, ◌∙◌, subst, [], ◌∷◌}
use Rattle.std.specs.Prelude.{ℤ, pos, negsuc, ◌+ℤ◌, ◌-ℤ◌, ◌*ℤ◌, ◌≤ℤ◌}
use Rattle.std.proofs.Math.Nat.{div-add-mod'}
use Rattle.std.proofs.lemmas.Int.{ints, by_lt_z}
use Rattle.std.proofs.lemmas.Bool.{eq-eqb, or_left, or_right, and_from}
use Rattle.std.proofs.lemmas.Nat.{mul-le, pow-add}
use Rattle.polynomial.proofs.Expressions.{var, num, sub, mul}
use Rattle.polynomial.proofs.NormalForm.{by_ring}
use Rattle.polynomial.proofs.Signs.{factor_nonneg}
use Rattle.terrain_base.specs.declared.cell_key.CellKey.{CellKey}
use Rattle.terrain_base.specs.declared.tile.TileId.{TileId}
use Rattle.terrain_base.specs.Level.{lon_step_of, lat_step_of}
use Rattle.tms_tree.specs.Touch.{touches_of, round_meets_at}
use Rattle.tms_tree.proofs.Touching.{meets_from, true_and}
use Rattle.cell_mosaic.specs.Cells.{Cells}
use Rattle.post_bound.specs.Posts.{IsPostOf}
use Rattle.post_bound.proofs.Turns.{degree_near}

-- no post lies further than a degree from the first
rest_small : (i step : ℕ) → i < 3600 / step + 1 → i * step ≤ 3600
rest_small i step h = omega (arith, div-add-mod' 3600 step, mul-le i step (3600 / step) step (omega arith) (omega arith))

module _ (cells : Cells) (tile : TileId) (key : CellKey) (turns u v metres : ℤ) (p : IsPostOf cells tile key turns u v metres)
    (some : 1 ≤ 2 ^ tile.z) where
  -- the degree of longitude, turned, is at most one before the tile's first, and at most its last
  pub degree_of_column : let degree = pos key.square.lon +ℤ pos 360 *ℤ turns in let n = pos (2 ^ tile.z) in
      ((pos 180 *ℤ pos tile.x) ≤ℤ ((degree +ℤ pos 1) *ℤ n)) × ((degree *ℤ n) ≤ℤ (pos 180 *ℤ pos tile.x +ℤ pos 180))
  degree_of_column =
      let degree = pos key.square.lon +ℤ pos 360 *ℤ turns in let n = pos (2 ^ tile.z) in
      let step = lon_step_of key.square key.level in let rest = pos (p.col * step) in
      let same : pos (3600 * key.square.lon + p.col * step) +ℤ turns *ℤ pos 1296000 ≡ pos 3600 *ℤ degree +ℤ rest = omega (arith, ints) in
      let wide : pos (648000 * tile.x) ≡ pos 648000 *ℤ pos tile.x = refl in
      let e : u ≡ ((pos 3600 *ℤ degree +ℤ rest) *ℤ n -ℤ pos 648000 *ℤ pos tile.x) *ℤ pos 32767 =
      p.east ∙ ap (λ (z : ℤ). (z *ℤ n -ℤ pos (648000 * tile.x)) *ℤ pos 32767) same in
      degree_near degree rest n (pos tile.x) (omega (arith, ints, some)) (omega (arith, ints)) (omega (arith, ints, rest_small p.col step p.in_col))
      (subst (λ (z : ℤ). pos 0 ≤ℤ z) e p.inside.west) (subst (λ (z : ℤ). z ≤ℤ pos 21233016000) e (omega (arith, ints, p.inside.east)))

  -- the same of latitude
  pub degree_of_row : let degree = pos key.square.lat in let n = pos (2 ^ tile.z) in
      ((pos 180 *ℤ pos tile.y) ≤ℤ ((degree +ℤ pos 1) *ℤ n)) × ((degree *ℤ n) ≤ℤ (pos 180 *ℤ pos tile.y +ℤ pos 180))
  degree_of_row =
      let degree = pos key.square.lat in let n = pos (2 ^ tile.z) in
      let step = lat_step_of key.level in let rest = pos (p.row * step) in
      let same : pos (3600 * key.square.lat + p.row * step) ≡ pos 3600 *ℤ degree +ℤ rest = omega (arith, ints) in
      let e : v ≡ ((pos 3600 *ℤ degree +ℤ rest) *ℤ n -ℤ pos 648000 *ℤ pos tile.y) *ℤ pos 32767 =
      p.north ∙ ap (λ (z : ℤ). (z *ℤ n -ℤ pos (648000 * tile.y)) *ℤ pos 32767) same in
      degree_near degree rest n (pos tile.y) (omega (arith, ints, some)) (omega (arith, ints)) (omega (arith, ints, rest_small p.row step p.in_row))
      (subst (λ (z : ℤ). pos 0 ≤ℤ z) e p.inside.south) (subst (λ (z : ℤ). z ≤ℤ pos 21233016000) e (omega (arith, ints, p.inside.north)))

  -- so a post on the tile is at most one turn away
  pub one_turn : key.square.lon < 360 → tile.x < 2 ^ (tile.z + 1) → ((pos 0 -ℤ pos 1) ≤ℤ turns) × (turns ≤ℤ pos 1)
  one_turn h k =
      let degree = pos key.square.lon +ℤ pos 360 *ℤ turns in let n = pos (2 ^ tile.z) in
      let d = degree_of_column in
      let two = pow-add 2 tile.z 1 in
      let least = factor_nonneg n (degree +ℤ pos 1) (omega (arith, ints, some))
      (omega (arith, ints, d.0, by_ring (mul (var 0) (var 1)) (mul (var 1) (var 0)) (n ∷ (degree +ℤ pos 1) ∷ []) refl)) in
      let most = factor_nonneg n (pos 360 -ℤ degree) (omega (arith, ints, some))
      (omega (arith, ints, d.1, k, two, by_ring (mul (var 0) (sub (num 360) (var 1))) (sub (mul (num 360) (var 0)) (mul (var 1) (var 0))) (n ∷ degree ∷ []) refl)) in
      (omega (arith, ints, least, h), omega (arith, ints, most))

  -- and the tile touches its square
  pub post_touches : touches_of tile key.square ≡ true
  unfolding touches_of
  post_touches =
      let row = degree_of_row in let column = degree_of_column in
      let lat_meets = meets_from tile.z tile.y key.square.lat (record { below = omega (arith, ints, row.0); above = omega (arith, ints, row.1) }) in
      let turned = one_turn key.square.lon_in_range tile.x_in_range in
      let round : round_meets_at tile.z tile.x key.square.lon ≡ true =
      by_lt_z turns (pos 0)
      (λ west. let t : turns ≡ negsuc 0 = omega (arith, ints, west, turned.0) in wraps_west t)
      (λ here. by_lt_z turns (pos 1)
      (λ mid. let t : turns ≡ pos 0 = omega (arith, ints, here, mid) in stays t)
      (λ east. let t : turns ≡ pos 1 = omega (arith, ints, east, turned.1) in wraps_east t)) in
      true_and _ _ lat_meets ∙ round
    where
      stays : turns ≡ pos 0 → round_meets_at tile.z tile.x key.square.lon ≡ true
      stays t =
          let column = degree_of_column in
          let same : pos key.square.lon +ℤ pos 360 *ℤ turns ≡ pos key.square.lon = omega (arith, ints, t) in
          let low = subst (λ (z : ℤ). (pos 180 *ℤ pos tile.x) ≤ℤ ((z +ℤ pos 1) *ℤ pos (2 ^ tile.z))) same column.0 in
          let high = subst (λ (z : ℤ). (z *ℤ pos (2 ^ tile.z)) ≤ℤ (pos 180 *ℤ pos tile.x +ℤ pos 180)) same column.1 in
          or_left _ _ (meets_from tile.z tile.x key.square.lon (record { below = omega (arith, ints, low); above = omega (arith, ints, high) }))

      wraps_west : turns ≡ negsuc 0 → round_meets_at tile.z tile.x key.square.lon ≡ true
      wraps_west t =
          let column = degree_of_column in let n = pos (2 ^ tile.z) in let lon = key.square.lon_in_range in
          let next = (pos key.square.lon +ℤ pos 360 *ℤ turns) +ℤ pos 1 in
          let least = factor_nonneg n next (omega (arith, ints, some)) (omega (arith, ints, column.0, by_ring (mul (var 0) (var 1)) (mul (var 1) (var 0)) (n ∷ next ∷ []) refl)) in
          let last : key.square.lon ≡ 359 = omega (arith, ints, t, least, lon) in
          let none : next ≡ pos 0 = omega (arith, ints, t, last) in
          let first : tile.x ≡ 0 = omega (arith, ints, subst (λ (z : ℤ). (pos 180 *ℤ pos tile.x) ≤ℤ (z *ℤ n)) none column.0) in
          or_right _ _ (or_left _ _ (and_from _ _ (eq-eqb tile.x 0 first) (eq-eqb key.square.lon 359 last)))

      wraps_east : turns ≡ pos 1 → round_meets_at tile.z tile.x key.square.lon ≡ true
      wraps_east t =
          let column = degree_of_column in let n = pos (2 ^ tile.z) in let lon = key.square.lon_in_range in let x = tile.x_in_range in
          let two = pow-add 2 tile.z 1 in
          let degree = pos key.square.lon +ℤ pos 360 *ℤ turns in
          let most = factor_nonneg n (pos 360 -ℤ degree) (omega (arith, ints, some))
          (omega (arith, ints, column.1, x, two, by_ring (mul (var 0) (sub (num 360) (var 1))) (sub (mul (num 360) (var 0)) (mul (var 1) (var 0))) (n ∷ degree ∷ []) refl)) in
          let first : key.square.lon ≡ 0 = omega (arith, ints, t, most) in
          let whole : degree ≡ pos 360 = omega (arith, ints, t, first) in
          let last : tile.x + 1 ≡ 2 ^ (tile.z + 1) = omega (arith, ints, x, two, subst (λ (z : ℤ). (z *ℤ n) ≤ℤ (pos 180 *ℤ pos tile.x +ℤ pos 180)) whole column.1) in
          or_right _ _ (or_right _ _ (and_from _ _ (eq-eqb (tile.x + 1) (2 ^ (tile.z + 1)) last) (eq-eqb key.square.lon 0 first)))
