-- The frame between an outer rectangle and an inner one, in four sectors, one for each side, that meet along the
-- segments from corner to corner. The inner rectangle may be one point.
use Rattle.std.proofs.Common.{◌≡◌, refl, ap, arith, ◌∙◌, List, [], ◌∷◌, ◌++◌, inl, inr, ⊎_elim}
use Rattle.std.specs.Prelude.{ℤ, pos, ◌-ℤ◌, ◌*ℤ◌, ◌≤ℤ◌, ◌<ℤ◌, ◌⊎◌}
use Rattle.std.proofs.lemmas.Int.{ints}
use Rattle.polynomial.proofs.Expressions.{var, sub, mul}
use Rattle.polynomial.proofs.NormalForm.{by_ring}
use Rattle.polynomial.proofs.Signs.{times_nonneg, factor_nonneg, factor_pos, weaken, by_le_z}
use Rattle.terrain_base.specs.declared.side.Side.{Side}
use Rattle.terrain_base.specs.declared.side.Side.TheVariants.{West, South, East, North}
use Rattle.mesh_plane.specs.Plane.{Point}
use Rattle.mesh_plane.specs.Triangles.{Triple}
use Rattle.mesh_plane.specs.Fan.{Rect, InRect, InsideRect}
use Rattle.mesh_plane.specs.Strip.{IsOutside}
use Rattle.mesh_plane.proofs.Turns.{turn, turned}
use Rattle.mesh_plane.proofs.Tilings.{Tiling, tiling_union, tiling_same}
use Rattle.mesh_plane.proofs.Sweeps.{difference}
use Rattle.mesh_plane.proofs.Sides.{next, before, before_next, depth_above, border, start_of, inset, gap}

-- x is the distance from one side of the outer rectangle, A and B are those from the two sides beside it; d, a and b
-- are the same distances of the inner rectangle
pub record Sector (d x a A b B : ℤ) : Type 0 where
  pub above : pos 0 ≤ℤ x
  pub below : x ≤ℤ d
  pub first : (a *ℤ x) ≤ℤ (d *ℤ A)
  pub second : (b *ℤ x) ≤ℤ (d *ℤ B)

pub record OpenSector (d x a A b B : ℤ) : Type 0 where
  pub above : pos 0 <ℤ x
  pub below : x <ℤ d
  pub first : (a *ℤ x) <ℤ (d *ℤ A)
  pub second : (b *ℤ x) <ℤ (d *ℤ B)

-- ---- numbers
pub inward : (a d x y : ℤ) → pos 0 <ℤ d → pos 0 ≤ℤ a → pos 0 ≤ℤ y → (a *ℤ y) ≤ℤ (d *ℤ x) → pos 0 ≤ℤ x
inward a d x y hd ha hy h = factor_nonneg d x hd (omega (arith, ints, times_nonneg a y ha hy, h))

pub strictly_inward : (a d x y : ℤ) → pos 0 <ℤ d → pos 0 ≤ℤ a → pos 0 ≤ℤ y → (a *ℤ y) <ℤ (d *ℤ x) → pos 0 <ℤ x
strictly_inward a d x y hd ha hy h = factor_pos d x hd (omega (arith, ints, times_nonneg a y ha hy, h))

pub across : (a d s w : ℤ) → pos 0 ≤ℤ a → pos 0 ≤ℤ d → s ≤ℤ d → a ≤ℤ w → (a *ℤ s) ≤ℤ (d *ℤ w)
across a d s w ha hd hs hw =
    omega (
      arith,
      ints,
      difference a d s,
      difference d w a,
      times_nonneg a (d -ℤ s) ha (omega (arith, ints)),
      times_nonneg d (w -ℤ a) hd (omega (arith, ints)),
      by_ring (mul (var 0) (var 1)) (mul (var 1) (var 0)) (a ∷ d ∷ []) refl,
    )

-- where a product is small, so is its factor
short : (a d x y : ℤ) → pos 0 <ℤ d → pos 0 ≤ℤ a → x ≤ℤ d → (d *ℤ y) ≤ℤ (a *ℤ x) → y ≤ℤ a
short a d x y hd ha hx h =
    let k : pos 0 ≤ℤ (a -ℤ y) = factor_nonneg d (a -ℤ y) hd
    (omega (
      arith,
      ints,
      difference d a y,
      difference a d x,
      times_nonneg a (d -ℤ x) ha (omega (arith, ints)),
      h,
      by_ring (mul (var 0) (var 1)) (mul (var 1) (var 0)) (a ∷ d ∷ []) refl,
    )) in
    omega (arith, ints, k)

-- ---- the turn about the segment between the corners where a side begins, by distances
pub corner_turn : (r q : Rect) (side : Side) (p : Point) → turn (start_of side r) (start_of side q) p
    ≡ gap r q (before side) *ℤ inset r side p -ℤ gap r q side *ℤ inset r (before side) p
corner_turn r q South p = refl
corner_turn r q East p =
    by_ring (turned (var 0) (var 1) (var 2) (var 3) (var 4) (var 5))
    (sub (mul (sub (var 3) (var 1)) (sub (var 0) (var 4))) (mul (sub (var 0) (var 2)) (sub (var 5) (var 1))))
    (r.east ∷ r.south ∷ q.east ∷ q.south ∷ p.u ∷ p.v ∷ []) refl
corner_turn r q North p =
    by_ring (turned (var 0) (var 1) (var 2) (var 3) (var 4) (var 5))
    (sub (mul (sub (var 0) (var 2)) (sub (var 1) (var 5))) (mul (sub (var 1) (var 3)) (sub (var 0) (var 4))))
    (r.east ∷ r.north ∷ q.east ∷ q.north ∷ p.u ∷ p.v ∷ []) refl
corner_turn r q West p =
    by_ring (turned (var 0) (var 1) (var 2) (var 3) (var 4) (var 5))
    (sub (mul (sub (var 1) (var 3)) (sub (var 4) (var 0))) (mul (sub (var 2) (var 0)) (sub (var 1) (var 5))))
    (r.west ∷ r.north ∷ q.west ∷ q.north ∷ p.u ∷ p.v ∷ []) refl

-- the same where the side ends
pub corner_end : (r q : Rect) (side : Side) (p : Point) → turn (start_of (next side) r) (start_of (next side) q) p
    ≡ gap r q side *ℤ inset r (next side) p -ℤ gap r q (next side) *ℤ inset r side p
corner_end r q side p =
    corner_turn r q (next side) p
    ∙ ap (λ (s : Side). gap r q s *ℤ inset r (next side) p -ℤ gap r q (next side) *ℤ inset r s p) (before_next side)

-- ---- the frame
-- the inner rectangle lies strictly inside the outer one
pub record IsInner (r q : Rect) : Type 0 where
  pub west : r.west <ℤ q.west
  pub south : r.south <ℤ q.south
  pub east : q.east <ℤ r.east
  pub north : q.north <ℤ r.north
  pub wide : q.west ≤ℤ q.east
  pub high : q.south ≤ℤ q.north

module _ (r q : Rect) where
  -- the sector of a side between the one before it and the one after it
  abbrev pub SectorBetween : Side → Side → Side → Point → Type 0
  SectorBetween side back ahead p =
      Sector (gap r q side) (inset r side p) (gap r q back) (inset r back p) (gap r q ahead) (inset r ahead p)

  abbrev pub OpenSectorBetween : Side → Side → Side → Point → Type 0
  OpenSectorBetween side back ahead p =
      OpenSector (gap r q side) (inset r side p) (gap r q back) (inset r back p) (gap r q ahead) (inset r ahead p)

  abbrev pub SectorOf : Side → Point → Type 0
  SectorOf side = SectorBetween side (before side) (next side)

  abbrev pub OpenSectorOf : Side → Point → Type 0
  OpenSectorOf side = OpenSectorBetween side (before side) (next side)

  -- not strictly inside the inner rectangle, and strictly outside of it
  abbrev pub Around : Point → Type 0
  Around p = (p.v ≤ℤ q.south) ⊎ ((q.east ≤ℤ p.u) ⊎ ((q.north ≤ℤ p.v) ⊎ (p.u ≤ℤ q.west)))

  abbrev pub Outside : Point → Type 0
  Outside p = (p.v <ℤ q.south) ⊎ ((q.east <ℤ p.u) ⊎ ((q.north <ℤ p.v) ⊎ (p.u <ℤ q.west)))

  abbrev pub InFrame : Point → Type 0
  InFrame p = InRect r p × Around p

  abbrev pub InsideFrame : Point → Type 0
  InsideFrame p = InsideRect r p × Outside p

  module _ (i : IsInner r q) where
    pub is_outside : (side : Side) → IsOutside side (border side r) (border side q)
    is_outside South = i.south
    is_outside East = i.east
    is_outside North = i.north
    is_outside West = i.west

    pub gap_above : (side : Side) → pos 0 <ℤ gap r q side
    gap_above side = depth_above side (border side r) (border side q) (is_outside side)

    insets : (p : Point) → InRect r p → (side : Side) → pos 0 ≤ℤ inset r side p
    insets p f South = omega (arith, ints, f)
    insets p f East = omega (arith, ints, f)
    insets p f North = omega (arith, ints, f)
    insets p f West = omega (arith, ints, f)

    -- no further from a side than the inner rectangle is, and inside of those beside it
    near_side : (side : Side) (p : Point) → pos 0 ≤ℤ inset r side p → inset r side p ≤ℤ gap r q side
        → pos 0 ≤ℤ inset r (before side) p → pos 0 ≤ℤ inset r (next side) p → InFrame p
    near_side South p a b c d = (omega (arith, ints, i, a, b, c, d), inl (omega (arith, ints, b)))
    near_side East p a b c d = (omega (arith, ints, i, a, b, c, d), inr (inl (omega (arith, ints, b))))
    near_side North p a b c d = (omega (arith, ints, i, a, b, c, d), inr (inr (inl (omega (arith, ints, b)))))
    near_side West p a b c d = (omega (arith, ints, i, a, b, c, d), inr (inr (inr (omega (arith, ints, b)))))

    nearer_side : (side : Side) (p : Point) → pos 0 <ℤ inset r side p → inset r side p <ℤ gap r q side
        → pos 0 <ℤ inset r (before side) p → pos 0 <ℤ inset r (next side) p → InsideFrame p
    nearer_side South p a b c d = (omega (arith, ints, i, a, b, c, d), inl (omega (arith, ints, b)))
    nearer_side East p a b c d = (omega (arith, ints, i, a, b, c, d), inr (inl (omega (arith, ints, b))))
    nearer_side North p a b c d = (omega (arith, ints, i, a, b, c, d), inr (inr (inl (omega (arith, ints, b)))))
    nearer_side West p a b c d = (omega (arith, ints, i, a, b, c, d), inr (inr (inr (omega (arith, ints, b)))))

    sector_in : (side : Side) (p : Point) → SectorOf side p → InFrame p
    sector_in side p s =
        let beside : (other : Side) → (gap r q other *ℤ inset r side p) ≤ℤ (gap r q side *ℤ inset r other p)
        → pos 0 ≤ℤ inset r other p =
        λ other. inward (gap r q other) (gap r q side) (inset r other p) (inset r side p) (gap_above side)
        (weaken (gap_above other)) s.above in
        near_side side p s.above s.below (beside (before side) s.first) (beside (next side) s.second)

    sector_inside : (side : Side) (p : Point) → OpenSectorOf side p → InsideFrame p
    sector_inside side p s =
        let beside : (other : Side) → (gap r q other *ℤ inset r side p) <ℤ (gap r q side *ℤ inset r other p)
        → pos 0 <ℤ inset r other p =
        λ other. strictly_inward (gap r q other) (gap r q side) (inset r other p) (inset r side p) (gap_above side)
        (weaken (gap_above other)) (weaken s.above) in
        nearer_side side p s.above s.below (beside (before side) s.first) (beside (next side) s.second)

    -- what is near one side lies in its sector, or in one of those beside it
    some_beside : (p : Point) → InRect r p → (side back ahead opposite : Side) → inset r side p ≤ℤ gap r q side
        → gap r q opposite ≤ℤ inset r opposite p
        → SectorBetween side back ahead p
        ⊎ (SectorBetween back opposite side p ⊎ SectorBetween ahead side opposite p)
    some_beside p f side back ahead opposite near far =
        let narrow : (other : Side) → (gap r q side *ℤ inset r other p) ≤ℤ (gap r q other *ℤ inset r side p)
        → inset r other p ≤ℤ gap r q other =
        λ other. short (gap r q other) (gap r q side) (inset r side p) (inset r other p) (gap_above side)
        (weaken (gap_above other)) near in
        let further : (other : Side) → inset r other p ≤ℤ gap r q other
        → (gap r q opposite *ℤ inset r other p) ≤ℤ (gap r q other *ℤ inset r opposite p) =
        λ other h. across (gap r q opposite) (gap r q other) (inset r other p) (inset r opposite p)
        (weaken (gap_above opposite)) (weaken (gap_above other)) h far in
        by_le_z (gap r q back *ℤ inset r side p) (gap r q side *ℤ inset r back p)
        (λ b. by_le_z (gap r q ahead *ℤ inset r side p) (gap r q side *ℤ inset r ahead p)
        (λ a. inl (record { above = insets p f side; below = near; first = b; second = a }))
        (λ a. let h = narrow ahead a in
        inr (inr (record { above = insets p f ahead; below = h; first = a; second = further ahead h }))))
        (λ b. let h = narrow back b in
        inr (inl (record { above = insets p f back; below = h; first = further back h; second = b })))

    abbrev Some : Point → Type 0
    Some p = SectorOf South p ⊎ (SectorOf East p ⊎ (SectorOf North p ⊎ SectorOf West p))

    some_sector : (p : Point) → InFrame p → Some p
    some_sector p f =
        ⊎_elim
        (λ (k : p.v ≤ℤ q.south). ⊎_elim (λ x. inl x) (⊎_elim (λ x. inr (inr (inr x))) (λ x. inr (inl x)))
        (some_beside p f.0 South West East North (omega (arith, ints, k)) (omega (arith, ints, i, k))))
        (⊎_elim
        (λ (k : q.east ≤ℤ p.u). ⊎_elim (λ x. inr (inl x)) (⊎_elim (λ x. inl x) (λ x. inr (inr (inl x))))
        (some_beside p f.0 East South North West (omega (arith, ints, k)) (omega (arith, ints, i, k))))
        (⊎_elim
        (λ (k : q.north ≤ℤ p.v). ⊎_elim (λ x. inr (inr (inl x))) (⊎_elim (λ x. inr (inl x)) (λ x. inr (inr (inr x))))
        (some_beside p f.0 North East West South (omega (arith, ints, k)) (omega (arith, ints, i, k))))
        (λ (k : p.u ≤ℤ q.west). ⊎_elim (λ x. inr (inr (inr x))) (⊎_elim (λ x. inr (inr (inl x))) (λ x. inl x))
        (some_beside p f.0 West North South East (omega (arith, ints, k)) (omega (arith, ints, i, k)))))) f.1

    -- what tiles the four sectors tiles the frame
    pub frame_tiles : {A : Type 0} (at : A → Point) (s e n w : List (Triple A))
        → Tiling at (SectorOf South) (OpenSectorOf South) s → Tiling at (SectorOf East) (OpenSectorOf East) e
        → Tiling at (SectorOf North) (OpenSectorOf North) n → Tiling at (SectorOf West) (OpenSectorOf West) w
        → Tiling at InFrame InsideFrame (s ++ (e ++ (n ++ w)))
    frame_tiles at s e n w hs he hn hw =
        let t = tiling_union at (SectorOf South) (OpenSectorOf South)
        (λ p. SectorOf East p ⊎ (SectorOf North p ⊎ SectorOf West p))
        (λ p. OpenSectorOf East p ⊎ (OpenSectorOf North p ⊎ OpenSectorOf West p)) s (e ++ (n ++ w)) hs
        (tiling_union at (SectorOf East) (OpenSectorOf East) (λ p. SectorOf North p ⊎ SectorOf West p)
        (λ p. OpenSectorOf North p ⊎ OpenSectorOf West p) e (n ++ w) he
        (tiling_union at (SectorOf North) (OpenSectorOf North) (SectorOf West) (OpenSectorOf West) n w hn hw
        (λ p x y. omega (arith, ints, x.second, y.first)))
        (λ p x. ⊎_elim (λ y. omega (arith, ints, x.second, y.first))
        (λ y. omega (arith, ints, x.below, y.below, i))))
        (λ p x. ⊎_elim (λ y. omega (arith, ints, x.second, y.first))
        (⊎_elim (λ y. omega (arith, ints, x.below, y.below, i))
        (λ y. omega (arith, ints, x.first, y.second)))) in
        tiling_same at Some
        (λ p. OpenSectorOf South p ⊎ (OpenSectorOf East p ⊎ (OpenSectorOf North p ⊎ OpenSectorOf West p)))
        InFrame InsideFrame (s ++ (e ++ (n ++ w)))
        (λ p. ⊎_elim (sector_in South p)
        (⊎_elim (sector_in East p) (⊎_elim (sector_in North p) (sector_in West p))))
        some_sector
        (λ p. ⊎_elim (sector_inside South p)
        (⊎_elim (sector_inside East p) (⊎_elim (sector_inside North p) (sector_inside West p)))) t
