-- Places, columns and windows.
use Rattle.std.proofs.Common.{◌≡◌, ℕ, ◌+◌, ◌≤◌, max, arith, refl, inl, inr, subst, sym, ap, ◌∙◌}
use Rattle.std.specs.Prelude.{◌↔◌, ℤ, pos, ◌-ℤ◌, ◌*ℤ◌, unsigned_abs}
use Rattle.std.proofs.lemmas.Int.{ints}
use Rattle.common_laws.proofs.Orders.{by_last}
use Rattle.terrain_base.specs.declared.cell_key.CellKey.{CellKey}
use Rattle.terrain_base.specs.declared.post.Post.{Post}
use Rattle.terrain_base.specs.declared.post.Post.TheVariants.{Void, Metres}
use Rattle.cell_mosaic.specs.Cells.{Cells, post_at}
use Rattle.mesh_plane.specs.declared.corner.Tri.{Tri}
use Rattle.mesh_plane.specs.Plane.{IsTilePoint, TriangleHolds}
use Rattle.mesh_plane.specs.Surface.{lift_of, gap_over, gap_under}
use Rattle.lattice_sweep.specs.declared.axis.Axis.{Axis}
use Rattle.lattice_sweep.specs.Plane.{IsLift}
use Rattle.lattice_sweep.specs.Axis.{point_of, Has, IsOnSide}
use Rattle.lattice_sweep.specs.Sweep.{HeldGap, InColumn, InWindow, IsRaised}
use Rattle.lattice_sweep.proofs.Raising.{raised_same, raised_both, raised_none, raised_is}

pub tile_point : (east north : Axis) (col row : ℕ) (u v : ℤ) → IsOnSide east → IsOnSide north → Has east col → Has north row
    → u ≡ point_of east col → v ≡ point_of north row → IsTilePoint (pos 10125) u v
tile_point east north col row u v e n h k p q =
    let w = e.least col h in let x = e.greatest col h in let y = n.least row k in let z = n.greatest row k in
    record { west = omega (arith, ints, w, p); east = omega (arith, ints, x, p); south = omega (arith, ints, y, q); north = omega (arith, ints, z, q) }

module _ (cells : Cells) (key : CellKey) (col : ℕ) (t : Tri) (u : ℤ) (north : Axis) where
  -- one row more
  pub one_row : (row : ℕ) (v : ℤ) {a b c : ℕ} → Has north row → v ≡ point_of north row
      → IsRaised (InColumn cells key col t u north row) a b → IsRaised (HeldGap cells key col row t u v) b c
      → IsRaised (InColumn cells key col t u north (row + 1)) a c
  one_row row v has e r s =
      raised_both (λ n i. record { row = i.row; has = i.has; before = let b = i.before in omega arith; here = i.here })
      (λ n i. record { row = row; has = has; before = omega arith; here = subst (λ w. HeldGap cells key col row t u w n) e i })
      (λ n i. by_last i.row row i.before
      (λ l. inl (record { row = i.row; has = i.has; before = l; here = i.here }))
      (λ l. inr (subst (λ w. HeldGap cells key col row t u w n) (sym e) (subst (λ k. HeldGap cells key col k t u (point_of north k) n) l i.here))))
      r s

  -- those of some rows that are all that the triangle holds
  module _ (rows : Axis) (held : (i : ℕ) → Has rows i ↔ (Has north i × TriangleHolds (pos 10125) u (point_of north i) t)) where
    -- none before the first of them
    pub no_row : (n : ℕ) → InColumn cells key col t u north rows.from n → ⊥
    no_row n i = let has = (held i.row).1 (i.has, i.here.held) in omega (arith, has.from, i.before)

    -- none at all
    pub no_rows : rows.to ≤ rows.from → (n : ℕ) → InColumn cells key col t u north north.to n → ⊥
    no_rows none n i = let has = (held i.row).1 (i.has, i.here.held) in omega (arith, has.from, has.to, none)

    -- all of them
    pub all_rows : (end : ℕ) {a b : ℕ} → rows.to ≤ end → IsRaised (InColumn cells key col t u north end) a b
        → IsRaised (InColumn cells key col t u north north.to) a b
    all_rows end h r =
        raised_same (λ n i. record { row = i.row; has = i.has; before = i.has.to; here = i.here })
        (λ n i. let has = (held i.row).1 (i.has, i.here.held) in record { row = i.row; has = i.has; before = omega (arith, has.to, h); here = i.here }) r

module _ (cells : Cells) (key : CellKey) (t : Tri) (east north : Axis) where
  -- one column more
  pub one_column : (col : ℕ) {a b c : ℕ} → Has east col → IsRaised (InWindow cells key t east north col) a b
      → IsRaised (InColumn cells key col t (point_of east col) north north.to) b c
      → IsRaised (InWindow cells key t east north (col + 1)) a c
  one_column col has r s =
      raised_both (λ n i. record { col = i.col; row = i.row; has_col = i.has_col; has_row = i.has_row; before = let b = i.before in omega arith; here = i.here })
      (λ n i. record { col = col; row = i.row; has_col = has; has_row = i.has; before = omega arith; here = i.here })
      (λ n i. by_last i.col col i.before
      (λ l. inl (record { col = i.col; row = i.row; has_col = i.has_col; has_row = i.has_row; before = l; here = i.here }))
      (λ l. inr (record { row = i.row; has = i.has_row; before = i.has_row.to; here = subst (λ k. HeldGap cells key k i.row t (point_of east k) (point_of north i.row) n) l i.here })))
      r s

  pub no_column : (n : ℕ) → InWindow cells key t east north east.from n → ⊥
  no_column n i = omega (arith, i.has_col.from, i.before)

  pub all_columns : (end : ℕ) {a b : ℕ} → east.to ≤ end → IsRaised (InWindow cells key t east north end) a b
      → IsRaised (InWindow cells key t east north east.to) a b
  all_columns end h r =
      raised_same (λ n i. record { col = i.col; row = i.row; has_col = i.has_col; has_row = i.has_row; before = i.has_col.to; here = i.here })
      (λ n i. record { col = i.col; row = i.row; has_col = i.has_col; has_row = i.has_row; before = let b = i.before in omega arith; here = i.here }) r

by_post : {P : Type 0} (post : Post) → (post ≡ Void → P) → ((metres : ℤ) → post ≡ Metres metres → P) → P
by_post Void f g = f refl
by_post (Metres metres) f g = g metres refl

module _ (cells : Cells) (key : CellKey) (col row : ℕ) (t : Tri) (u v : ℤ) (given : Post)
    (told : given ≡ post_at cells key col row) where
  -- a void has no gap
  pub no_gap : given ≡ Void → (n : ℕ) → HeldGap cells key col row t u v n → ⊥
  no_gap e n h = let a : Void ≡ Metres h.metres = sym e ∙ told ∙ h.post in cc

  -- a height in metres has one gap
  pub its_gap : (metres lift under : ℤ) (m : ℕ) → given ≡ Metres metres → IsLift t u v lift → under ≡ gap_under t (pos 10125)
      → m ≡ unsigned_abs (lift -ℤ metres *ℤ under) → HeldGap cells key col row t u v m
  its_gap metres lift under m e l a k = record {
    metres = metres;
    post = sym told ∙ e;
    held = l.held;
    size = ap pos (k ∙ ap (λ x. unsigned_abs (x -ℤ metres *ℤ under)) l.value ∙ ap (λ x. unsigned_abs (lift_of t (pos 10125) u v -ℤ metres *ℤ x)) a);
  }

  pub only_gap : (metres : ℤ) (m n : ℕ) → given ≡ Metres metres → HeldGap cells key col row t u v m → HeldGap cells key col row t u v n → n ≡ m
  only_gap metres m n e g h =
      let a : Metres g.metres ≡ Metres h.metres = sym g.post ∙ h.post in
      let b : g.metres ≡ h.metres = cc in
      let c : pos n ≡ pos m = h.size ∙ ap (λ k. gap_over t (pos 10125) u v k) (sym b) ∙ sym g.size in
      omega (arith, ints, c)

  -- raised by its gap, or by the 0 of a void
  pub post_raised : (lift under : ℤ) (gap most : ℕ) → IsLift t u v lift → under ≡ gap_under t (pos 10125) → (given ≡ Void → gap ≡ 0)
      → ((metres : ℤ) → given ≡ Metres metres → gap ≡ unsigned_abs (lift -ℤ metres *ℤ under))
      → IsRaised (HeldGap cells key col row t u v) most (max most gap)
  post_raised lift under gap most is area void metres =
      by_post given
      (λ e.
      let same : most ≡ max most gap = let z = void e in omega (arith, z) in
      subst (λ (k : ℕ). IsRaised (HeldGap cells key col row t u v) most k) same (raised_none (no_gap e)))
      (λ m e.
      let here = its_gap m lift under gap e is area (metres m e) in
      raised_is gap here (λ n h. only_gap m gap n e here h))
