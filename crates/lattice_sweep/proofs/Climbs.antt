-- Sides and lifts of a triangle from row to row of a column.
use Rattle.std.proofs.Common.{◌≡◌, ℕ, ◌+◌, ◌-◌, ◌<◌, ◌≤◌, arith, refl, [], ◌∷◌, sym, ap, ◌∙◌, subst}
use Rattle.std.specs.Prelude.{◌↔◌, ℤ, pos, ◌+ℤ◌, ◌-ℤ◌, ◌*ℤ◌, ◌≤ℤ◌, ◌<ℤ◌}
use Rattle.std.specs.Int.{int_min}
use Rattle.std.proofs.lemmas.Int.{ints, clamps, by_lt_z}
use Rattle.polynomial.proofs.Expressions.{var, num, add, sub, mul}
use Rattle.polynomial.proofs.NormalForm.{by_ring}
use Rattle.polynomial.proofs.Signs.{times_nonneg}
use Rattle.mesh_plane.specs.declared.corner.Corner.{Corner}
use Rattle.mesh_plane.specs.declared.corner.Tri.{Tri}
use Rattle.mesh_plane.specs.Plane.{side_of, TriangleHolds}
use Rattle.mesh_plane.specs.Surface.{lift_of}
use Rattle.lattice_sweep.specs.declared.axis.Axis.{Axis}
use Rattle.lattice_sweep.specs.Axis.{point_of, Has, IsOnSide}
use Rattle.lattice_sweep.proofs.Areas.{side_expr}

-- what a number has exactly where it is one of some and of a form
pub by_form : {K H F N : Type 0} → (K ↔ (H × N)) → (H → F ↔ N) → K ↔ (H × F)
by_form p q = (λ k. let h = p.0 k in (h.0, (q h.0).1 h.1), λ h. p.1 (h.0, (q h.0).0 h.1))

module _ (start rise : ℤ) (base : ℕ) where
  abbrev pub form_at : ℕ → ℤ
  form_at i = start +ℤ rise *ℤ (pos i -ℤ pos base)

  -- a rising form is not below 0 from a number on
  pub rising : (b : ℕ) → ((k : ℕ) → (pos 0 ≤ℤ (start +ℤ rise *ℤ pos k)) ↔ (b ≤ k)) → (i : ℕ) → base ≤ i
      → (pos 0 ≤ℤ form_at i) ↔ (base + b ≤ i)
  rising b h i l =
      let e : pos (i - base) ≡ pos i -ℤ pos base = omega (arith, ints, l) in
      let p = h (i - base) in (
        λ m. let q = p.0 (subst (λ (z : ℤ). pos 0 ≤ℤ (start +ℤ rise *ℤ z)) (sym e) m) in omega (arith, l, q),
        λ m. subst (λ (z : ℤ). pos 0 ≤ℤ (start +ℤ rise *ℤ z)) e (p.1 (omega (arith, m))),
      )

  -- a falling one before a number
  pub falling : (b : ℕ) → ((k : ℕ) → (pos 1 ≤ℤ ((pos 0 -ℤ start) +ℤ (pos 0 -ℤ rise) *ℤ pos k)) ↔ (b ≤ k)) → (i : ℕ) → base ≤ i
      → (pos 0 ≤ℤ form_at i) ↔ (i < base + b)
  falling b h i l =
      let e : pos (i - base) ≡ pos i -ℤ pos base = omega (arith, ints, l) in
      let p = h (i - base) in
      let turned : (pos 0 -ℤ start) +ℤ (pos 0 -ℤ rise) *ℤ (pos i -ℤ pos base) ≡ pos 0 -ℤ form_at i =
      by_ring (add (sub (num 0) (var 0)) (mul (sub (num 0) (var 1)) (sub (var 2) (var 3)))) (sub (num 0) (add (var 0) (mul (var 1) (sub (var 2) (var 3)))))
      (start ∷ rise ∷ pos i ∷ pos base ∷ []) refl in
      let moved : (pos 0 -ℤ start) +ℤ (pos 0 -ℤ rise) *ℤ pos (i - base) ≡ pos 0 -ℤ form_at i =
      ap (λ (z : ℤ). (pos 0 -ℤ start) +ℤ (pos 0 -ℤ rise) *ℤ z) e ∙ turned in (
        λ m. by_lt_z (pos i) (pos (base + b)) (λ n. omega (arith, ints, n))
            (λ n. let q = p.1 (omega (arith, ints, n)) in absurd (below (form_at i) m (subst (λ (z : ℤ). pos 1 ≤ℤ z) moved q))),
        λ m. by_lt_z (form_at i) (pos 0)
            (λ n. let q = p.0 (subst (λ (z : ℤ). pos 1 ≤ℤ z) (sym moved) (above (form_at i) n)) in absurd (omega (arith, m, q, l)))
            (λ n. n),
      )
    where
      below : (z : ℤ) → pos 0 ≤ℤ z → pos 1 ≤ℤ (pos 0 -ℤ z) → ⊥
      below z h k = omega (arith, ints, h, k)

      above : (z : ℤ) → z <ℤ pos 0 → pos 1 ≤ℤ (pos 0 -ℤ z)
      above z h = omega (arith, ints, h)

  -- a level one is so everywhere or nowhere
  pub level : rise ≡ pos 0 → (i : ℕ) → form_at i ≡ start
  level e i = ap (λ (z : ℤ). start +ℤ z *ℤ (pos i -ℤ pos base)) e ∙ by_ring (add (var 0) (mul (num 0) (var 1))) (var 0) (start ∷ (pos i -ℤ pos base) ∷ []) refl

-- a side changes by the same from row to row
pub side_up : (a b : Corner) (s u v d k : ℤ) → side_of a b s u (v +ℤ d *ℤ k) ≡ side_of a b s u v +ℤ ((b.u -ℤ a.u) *ℤ d) *ℤ k
side_up a b s u v d k =
    by_ring (side_expr (var 0) (var 1) (var 2) (var 3) (var 4) (var 5) (add (var 6) (mul (var 7) (var 8))))
    (add (side_expr (var 0) (var 1) (var 2) (var 3) (var 4) (var 5) (var 6)) (mul (mul (sub (var 2) (var 0)) (var 7)) (var 8)))
    (a.u ∷ a.v ∷ b.u ∷ b.v ∷ s ∷ u ∷ v ∷ d ∷ k ∷ []) refl

side_next : (a b : Corner) (s u v d : ℤ) → side_of a b s u (v +ℤ d) ≡ side_of a b s u v +ℤ (b.u -ℤ a.u) *ℤ d
side_next a b s u v d =
    by_ring (side_expr (var 0) (var 1) (var 2) (var 3) (var 4) (var 5) (add (var 6) (var 7)))
    (add (side_expr (var 0) (var 1) (var 2) (var 3) (var 4) (var 5) (var 6)) (mul (sub (var 2) (var 0)) (var 7)))
    (a.u ∷ a.v ∷ b.u ∷ b.v ∷ s ∷ u ∷ v ∷ d ∷ []) refl

-- and so does the lift
lifts : (ha hb hc x y z dx dy dz : ℤ) → (ha *ℤ (x +ℤ dx) +ℤ hb *ℤ (y +ℤ dy)) +ℤ hc *ℤ (z +ℤ dz)
    ≡ ((ha *ℤ x +ℤ hb *ℤ y) +ℤ hc *ℤ z) +ℤ ((ha *ℤ dx +ℤ hb *ℤ dy) +ℤ hc *ℤ dz)
lifts ha hb hc x y z dx dy dz =
    by_ring (add (add (mul (var 0) (add (var 3) (var 6))) (mul (var 1) (add (var 4) (var 7)))) (mul (var 2) (add (var 5) (var 8))))
    (add (add (add (mul (var 0) (var 3)) (mul (var 1) (var 4))) (mul (var 2) (var 5))) (add (add (mul (var 0) (var 6)) (mul (var 1) (var 7))) (mul (var 2) (var 8))))
    (ha ∷ hb ∷ hc ∷ x ∷ y ∷ z ∷ dx ∷ dy ∷ dz ∷ []) refl

pub lift_up : (t : Tri) (s u v d : ℤ) → lift_of t s u (v +ℤ d)
    ≡ lift_of t s u v +ℤ ((t.a.h *ℤ ((t.c.u -ℤ t.b.u) *ℤ d) +ℤ t.b.h *ℤ ((t.a.u -ℤ t.c.u) *ℤ d)) +ℤ t.c.h *ℤ ((t.b.u -ℤ t.a.u) *ℤ d))
lift_up t s u v d =
    ap (λ (x : ℤ). (t.a.h *ℤ x +ℤ t.b.h *ℤ side_of t.c t.a s u (v +ℤ d)) +ℤ t.c.h *ℤ side_of t.a t.b s u (v +ℤ d)) (side_next t.b t.c s u v d)
    ∙ ap (λ (y : ℤ). (t.a.h *ℤ (side_of t.b t.c s u v +ℤ (t.c.u -ℤ t.b.u) *ℤ d) +ℤ t.b.h *ℤ y) +ℤ t.c.h *ℤ side_of t.a t.b s u (v +ℤ d)) (side_next t.c t.a s u v d)
    ∙ ap (λ (z : ℤ). (t.a.h *ℤ (side_of t.b t.c s u v +ℤ (t.c.u -ℤ t.b.u) *ℤ d) +ℤ t.b.h *ℤ (side_of t.c t.a s u v +ℤ (t.a.u -ℤ t.c.u) *ℤ d)) +ℤ t.c.h *ℤ z) (side_next t.a t.b s u v d)
    ∙ lifts t.a.h t.b.h t.c.h (side_of t.b t.c s u v) (side_of t.c t.a s u v) (side_of t.a t.b s u v)
    ((t.c.u -ℤ t.b.u) *ℤ d) ((t.a.u -ℤ t.c.u) *ℤ d) ((t.b.u -ℤ t.a.u) *ℤ d)

-- an axis that has a point has its first
pub lowest : (axis : Axis) → axis.from < axis.to → Has axis axis.from
lowest axis some = record { from = omega arith; to = some }

-- two rows on the tile are a step of at most the tile's side apart
step_fits : (north : Axis) (base i : ℕ) → IsOnSide north → Has north base → Has north i → base < i → north.step ≤ℤ pos 331765875
step_fits north base i on has has_i l =
    let low = on.least base has in
    let high = on.greatest i has_i in
    let forwards = on.axis.forwards in
    let p = times_nonneg north.step (pos i -ℤ (pos base +ℤ pos 1)) (omega (arith, ints, forwards)) (omega (arith, ints, l)) in
    let r = by_ring (mul (var 0) (sub (var 1) (add (var 2) (num 1)))) (sub (sub (mul (var 0) (var 1)) (mul (var 0) (var 2))) (var 0)) (north.step ∷ pos i ∷ pos base ∷ []) refl in
    omega (arith, ints, low, high, p, r)

pub point_up : (north : Axis) (base i : ℕ) (step : ℤ) → IsOnSide north → Has north base → Has north i → base ≤ i
    → step ≡ int_min north.step (pos 331765875) → point_of north i ≡ point_of north base +ℤ step *ℤ (pos i -ℤ pos base)
point_up north base i step on has has_i l e =
    by_lt_z (pos base) (pos i)
    (λ m.
    let fits = step_fits north base i on has has_i (omega (arith, ints, m)) in
    let same : step ≡ north.step = omega (arith, ints, clamps, e, fits) in
    subst (λ (z : ℤ). point_of north i ≡ point_of north base +ℤ z *ℤ (pos i -ℤ pos base)) (sym same)
    (by_ring (add (var 0) (mul (var 1) (var 2))) (add (add (var 0) (mul (var 1) (var 3))) (mul (var 1) (sub (var 2) (var 3)))) (north.first ∷ north.step ∷ pos i ∷ pos base ∷ []) refl))
    (λ m.
    let same : base ≡ i = omega (arith, ints, m, l) in
    subst (λ (k : ℕ). point_of north k ≡ point_of north base +ℤ step *ℤ (pos k -ℤ pos base)) same
    (by_ring (add (var 0) (mul (var 1) (var 2))) (add (add (var 0) (mul (var 1) (var 2))) (mul (var 3) (sub (var 2) (var 2)))) (north.first ∷ north.step ∷ pos base ∷ step ∷ []) refl))

-- the next row
pub next_point : (north : Axis) (i : ℕ) (step : ℤ) → IsOnSide north → Has north i → Has north (i + 1)
    → step ≡ int_min north.step (pos 331765875) → point_of north (i + 1) ≡ point_of north i +ℤ step
next_point north i step on has next e =
    point_up north i (i + 1) step on has next (omega arith) e
    ∙ ap (λ (z : ℤ). point_of north i +ℤ z) (by_ring (mul (var 0) (sub (add (var 1) (num 1)) (var 1))) (var 0) (step ∷ pos i ∷ []) refl)

-- a side in the column
pub side_at : (a b : Corner) (u : ℤ) (north : Axis) (i : ℕ) (v step start rise : ℤ) → IsOnSide north → Has north north.from → Has north i
    → v ≡ point_of north north.from → step ≡ int_min north.step (pos 331765875) → start ≡ side_of a b (pos 10125) u v
    → rise ≡ (b.u -ℤ a.u) *ℤ step
    → side_of a b (pos 10125) u (point_of north i) ≡ start +ℤ rise *ℤ (pos i -ℤ pos north.from)
side_at a b u north i v step start rise on has has_i v_is step_is start_is rise_is =
    let up : point_of north i ≡ v +ℤ step *ℤ (pos i -ℤ pos north.from) =
    point_up north north.from i step on has has_i has_i.from step_is ∙ ap (λ (z : ℤ). z +ℤ step *ℤ (pos i -ℤ pos north.from)) (sym v_is) in
    ap (λ (z : ℤ). side_of a b (pos 10125) u z) up
    ∙ side_up a b (pos 10125) u v step (pos i -ℤ pos north.from)
    ∙ ap (λ (z : ℤ). z +ℤ ((b.u -ℤ a.u) *ℤ step) *ℤ (pos i -ℤ pos north.from)) (sym start_is)
    ∙ ap (λ (z : ℤ). start +ℤ z *ℤ (pos i -ℤ pos north.from)) (sym rise_is)

-- the rows on the right sides of all three
module _ (t : Tri) (u : ℤ) (north by_ab by_bc by_ca : Axis) (v step ab bc ca ab_rise bc_rise ca_rise : ℤ) (on : IsOnSide north) (some : north.from < north.to)
    (v_is : v ≡ point_of north north.from) (step_is : step ≡ int_min north.step (pos 331765875))
    (ab_is : ab ≡ side_of t.a t.b (pos 10125) u v) (bc_is : bc ≡ side_of t.b t.c (pos 10125) u v) (ca_is : ca ≡ side_of t.c t.a (pos 10125) u v)
    (ab_up : ab_rise ≡ (t.b.u -ℤ t.a.u) *ℤ step) (bc_up : bc_rise ≡ (t.c.u -ℤ t.b.u) *ℤ step) (ca_up : ca_rise ≡ (t.a.u -ℤ t.c.u) *ℤ step)
    (kept_ab : (i : ℕ) → Has by_ab i ↔ (Has north i × (pos 0 ≤ℤ (ab +ℤ ab_rise *ℤ (pos i -ℤ pos north.from)))))
    (kept_bc : (i : ℕ) → Has by_bc i ↔ (Has by_ab i × (pos 0 ≤ℤ (bc +ℤ bc_rise *ℤ (pos i -ℤ pos north.from)))))
    (kept_ca : (i : ℕ) → Has by_ca i ↔ (Has by_bc i × (pos 0 ≤ℤ (ca +ℤ ca_rise *ℤ (pos i -ℤ pos north.from))))) where
  first_row : Has north north.from
  first_row = lowest north some

  pub held_is : (i : ℕ) → Has by_ca i ↔ (Has north i × TriangleHolds (pos 10125) u (point_of north i) t)
  held_is i = (
    λ h.
        let third = (kept_ca i).0 h in
        let second = (kept_bc i).0 third.0 in
        let first = (kept_ab i).0 second.0 in (
          first.0,
          record {
            ab = subst (λ (z : ℤ). pos 0 ≤ℤ z) (sym (side_at t.a t.b u north i v step ab ab_rise on first_row first.0 v_is step_is ab_is ab_up)) first.1;
            bc = subst (λ (z : ℤ). pos 0 ≤ℤ z) (sym (side_at t.b t.c u north i v step bc bc_rise on first_row first.0 v_is step_is bc_is bc_up)) second.1;
            ca = subst (λ (z : ℤ). pos 0 ≤ℤ z) (sym (side_at t.c t.a u north i v step ca ca_rise on first_row first.0 v_is step_is ca_is ca_up)) third.1;
          },
        ),
    λ h.
        let first = (kept_ab i).1 (h.0, subst (λ (z : ℤ). pos 0 ≤ℤ z) (side_at t.a t.b u north i v step ab ab_rise on first_row h.0 v_is step_is ab_is ab_up) h.1.ab) in
        let second = (kept_bc i).1 (first, subst (λ (z : ℤ). pos 0 ≤ℤ z) (side_at t.b t.c u north i v step bc bc_rise on first_row h.0 v_is step_is bc_is bc_up) h.1.bc) in
        (kept_ca i).1 (second, subst (λ (z : ℤ). pos 0 ≤ℤ z) (side_at t.c t.a u north i v step ca ca_rise on first_row h.0 v_is step_is ca_is ca_up) h.1.ca),
  )
