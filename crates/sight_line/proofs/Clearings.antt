-- Where a line is below the surface, it is below it at some break.
use Rattle.std.proofs.Common.{◌≡◌, refl, ap, sym, arith, ◌∙◌, List, [], ◌∷◌, inl, inr, ◌<◌, ℕ, length, get_or}
use Rattle.std.specs.Prelude.{ℤ, pos, ◌+ℤ◌, ◌-ℤ◌, ◌*ℤ◌, ◌≤ℤ◌, ◌<ℤ◌, ◌⊎◌}
use Rattle.std.proofs.lemmas.Int.{ints, by_lt_z}
use Rattle.polynomial.proofs.Expressions.{Expr, var, num, add, sub, mul}
use Rattle.polynomial.proofs.NormalForm.{by_ring}
use Rattle.polynomial.proofs.Signs.{times_pos, factor_pos, weaken}
use Rattle.mesh_plane.specs.declared.corner.Tri.{Tri}
use Rattle.mesh_plane.specs.Plane.{Point, doubled_area, IsCounterClockwise, TriangleHolds}
use Rattle.mesh_plane.specs.Surface.{lift_of}
use Rattle.mesh_query.specs.declared.ratio.Ratio.{Ratio}
use Rattle.mesh_query.specs.Ratios.{ratio, IsFraction, IsBelow}
use Rattle.mesh_query.specs.Way.{way}
use Rattle.mesh_query.specs.Breaks.{MeetsSide}
use Rattle.mesh_query.specs.Crossing.{CrossesAt, Found, First, Last, Crossed}
use Rattle.mesh_query.proofs.Crossings.{each_side, meets_law}
use Rattle.sight_line.specs.Sight.{line_at, IsUnder}
use Rattle.mesh_query.proofs.Forms.{Form, value, mix, value_mix, IsConvex, Exit, Nonneg, reach, mixed_pos, mixed_nonneg}
use Rattle.mesh_query.proofs.Sides.{side_forms, forms_held, held_forms, met_side, lift_form, lift_along}

-- how far the line is above a triangle's plane, times the doubled area
abbrev pub clearance : Point → Point → ℤ → ℤ → Tri → Form
clearance p q a b t = record {
  first = a *ℤ doubled_area t -ℤ (lift_form p q t).first;
  last = b *ℤ doubled_area t -ℤ (lift_form p q t).last;
}

clearance_is : (p q : Point) (a b : ℤ) (t : Tri) (k : Ratio)
    → value (clearance p q a b t) k ≡ (line_at a b k).over *ℤ doubled_area t -ℤ value (lift_form p q t) k
clearance_is p q a b t k =
    let go = λ (x y : Expr). add (mul (sub (var 1) (var 0)) x) (mul (var 0) y) in
    by_ring (go (sub (mul (var 2) (var 4)) (var 5)) (sub (mul (var 3) (var 4)) (var 6)))
    (sub (mul (go (var 2) (var 3)) (var 4)) (go (var 5) (var 6)))
    (k.over ∷ k.under ∷ a ∷ b ∷ doubled_area t ∷ (lift_form p q t).first ∷ (lift_form p q t).last ∷ []) refl

-- the fractions at which the line is below the plane
pub record Under (g : Form) (k : Ratio) : Type 0 where
  pub fraction : IsFraction k
  pub below : value g k <ℤ pos 0

pub under_convex : (g : Form) → IsConvex (Under g)
under_convex g = record {
  above_zero = λ k i. omega (arith, ints, i.fraction.above_zero);
  mixed = λ k m α β x y i j. mixed g k m α β x y i j;
}
  where
    minus_pos : (z : ℤ) → z <ℤ pos 0 → pos 0 <ℤ (pos 0 -ℤ z)
    minus_pos z h = omega (arith, ints)

    mixed : (g : Form) (k m : Ratio) (α β : ℤ) → pos 0 <ℤ α → pos 0 ≤ℤ β → Under g k → Under g m
        → Under g (mix α β k m)
    mixed g k m α β x y i j =
        let up : pos 0 <ℤ (pos 0 -ℤ value g (mix α β k m)) =
        mixed_pos α β (pos 0 -ℤ value g k) (pos 0 -ℤ value g m) (pos 0 -ℤ value g (mix α β k m)) x y
        (minus_pos (value g k) i.below) (weaken (minus_pos (value g m) j.below))
        (ap (λ z. pos 0 -ℤ z) (value_mix g α β k m)
        ∙ by_ring (sub (num 0) (add (mul (var 0) (var 2)) (mul (var 1) (var 3))))
        (add (mul (var 0) (sub (num 0) (var 2))) (mul (var 1) (sub (num 0) (var 3))))
        (α ∷ β ∷ value g k ∷ value g m ∷ []) refl) in
        let z : pos 0 <ℤ (α *ℤ k.under +ℤ β *ℤ m.under) =
        mixed_pos α β k.under m.under (α *ℤ k.under +ℤ β *ℤ m.under) x y
        (omega (arith, ints, i.fraction.above_zero)) (omega (arith, ints, j.fraction.above_zero)) refl in
        let h : pos 0 ≤ℤ ((α *ℤ k.under +ℤ β *ℤ m.under) -ℤ (α *ℤ k.over +ℤ β *ℤ m.over)) =
        mixed_nonneg α β (k.under -ℤ k.over) (m.under -ℤ m.over)
        ((α *ℤ k.under +ℤ β *ℤ m.under) -ℤ (α *ℤ k.over +ℤ β *ℤ m.over)) (weaken x) y
        (omega (arith, ints, i.fraction.high)) (omega (arith, ints, j.fraction.high))
        (by_ring
        (sub (add (mul (var 0) (var 3)) (mul (var 1) (var 5))) (add (mul (var 0) (var 2)) (mul (var 1) (var 4))))
        (add (mul (var 0) (sub (var 3) (var 2))) (mul (var 1) (sub (var 5) (var 4))))
        (α ∷ β ∷ k.over ∷ k.under ∷ m.over ∷ m.under ∷ []) refl) in
        record {
          fraction = record {
            above_zero = omega (arith, ints, z);
            low = mixed_nonneg α β k.over m.over (α *ℤ k.over +ℤ β *ℤ m.over) (weaken x) y i.fraction.low
                j.fraction.low refl;
            high = omega (arith, ints, h);
          };
          below = omega (arith, ints, up);
        }

module _ (ts : List Tri) (p q : Point) (a b : ℤ) (i : ℕ) (t : Tri) (low : i < length ts)
    (is : get_or ts i t ≡ t) (ccw : IsCounterClockwise t) where
  -- a triangle that holds the point shows the line below the surface
  shown : (k : Ratio) → Under (clearance p q a b t) k → Nonneg (side_forms p q t) k → IsUnder ts p a q b k
  shown k u n =
      let w = way p q k in let d = doubled_area t in let l = lift_of t k.under w.u w.v in
      let up : pos 0 <ℤ k.under = omega (arith, ints, u.fraction.above_zero) in
      let gap : pos 0 <ℤ (l -ℤ (line_at a b k).over *ℤ d) =
      omega (arith, ints, u.below, clearance_is p q a b t k, lift_along p q t k) in
      let grown : pos 0 <ℤ (k.under *ℤ (l -ℤ (line_at a b k).over *ℤ d)) =
      times_pos k.under (l -ℤ (line_at a b k).over *ℤ d) up gap in
      let same : k.under *ℤ (l -ℤ (line_at a b k).over *ℤ d)
      ≡ l *ℤ k.under -ℤ (line_at a b k).over *ℤ (k.under *ℤ d) =
      by_ring (mul (var 0) (sub (var 1) (mul (var 2) (var 3))))
      (sub (mul (var 1) (var 0)) (mul (var 2) (mul (var 0) (var 3))))
      (k.under ∷ l ∷ (line_at a b k).over ∷ d ∷ []) refl in
      record {
        height = ratio l (k.under *ℤ d);
        surface = record {
          above_zero = times_pos k.under d up ccw;
          shown = (i, t, low, is, (held_forms p q t k n, refl));
        };
        below = omega (arith, ints, grown, same);
      }

  -- from such a fraction to an end of the way at which the line is below the plane
  towards : (k e : Ratio) → Under (clearance p q a b t) k → Nonneg (side_forms p q t) k
      → Under (clearance p q a b t) e → Found ts p q e
      → (m : Ratio) × IsFraction m × Found ts p q m × IsUnder ts p a q b m
  towards k e u n v cause =
      go (reach (Under (clearance p q a b t)) (under_convex (clearance p q a b t)) (side_forms p q t) k e u v n)
    where
      go : Nonneg (side_forms p q t) e
          ⊎ Exit (Under (clearance p q a b t)) (under_convex (clearance p q a b t)) (side_forms p q t)
          → (m : Ratio) × IsFraction m × Found ts p q m × IsUnder ts p a q b m
      go (inl x) = (e, v.fraction, cause, shown e v x)
      go (inr x) = (
        x.exit,
        x.inside.fraction,
        Crossed (
          i,
          t,
          low,
          is,
          each_side (MeetsSide p q x.exit) (CrossesAt p q x.exit)
              (λ c d h. (meets_law p q x.exit c d x.inside.fraction).0 h) t
              (met_side p q t x.exit (omega (arith, ints, x.inside.fraction.above_zero)) ccw x.nonneg x.turns),
        ),
        shown x.exit x.inside x.nonneg,
      )

  at_start : (g : Form) → value g (ratio (pos 0) (pos 1)) ≡ g.first
  at_start g =
      by_ring (add (mul (sub (num 1) (num 0)) (var 0)) (mul (num 0) (var 1))) (var 0) (g.first ∷ g.last ∷ []) refl

  at_end : (g : Form) → value g (ratio (pos 1) (pos 1)) ≡ g.last
  at_end g =
      by_ring (add (mul (sub (num 1) (num 1)) (var 0)) (mul (num 1) (var 1))) (var 1) (g.first ∷ g.last ∷ []) refl

  -- below at a fraction, so below at one of the ends
  pub found : (k h : Ratio) → IsFraction k → pos 0 <ℤ h.under → TriangleHolds k.under (way p q k).u (way p q k).v t
      → lift_of t k.under (way p q k).u (way p q k).v *ℤ h.under ≡ h.over *ℤ (k.under *ℤ doubled_area t)
      → IsBelow (line_at a b k) h → (m : Ratio) × IsFraction m × Found ts p q m × IsUnder ts p a q b m
  found k h f hu held level below =
      let g = clearance p q a b t in let d = doubled_area t in
      let l = lift_of t k.under (way p q k).u (way p q k).v in let z = (line_at a b k).over in
      let n = forms_held p q t k held in
      let grown : pos 0 <ℤ (d *ℤ (h.over *ℤ k.under -ℤ z *ℤ h.under)) =
      times_pos d (h.over *ℤ k.under -ℤ z *ℤ h.under) ccw (omega (arith, ints, below)) in
      let same : d *ℤ (h.over *ℤ k.under -ℤ z *ℤ h.under) ≡ h.under *ℤ (l -ℤ z *ℤ d) =
      by_ring (mul (var 0) (sub (mul (var 1) (var 2)) (mul (var 3) (var 4))))
      (sub (mul (var 1) (mul (var 2) (var 0))) (mul (mul (var 0) (var 3)) (var 4)))
      (d ∷ h.over ∷ k.under ∷ z ∷ h.under ∷ []) refl
      ∙ ap (λ y. y -ℤ (d *ℤ z) *ℤ h.under) (sym level)
      ∙ by_ring (sub (mul (var 3) (var 2)) (mul (mul (var 0) (var 1)) (var 2)))
      (mul (var 2) (sub (var 3) (mul (var 1) (var 0)))) (d ∷ z ∷ h.under ∷ l ∷ []) refl in
      let gap : pos 0 <ℤ (l -ℤ z *ℤ d) = factor_pos h.under (l -ℤ z *ℤ d) hu (omega (arith, ints, grown, same)) in
      let u : Under g k = record {
        fraction = f;
        below = omega (arith, ints, gap, clearance_is p q a b t k, lift_along p q t k);
      } in
      by_lt_z g.first (pos 0)
      (λ x. towards k (ratio (pos 0) (pos 1)) u n
      (record {
        fraction = omega (arith, ints);
        below = omega (arith, ints, x, at_start g);
      })
      (First refl))
      (λ x. by_lt_z g.last (pos 0)
      (λ y. towards k (ratio (pos 1) (pos 1)) u n
      (record {
        fraction = omega (arith, ints);
        below = omega (arith, ints, y, at_end g);
      })
      (Last refl))
      (λ y. absurd (omega (
        arith,
        ints,
        u.below,
        mixed_nonneg (k.under -ℤ k.over) k.over g.first g.last (value g k) (omega (arith, ints, f.high)) f.low x y
            refl,
      ))))
