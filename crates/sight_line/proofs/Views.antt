-- Sight by the two ends and by the triangles.
use Rattle.std.proofs.Common.{refl, ap, sym, subst, arith, ◌∙◌, List, [], ◌∷◌, inl, inr}
use Rattle.std.specs.Prelude.{ℤ, pos, ◌-ℤ◌, ◌*ℤ◌, ◌≤ℤ◌, ◌<ℤ◌, ◌⊎◌, Any}
use Rattle.std.proofs.lemmas.Int.{ints}
use Rattle.polynomial.proofs.Expressions.{var, num, mul}
use Rattle.polynomial.proofs.NormalForm.{by_ring}
use Rattle.mesh_plane.specs.declared.corner.Corner.{Corner}
use Rattle.mesh_plane.specs.declared.corner.Tri.{Tri}
use Rattle.mesh_plane.specs.Plane.{Point, side_of}
use Rattle.mesh_plane.specs.Surface.{Surface}
use Rattle.mesh_plane.specs.Cover.{Covers}
use Rattle.mesh_query.specs.declared.crossing.Crossing.{Crossing}
use Rattle.mesh_query.specs.declared.crossing.Place.{Place}
use Rattle.mesh_query.specs.declared.ratio.Ratio.{Ratio}
use Rattle.mesh_query.specs.Ratios.{ratio, IsFraction, IsBelow}
use Rattle.mesh_query.specs.Ends.{IsStart}
use Rattle.mesh_query.specs.Found.{at_place}
use Rattle.mesh_query.specs.Breaks.{AnySide}
use Rattle.mesh_query.specs.Crossing.{CrossesOut, CrossesAt, crossing, side_height, HasSide, Found, First, Last, Crossed}
use Rattle.mesh_query.proofs.SideHeights.{side_height_law}
use Rattle.mesh_query.proofs.EndSurfaces.{start_surface, end_surface}
use Rattle.sight_line.specs.Sight.{line_at, IsClear, IsUnder}
use Rattle.sight_line.specs.Hidden.{IsCut, Hides}
use Rattle.sight_line.proofs.Sights.{sight_law}
use Rattle.sight_line.proofs.Unders.{under_at, not_below}

part : (m n : ℤ) → pos 0 ≤ℤ m → n ≤ℤ pos 0 → n <ℤ m → IsFraction (ratio m (m -ℤ n))
part m n h i j = record {
  above_zero = omega (arith, ints);
  low = h;
  high = omega (arith, ints);
}

-- a crossing is a fraction of the way
crossing_fraction : (p q : Point) (c d : Corner) → CrossesOut p q c d → IsFraction (crossing p q c d)
crossing_fraction p q c d h =
    part (side_of c d (pos 1) p.u p.v) (side_of c d (pos 1) q.u q.v) h.from h.to h.turns

nought : (d : ℤ) → pos 0 <ℤ d → IsFraction (ratio (pos 0) d)
nought d h = record { above_zero = omega (arith, ints); low = omega (arith, ints); high = omega (arith, ints) }

whole : (d : ℤ) → pos 0 <ℤ d → IsFraction (ratio d d)
whole d h = record { above_zero = omega (arith, ints); low = omega (arith, ints); high = omega (arith, ints) }

-- the surface has this height at a place
pub record IsLevel (ts : List Tri) (p : Point) (height under : ℤ) : Type 0 where
  pub above_zero : pos 0 <ℤ under
  pub surface : Surface ts (pos 1) p.u p.v height under

module _ (ts : List Tri) (p q : Point) (a b : ℤ) (cover : Covers ts) where
  abbrev Beside : Corner → Corner → Tri → Type 0
  Beside c d t = HasSide c d t ⊎ HasSide d c t

  -- where the line is below the surface at a crossing, it is below the side there
  cut : (k : Ratio) → IsFraction k → IsUnder ts p a q b k → (c d : Corner) → Any (Beside c d) ts → Any (Beside d c) ts
      → CrossesAt p q k c d → IsCut p a q b c d
  cut k f u c d h i (inl x) = inl (record {
    crosses = x.0;
    below = under_at ts p q a b k (crossing p q c d) (side_height p q c d) cover f (crossing_fraction p q c d x.0) x.1
        (side_height_law ts p q c d cover.counter_clockwise h x.0) u;
  })
  cut k f u c d h i (inr x) = inr (record {
    crosses = x.0;
    below = under_at ts p q a b k (crossing p q d c) (side_height p q d c) cover f (crossing_fraction p q d c x.0) x.1
        (side_height_law ts p q d c cover.counter_clockwise i x.0) u;
  })

  -- and it is not, where sight is clear
  uncut : IsClear ts p a q b → (c d : Corner) → Any (Beside c d) ts → Any (Beside d c) ts → IsCut p a q b c d → ⊥
  uncut clear c d h i (inl x) =
      not_below ts p q a b (crossing p q c d) (side_height p q c d) clear (crossing_fraction p q c d x.crosses)
      (side_height_law ts p q c d cover.counter_clockwise h x.crosses) x.below
  uncut clear c d h i (inr x) =
      not_below ts p q a b (crossing p q d c) (side_height p q d c) clear (crossing_fraction p q d c x.crosses)
      (side_height_law ts p q d c cover.counter_clockwise i x.crosses) x.below

  -- each side of each triangle
  of_sides : (P Q : Corner → Corner → Type 0)
      → ((c d : Corner) → Any (Beside c d) ts → Any (Beside d c) ts → P c d → Q c d)
      → Any (AnySide P) ts → Any (AnySide Q) ts
  of_sides P Q f x = (x.0, x.1, x.2, x.3, go x.4)
    where
      at : (c d : Corner) → Beside c d x.1 → Any (Beside c d) ts
      at c d h = (x.0, x.1, x.2, x.3, h)

      go : AnySide P x.1 → AnySide Q x.1
      go (inl y) =
          inl (f x.1.a x.1.b (at x.1.a x.1.b (inl (inl (refl, refl)))) (at x.1.b x.1.a (inr (inl (refl, refl)))) y)
      go (inr (inl y)) =
          inr (inl (f x.1.b x.1.c (at x.1.b x.1.c (inl (inr (inl (refl, refl)))))
          (at x.1.c x.1.b (inr (inr (inl (refl, refl))))) y))
      go (inr (inr y)) =
          inr (inr (f x.1.c x.1.a (at x.1.c x.1.a (inl (inr (inr (refl, refl)))))
          (at x.1.a x.1.c (inr (inr (inr (refl, refl))))) y))

  pub to_clear : (n d m e : ℤ) → IsLevel ts p n d → IsLevel ts q m e
      → ¬ IsBelow (line_at a b (ratio (pos 0) d)) (ratio n d) → ¬ IsBelow (line_at a b (ratio e e)) (ratio m e)
      → ¬ Any (Hides p a q b) ts → IsClear ts p a q b
  to_clear n d m e first last no_first no_last none =
      (sight_law ts p q a b cover).1 (λ k f found u. go k f u found)
    where
      go : (k : Ratio) → IsFraction k → IsUnder ts p a q b k → Found ts p q k → ⊥
      go k f u (First z) =
          no_first (under_at ts p q a b k (ratio (pos 0) d) (ratio n d) cover f (nought d first.above_zero)
          (ap (λ x. x *ℤ d) z
          ∙ by_ring (mul (num 0) (var 0)) (mul (num 0) (var 1)) (d ∷ k.under ∷ []) refl)
          (start_surface ts p q n d first.above_zero first.surface) u)
      go k f u (Last z) =
          no_last (under_at ts p q a b k (ratio e e) (ratio m e) cover f (whole e last.above_zero)
          (ap (λ x. x *ℤ e) z
          ∙ by_ring (mul (var 0) (var 1)) (mul (var 1) (var 0)) (k.under ∷ e ∷ []) refl)
          (end_surface ts p q m e last.above_zero last.surface) u)
      go k f u (Crossed x) = none (of_sides (CrossesAt p q k) (IsCut p a q b) (cut k f u) x)

  pub clear_first : (n d : ℤ) → IsClear ts p a q b → IsLevel ts p n d
      → IsBelow (line_at a b (ratio (pos 0) d)) (ratio n d) → ⊥
  clear_first n d clear h l =
      not_below ts p q a b (ratio (pos 0) d) (ratio n d) clear (nought d h.above_zero)
      (start_surface ts p q n d h.above_zero h.surface) l

  pub clear_last : (m e : ℤ) → IsClear ts p a q b → IsLevel ts q m e
      → IsBelow (line_at a b (ratio e e)) (ratio m e) → ⊥
  clear_last m e clear h l =
      not_below ts p q a b (ratio e e) (ratio m e) clear (whole e h.above_zero)
      (end_surface ts p q m e h.above_zero h.surface) l

  pub clear_sides : IsClear ts p a q b → Any (Hides p a q b) ts → ⊥
  clear_sides clear x = go (of_sides (IsCut p a q b) (λ c d. ⊥) (uncut clear) x)
    where
      go : Any (AnySide (λ c d. ⊥)) ts → ⊥
      go y = none y.4
        where
          none : ⊥ ⊎ (⊥ ⊎ ⊥) → ⊥
          none (inl z) = z
          none (inr (inl z)) = z
          none (inr (inr z)) = z

-- ---- the same of what is worked out
module _ (ts : List Tri) (from to : Place) (a b : ℤ) (cover : Covers ts) where
  abbrev p : Point
  p = at_place from

  abbrev q : Point
  q = at_place to

  abbrev pub Dips : Crossing → Type 0
  Dips c = IsBelow (line_at a b (ratio c.over c.under)) (ratio c.height c.under)

  level : (place : Place) (c : Crossing) → IsStart ts place c → IsLevel ts (at_place place) c.height c.under
  level place c h = record { above_zero = h.above_zero; surface = h.surface }

  at_first : (c : Crossing) → IsStart ts from c → Dips c → IsBelow (line_at a b (ratio (pos 0) c.under)) (ratio c.height c.under)
  at_first c h l = subst (λ (o : ℤ). IsBelow (line_at a b (ratio o c.under)) (ratio c.height c.under)) h.nought l

  from_first : (c : Crossing) → IsStart ts from c → IsBelow (line_at a b (ratio (pos 0) c.under)) (ratio c.height c.under)
      → Dips c
  from_first c h l = subst (λ (o : ℤ). IsBelow (line_at a b (ratio o c.under)) (ratio c.height c.under)) (sym h.nought) l

  pub dip_first : (c : Crossing) → IsStart ts from c → Dips c → IsClear ts p a q b → ⊥
  dip_first c h l clear = clear_first ts p q a b cover c.height c.under clear (level from c h) (at_first c h l)

  pub dip_last : (c : Crossing) → IsStart ts to c → Dips (record { over = c.under; under = c.under; height = c.height })
      → IsClear ts p a q b → ⊥
  dip_last c h l clear = clear_last ts p q a b cover c.height c.under clear (level to c h) l

  pub dip_side : Any (Hides p a q b) ts → IsClear ts p a q b → ⊥
  dip_side x clear = clear_sides ts p q a b cover clear x

  pub no_dips : (c d : Crossing) → IsStart ts from c → IsStart ts to d → ¬ Dips c
      → ¬ Dips (record { over = d.under; under = d.under; height = d.height }) → ¬ Any (Hides p a q b) ts
      → IsClear ts p a q b
  no_dips c d h i none_first none_last none =
      to_clear ts p q a b cover c.height c.under d.height d.under (level from c h) (level to d i)
      (λ l. none_first (from_first c h l)) none_last none
