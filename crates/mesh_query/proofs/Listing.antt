-- The crossings with all sides and the two ends are the breaks.
use Rattle.std.proofs.Common.{◌≡◌, ◌≢◌, ℕ, ◌^◌, refl, sym, subst, arith, ap, ◌∙◌, List, [], ◌∷◌, ◌++◌, inl, inr, get_or}
use Rattle.std.specs.Prelude.{ℤ, pos, ◌*ℤ◌, ◌<ℤ◌, ◌⊎◌, Any, All, unsigned_abs, ◌≤◌}
use Rattle.std.specs.List.{AllByRecursion}
use Rattle.std.proofs.lemmas.Int.{ints}
use Rattle.std.proofs.lemmas.List.{get_or_default}
use Rattle.polynomial.proofs.Expressions.{var, num, mul}
use Rattle.polynomial.proofs.NormalForm.{by_ring}
use Rattle.mesh_plane.specs.declared.corner.Corner.{Corner}
use Rattle.mesh_plane.specs.declared.corner.Tri.{Tri}
use Rattle.mesh_plane.specs.Plane.{Point, IsCounterClockwise, doubled_area}
use Rattle.mesh_plane.specs.Surface.{lift_of}
use Rattle.mesh_plane.specs.Cover.{Covers}
use Rattle.mesh_plane.proofs.ListWords.{all_from, all_to, any_here, any_there, any_none, any_cases}
use Rattle.mesh_query.specs.declared.crossing.Crossing.{Crossing}
use Rattle.mesh_query.specs.declared.crossing.Place.{Place}
use Rattle.mesh_query.specs.declared.rank.Ranked.{Ranked}
use Rattle.mesh_query.specs.declared.ratio.Ratio.{Ratio}
use Rattle.mesh_query.specs.Ratios.{ratio, IsSame}
use Rattle.mesh_query.specs.Way.{SurfaceAt}
use Rattle.mesh_query.specs.Breaks.{AnySide}
use Rattle.mesh_query.specs.Crossing.{CrossesOut, CrossesAt, crossing, HasSide, Found, First, Last, Crossed}
use Rattle.mesh_query.specs.Found.{IsCrossing, at_place}
use Rattle.mesh_query.specs.Holder.{IsHolder}
use Rattle.mesh_query.specs.Rank.{IsRanked, IsOnWay}
use Rattle.mesh_query.specs.Ends.{IsStart}
use Rattle.mesh_query.specs.Added.{DirectedSide, side, sides_of, all_sides, AreCrossings}
use Rattle.mesh_query.specs.Listed.{IsFoundAt, At, AreListed}
use Rattle.mesh_query.proofs.Crossings.{each_side}
use Rattle.mesh_query.proofs.SideHeights.{side_height_law}
use Rattle.mesh_query.proofs.BreakCauses.{break_law}
use Rattle.mesh_query.proofs.EndSurfaces.{start_surface, end_surface}
use Rattle.mesh_query.proofs.Adding.{any_first, any_last, all_more}

-- ---- the start of a segment
weights : (l d : ℤ) → l *ℤ d ≡ l *ℤ (pos 1 *ℤ d)
weights l d = by_ring (mul (var 0) (var 1)) (mul (var 0) (mul (num 1) (var 1))) (l ∷ d ∷ []) refl

size_high : (x : ℤ) → unsigned_abs x ≤ 2147352578 → pos 0 <ℤ x → IsOnWay (record { over = pos 0; under = x; height = pos 0 })
size_high x h i = record {
  low = omega (arith, ints);
  high = omega (arith, ints);
  above_zero = i;
  under_size = omega (arith, ints);
}

pub start_is : (ts : List Tri) (place : Place) (k : ℕ) (d : Tri) (area lift : ℤ) → All IsCounterClockwise ts
    → IsHolder ts (pos 1) place.u place.v k → area ≡ doubled_area (get_or ts k d)
    → lift ≡ lift_of (get_or ts k d) (pos 1) place.u place.v → unsigned_abs area ≤ 2147352578 → unsigned_abs lift ≤ 2 ^ 50
    → IsStart ts place (record { over = pos 0; under = area; height = lift })
start_is ts place k d area lift ccw h e f size tall =
    let t = get_or ts k d in
    let above : pos 0 <ℤ area = subst (λ (z : ℤ). pos 0 <ℤ z) (sym e) (ccw k d h.in_list) in
    record {
      nought = refl;
      above_zero = above;
      under_size = (size_high area size above).under_size;
      height_size = tall;
      surface = record {
        above_zero = above;
        shown = (
          k,
          t,
          h.in_list,
          get_or_default ts k t d h.in_list,
          (
            h.holds d,
            ap (λ z. z *ℤ area) (sym f) ∙ ap (λ z. lift *ℤ z) e ∙ weights lift (doubled_area t),
          ),
        );
      };
    }

-- ---- sides of triangles of a list
any_split : {X : Type 0} (P : X → Type 0) (xs ys : List X) → Any P (xs ++ ys) → Any P xs ⊎ Any P ys
any_split P [] ys a = inr a
any_split P (x ∷ xs) ys a = go (any_cases P x (xs ++ ys) a) (any_split P xs ys)
  where
    go : P x ⊎ Any P (xs ++ ys) → (Any P (xs ++ ys) → Any P xs ⊎ Any P ys) → Any P (x ∷ xs) ⊎ Any P ys
    go (inl h) f = inl (any_here P x xs h)
    go (inr h) f = more (f h)
      where
        more : Any P xs ⊎ Any P ys → Any P (x ∷ xs) ⊎ Any P ys
        more (inl b) = inl (any_there P x xs b)
        more (inr b) = inr b

all_split : {X : Type 0} (P : X → Type 0) (xs ys : List X) → AllByRecursion P (xs ++ ys)
    → AllByRecursion P xs × AllByRecursion P ys
all_split P [] ys a = (tt, a)
all_split P (x ∷ xs) ys a = let r = all_split P xs ys a.1 in ((a.0, r.0), r.1)

any_map : {X : Type 0} (P Q : X → Type 0) (xs : List X) → ((x : X) → P x → Q x) → Any P xs → Any Q xs
any_map P Q xs f a = (a.0, a.1, a.2, a.3, f a.1 a.4)

-- the triangle has the side, taken one way or the other
abbrev Has : DirectedSide → Tri → Type 0
Has s t = HasSide s.a s.b t ⊎ HasSide s.b s.a t

one_of : (P : DirectedSide → Type 0) (t : Tri) → Any P (sides_of t) → (s : DirectedSide) × P s × Has s t
one_of P t a = first (any_cases P (side t.a t.b)
    (side t.b t.a ∷ side t.b t.c ∷ side t.c t.b ∷ side t.c t.a ∷ side t.a t.c ∷ []) a)
  where
    sixth : P (side t.a t.c) ⊎ Any P [] → (s : DirectedSide) × P s × Has s t
    sixth (inl h) = (side t.a t.c, h, inr (inr (inr (refl, refl))))
    sixth (inr h) = absurd (any_none P h)

    fifth : P (side t.c t.a) ⊎ Any P (side t.a t.c ∷ []) → (s : DirectedSide) × P s × Has s t
    fifth (inl h) = (side t.c t.a, h, inl (inr (inr (refl, refl))))
    fifth (inr h) = sixth (any_cases P (side t.a t.c) [] h)

    fourth : P (side t.c t.b) ⊎ Any P (side t.c t.a ∷ side t.a t.c ∷ []) → (s : DirectedSide) × P s × Has s t
    fourth (inl h) = (side t.c t.b, h, inr (inr (inl (refl, refl))))
    fourth (inr h) = fifth (any_cases P (side t.c t.a) (side t.a t.c ∷ []) h)

    third : P (side t.b t.c) ⊎ Any P (side t.c t.b ∷ side t.c t.a ∷ side t.a t.c ∷ []) → (s : DirectedSide) × P s × Has s t
    third (inl h) = (side t.b t.c, h, inl (inr (inl (refl, refl))))
    third (inr h) = fourth (any_cases P (side t.c t.b) (side t.c t.a ∷ side t.a t.c ∷ []) h)

    second : P (side t.b t.a) ⊎ Any P (side t.b t.c ∷ side t.c t.b ∷ side t.c t.a ∷ side t.a t.c ∷ [])
        → (s : DirectedSide) × P s × Has s t
    second (inl h) = (side t.b t.a, h, inr (inl (refl, refl)))
    second (inr h) = third (any_cases P (side t.b t.c) (side t.c t.b ∷ side t.c t.a ∷ side t.a t.c ∷ []) h)

    first : P (side t.a t.b) ⊎ Any P (side t.b t.a ∷ side t.b t.c ∷ side t.c t.b ∷ side t.c t.a ∷ side t.a t.c ∷ [])
        → (s : DirectedSide) × P s × Has s t
    first (inl h) = (side t.a t.b, h, inl (inl (refl, refl)))
    first (inr h) = second (any_cases P (side t.b t.a) (side t.b t.c ∷ side t.c t.b ∷ side t.c t.a ∷ side t.a t.c ∷ []) h)

some_side : (P : DirectedSide → Type 0) (ts : List Tri) → Any P (all_sides ts) → (s : DirectedSide) × P s × Any (Has s) ts
some_side P [] a = absurd (any_none P a)
some_side P (t ∷ ts) a = go (any_split P (sides_of t) (all_sides ts) a) (some_side P ts)
  where
    go : Any P (sides_of t) ⊎ Any P (all_sides ts) → (Any P (all_sides ts) → (s : DirectedSide) × P s × Any (Has s) ts)
        → (s : DirectedSide) × P s × Any (Has s) (t ∷ ts)
    go (inl h) f = let r = one_of P t h in (r.0, r.1, any_here (Has r.0) t ts r.2)
    go (inr h) f = let r = f h in (r.0, r.1, any_there (Has r.0) t ts r.2)

all_of : (P : DirectedSide → Type 0) (ts : List Tri) → AllByRecursion P (all_sides ts)
    → AllByRecursion (λ t. AllByRecursion P (sides_of t)) ts
all_of P [] a = tt
all_of P (t ∷ ts) a = let r = all_split P (sides_of t) (all_sides ts) a in (r.0, all_of P ts r.1)

-- ---- crossings
same_by : (k m : Ratio) → k ≡ m → IsSame k m
same_by k m e = subst (λ (r : Ratio). IsSame k r) e refl

module _ (ts : List Tri) (p q : Point) where
  crosses_at : (k : Ratio) (s : DirectedSide) → CrossesOut p q s.a s.b → IsSame k (crossing p q s.a s.b) → (t : Tri) → Has s t
      → AnySide (CrossesAt p q k) t
  crosses_at k s c e t (inl h) =
      each_side (λ a b. (a ≡ s.a) × (b ≡ s.b)) (CrossesAt p q k)
      (λ a b i. subst (λ (x : Corner). CrossesAt p q k x b) (sym i.0)
      (subst (λ (y : Corner). CrossesAt p q k s.a y) (sym i.1) (inl (c, e)))) t h
  crosses_at k s c e t (inr h) =
      each_side (λ a b. (a ≡ s.b) × (b ≡ s.a)) (CrossesAt p q k)
      (λ a b i. subst (λ (x : Corner). CrossesAt p q k x b) (sym i.0)
      (subst (λ (y : Corner). CrossesAt p q k s.b y) (sym i.1) (inr (c, e)))) t h

  found_at : All IsCounterClockwise ts → (r : Ranked) → IsRanked r
      → Any (λ s. IsCrossing p q s.a s.b r.crossing) (all_sides ts) → IsFoundAt ts p q r
  found_at ccw r ranked a =
      let w = some_side (λ s. IsCrossing p q s.a s.b r.crossing) ts a in
      let s = w.0 in let is = w.1 in
      let k = ratio r.crossing.over r.crossing.under in
      record {
        ranked = ranked;
        found = Crossed (any_map (Has s) (AnySide (CrossesAt p q k)) ts
            (crosses_at k s is.crosses (same_by k (crossing p q s.a s.b) is.at)) w.2);
        surface = subst (λ (x : Ratio). SurfaceAt ts p q x (ratio r.crossing.height r.crossing.under)) (sym is.at)
            (subst (λ (h : Ratio). SurfaceAt ts p q (crossing p q s.a s.b) h) (sym is.metres)
            (side_height_law ts p q s.a s.b ccw w.2 is.crosses));
        height_size = omega (arith, is.height_size);
      }

  module _ (found : List Ranked) (k : Ratio) where
    abbrev Met : DirectedSide → Type 0
    Met s = CrossesOut p q s.a s.b → Any (λ r. IsCrossing p q s.a s.b r.crossing) found

    at_side : (a b : Corner) → Met (side a b) → CrossesOut p q a b → IsSame k (crossing p q a b) → Any (At k) found
    at_side a b met c e =
        any_map (λ r. IsCrossing p q a b r.crossing) (At k) found
        (λ r i. subst (λ (m : Ratio). IsSame m k) (sym i.at) (sym e)) (met c)

    either : (a b : Corner) → Met (side a b) → Met (side b a) → CrossesAt p q k a b → Any (At k) found
    either a b f g (inl x) = at_side a b f x.0 x.1
    either a b f g (inr x) = at_side b a g x.0 x.1

    at_tri : (t : Tri) → AllByRecursion Met (sides_of t) → AnySide (CrossesAt p q k) t → Any (At k) found
    at_tri t m (inl x) = either t.a t.b m.0 m.1.0 x
    at_tri t m (inr (inl x)) = either t.b t.c m.1.1.0 m.1.1.1.0 x
    at_tri t m (inr (inr x)) = either t.c t.a m.1.1.1.1.0 m.1.1.1.1.1.0 x

    at_crossing : All Met (all_sides ts) → Any (AnySide (CrossesAt p q k)) ts → Any (At k) found
    at_crossing m a =
        let each = all_from (λ t. AllByRecursion Met (sides_of t)) ts (all_of Met ts (all_to Met (all_sides ts) m)) in
        at_tri a.1 (subst (λ (t : Tri). AllByRecursion Met (sides_of t)) a.3 (each a.0 a.1 a.2)) a.4

-- ---- the two ends
nought_at : (d o u : ℤ) → o ≡ pos 0 → pos 0 *ℤ u ≡ o *ℤ d
nought_at d o u e =
    by_ring (mul (num 0) (var 0)) (mul (num 0) (var 1)) (u ∷ d ∷ []) refl ∙ ap (λ z. z *ℤ d) (sym e)

whole_at : (d o u : ℤ) → o ≡ u → d *ℤ u ≡ o *ℤ d
whole_at d o u e =
    by_ring (mul (var 0) (var 1)) (mul (var 1) (var 0)) (d ∷ u ∷ []) refl ∙ ap (λ z. z *ℤ d) (sym e)

abbrev end_of : Crossing → Crossing
end_of c = record { over = c.under; under = c.under; height = c.height }

module _ (ts : List Tri) (from to : Place) where
  abbrev p : Point
  p = at_place from

  abbrev q : Point
  q = at_place to

  start_found : (r : Ranked) → IsRanked r → (c : Crossing) → IsStart ts from c → r.crossing ≡ c → IsFoundAt ts p q r
  start_found r ranked c s e =
      let over : r.crossing.over ≡ pos 0 = ap (λ (x : Crossing). x.over) e ∙ s.nought in
      record {
        ranked = ranked;
        found = First over;
        surface = subst (λ (x : Crossing). SurfaceAt ts p q (ratio x.over x.under) (ratio x.height x.under)) (sym e)
            (subst (λ (o : ℤ). SurfaceAt ts p q (ratio o c.under) (ratio c.height c.under)) (sym s.nought)
            (start_surface ts p q c.height c.under s.above_zero s.surface));
        height_size = subst (λ (x : Crossing). unsigned_abs x.height ≤ 2 ^ 50) (sym e) s.height_size;
      }

  end_found : (r : Ranked) → IsRanked r → (c : Crossing) → IsStart ts to c → r.crossing ≡ end_of c → IsFoundAt ts p q r
  end_found r ranked c s e =
      record {
        ranked = ranked;
        found = Last (ap (λ (x : Crossing). x.over) e ∙ sym (ap (λ (x : Crossing). x.under) e));
        surface = subst (λ (x : Crossing). SurfaceAt ts p q (ratio x.over x.under) (ratio x.height x.under)) (sym e)
            (end_surface ts p q c.height c.under s.above_zero s.surface);
        height_size = subst (λ (x : Crossing). unsigned_abs x.height ≤ 2 ^ 50) (sym e) s.height_size;
      }

  pub listed_is : (crossings : List Ranked) (r s : Ranked) (c d : Crossing) → Covers ts → p ≢ q
      → AreCrossings p q (all_sides ts) crossings → IsRanked r → r.crossing ≡ c → IsStart ts from c
      → IsRanked s → s.crossing ≡ end_of d → IsStart ts to d
      → AreListed ts p q ((crossings ++ r ∷ []) ++ s ∷ [])
  listed_is crossings r s c d cover apart h hr er start hs es end = record {
    each = all_from (IsFoundAt ts p q) ((crossings ++ r ∷ []) ++ s ∷ [])
        (all_more (IsFoundAt ts p q) (crossings ++ r ∷ []) s
        (all_more (IsFoundAt ts p q) crossings r
        (founds crossings (all_to IsRanked crossings h.ranked)
        (all_to (λ x. Any (λ w. IsCrossing p q w.a w.b x.crossing) (all_sides ts)) crossings h.each))
        (start_found r hr c start er))
        (end_found s hs d end es));
    every = λ k b. at k ((break_law ts p q k cover.counter_clockwise apart b.fraction).0 b);
  }
    where
      founds : (xs : List Ranked) → AllByRecursion IsRanked xs
          → AllByRecursion (λ x. Any (λ w. IsCrossing p q w.a w.b x.crossing) (all_sides ts)) xs
          → AllByRecursion (IsFoundAt ts p q) xs
      founds [] a b = tt
      founds (x ∷ xs) a b = (found_at ts p q cover.counter_clockwise x a.0 b.0, founds xs a.1 b.1)

      at : (k : Ratio) → Found ts p q k → Any (At k) ((crossings ++ r ∷ []) ++ s ∷ [])
      at k (First e) =
          any_first (At k) (crossings ++ r ∷ []) (s ∷ []) (any_last (At k) crossings r
          (subst (λ (x : Crossing). IsSame (ratio x.over x.under) k) (sym er)
          (subst (λ (o : ℤ). IsSame (ratio o c.under) k) (sym start.nought) (nought_at c.under k.over k.under e))))
      at k (Last e) =
          any_last (At k) (crossings ++ r ∷ []) s
          (subst (λ (x : Crossing). IsSame (ratio x.over x.under) k) (sym es) (whole_at d.under k.over k.under e))
      at k (Crossed a) =
          any_first (At k) (crossings ++ r ∷ []) (s ∷ []) (any_first (At k) crossings (r ∷ [])
          (at_crossing ts p q crossings k h.every a))
