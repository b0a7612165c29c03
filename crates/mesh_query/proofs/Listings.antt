-- From crossings of rising ranks to the profile.
use Rattle.std.proofs.Common.{◌≡◌, ℕ, ◌*◌, ◌^◌, ◌<◌, ◌≤◌, refl, ap, sym, arith, ◌∙◌, List, [], ◌∷◌, inl, inr}
use Rattle.std.specs.Prelude.{ℤ, pos, ◌-ℤ◌, ◌*ℤ◌, ◌≤ℤ◌, ◌<ℤ◌, ◌⊎◌, Any, unsigned_abs}
use Rattle.std.specs.List.{AllByRecursion}
use Rattle.std.proofs.lemmas.Int.{ints, by_lt_z, unsigned_abs-mul}
use Rattle.common_laws.proofs.Sizes.{size_positive}
use Rattle.polynomial.proofs.Expressions.{var, num, add, sub, mul}
use Rattle.polynomial.proofs.NormalForm.{by_ring}
use Rattle.polynomial.proofs.Signs.{times_nonneg, times_pos, factor_pos, factor_nonneg, weaken}
use Rattle.mesh_plane.specs.declared.corner.Corner.{Corner}
use Rattle.mesh_plane.specs.declared.corner.Tri.{Tri}
use Rattle.mesh_plane.specs.Plane.{Point}
use Rattle.mesh_plane.proofs.Heights.{cancelled}
use Rattle.mesh_plane.proofs.ListWords.{all_from, any_here, any_there, any_none, any_cases}
use Rattle.mesh_query.specs.declared.ratio.Ratio.{Ratio}
use Rattle.mesh_query.specs.declared.spot.Break.{Break}
use Rattle.mesh_query.specs.declared.rank.Ranked.{Ranked}
use Rattle.mesh_query.specs.Ratios.{ratio, IsFraction, IsSame, IsBelow}
use Rattle.mesh_query.specs.Breaks.{IsBreak}
use Rattle.mesh_query.specs.Crossing.{CrossesAt, Found, First, Last, Crossed, crossing}
use Rattle.mesh_query.specs.Rank.{IsRanked, rank_of}
use Rattle.mesh_query.specs.Made.{IsMade, AreMade}
use Rattle.mesh_query.specs.Profile.{Neighbours, IsBreakOf, IsSmall, IsProfile}
use Rattle.mesh_query.specs.Listed.{IsFoundAt, At}
use Rattle.mesh_query.proofs.Crossings.{each_side}
use Rattle.mesh_query.proofs.SideHeights.{same_law}
use Rattle.mesh_query.proofs.BreakCauses.{caused}
use Rattle.mesh_query.proofs.Ranks.{rank_at_most}

-- ---- equal fractions
pub same_trans : (a b c : Ratio) → pos 0 <ℤ b.under → IsSame a b → IsSame b c → IsSame a c
same_trans a b c h e f =
    cancelled b.under (a.over *ℤ c.under) (c.over *ℤ a.under) h
    (by_ring (mul (var 0) (mul (var 1) (var 2))) (mul (mul (var 1) (var 0)) (var 2))
    (b.under ∷ a.over ∷ c.under ∷ []) refl
    ∙ ap (λ z. z *ℤ c.under) e
    ∙ by_ring (mul (mul (var 0) (var 1)) (var 2)) (mul (mul (var 0) (var 2)) (var 1))
    (b.over ∷ a.under ∷ c.under ∷ []) refl
    ∙ ap (λ z. z *ℤ a.under) f
    ∙ by_ring (mul (mul (var 0) (var 1)) (var 2)) (mul (var 1) (mul (var 0) (var 2)))
    (c.over ∷ b.under ∷ a.under ∷ []) refl)

pub below_same : (a b c d : Ratio) → pos 0 <ℤ a.under → pos 0 <ℤ b.under → pos 0 <ℤ c.under → pos 0 <ℤ d.under
    → IsSame a b → IsSame c d → IsBelow a c → IsBelow b d
below_same a b c d ha hb hc hd e f h =
    let up : pos 0 <ℤ ((b.under *ℤ d.under) *ℤ (c.over *ℤ a.under -ℤ a.over *ℤ c.under)) =
    times_pos (b.under *ℤ d.under) (c.over *ℤ a.under -ℤ a.over *ℤ c.under) (times_pos b.under d.under hb hd)
    (omega (arith, ints, h)) in
    let same : (a.under *ℤ c.under) *ℤ (d.over *ℤ b.under -ℤ b.over *ℤ d.under)
    ≡ (b.under *ℤ d.under) *ℤ (c.over *ℤ a.under -ℤ a.over *ℤ c.under) =
    by_ring (mul (mul (var 0) (var 1)) (sub (mul (var 2) (var 3)) (mul (var 4) (var 5))))
    (sub (mul (mul (var 2) (var 1)) (mul (var 0) (var 3))) (mul (mul (var 4) (var 0)) (mul (var 1) (var 5))))
    (a.under ∷ c.under ∷ d.over ∷ b.under ∷ b.over ∷ d.under ∷ []) refl
    ∙ ap (λ z. z *ℤ (a.under *ℤ b.under) -ℤ (b.over *ℤ a.under) *ℤ (c.under *ℤ d.under)) (sym f)
    ∙ ap (λ z. (c.over *ℤ d.under) *ℤ (a.under *ℤ b.under) -ℤ z *ℤ (c.under *ℤ d.under)) (sym e)
    ∙ by_ring
    (sub (mul (mul (var 2) (var 5)) (mul (var 0) (var 3))) (mul (mul (var 4) (var 3)) (mul (var 1) (var 5))))
    (mul (mul (var 3) (var 5)) (sub (mul (var 2) (var 0)) (mul (var 4) (var 1))))
    (a.under ∷ c.under ∷ c.over ∷ b.under ∷ a.over ∷ d.under ∷ []) refl in
    let z = factor_pos (a.under *ℤ c.under) (d.over *ℤ b.under -ℤ b.over *ℤ d.under)
    (times_pos a.under c.under ha hc) (omega (arith, ints, up, same)) in
    omega (arith, ints, z)

-- ---- ranks
size_le : (x y : ℤ) → pos 0 ≤ℤ x → x ≤ℤ y → unsigned_abs x ≤ unsigned_abs y
size_le x y h k = omega (arith, ints)

-- a lesser rank is a lesser fraction
pub rank_below : (r s : Ranked) → IsRanked r → IsRanked s → r.rank < s.rank
    → IsBelow (ratio r.crossing.over r.crossing.under) (ratio s.crossing.over s.crossing.under)
rank_below r s hr hs l =
    let a = s.crossing.over in let b = s.crossing.under in let c = r.crossing.over in let d = r.crossing.under in
    by_lt_z (c *ℤ b) (a *ℤ d) (λ h. h)
    (λ h.
    let n : unsigned_abs a * unsigned_abs d ≤ unsigned_abs c * unsigned_abs b =
    omega (
      arith,
      size_le (a *ℤ d) (c *ℤ b) (times_nonneg a d hs.on_way.low (weaken hr.on_way.above_zero)) h,
      unsigned_abs-mul a d,
      unsigned_abs-mul c b,
    ) in
    let m = rank_at_most (unsigned_abs a) (unsigned_abs b) (unsigned_abs c) (unsigned_abs d) (2 ^ 62)
    (size_positive b hs.on_way.above_zero) (size_positive d hr.on_way.above_zero) n in
    absurd (not_below r.rank s.rank (rank_of r.crossing) (rank_of s.crossing) l hr.is hs.is m))
  where
    not_below : (i j k m : ℕ) → i < j → i ≡ k → j ≡ m → m ≤ k → ⊥
    not_below i j k m l e f h = omega arith

-- ---- the break that is made of a crossing
same_nought : (k m : Ratio) → pos 0 <ℤ k.under → IsSame k m → k.over ≡ pos 0 → m.over ≡ pos 0
same_nought k m h e z =
    cancelled k.under m.over (pos 0) h
    (by_ring (mul (var 0) (var 1)) (mul (var 1) (var 0)) (k.under ∷ m.over ∷ []) refl
    ∙ sym e ∙ ap (λ i. i *ℤ m.under) z
    ∙ by_ring (mul (num 0) (var 0)) (mul (var 1) (num 0)) (m.under ∷ k.under ∷ []) refl)

same_whole : (k m : Ratio) → pos 0 <ℤ k.under → IsSame k m → k.over ≡ k.under → m.over ≡ m.under
same_whole k m h e z =
    cancelled k.under m.over m.under h
    (by_ring (mul (var 0) (var 1)) (mul (var 1) (var 0)) (k.under ∷ m.over ∷ []) refl
    ∙ sym e ∙ ap (λ i. i *ℤ m.under) z)

same_fraction : (k m : Ratio) → pos 0 <ℤ m.under → IsSame k m → IsFraction k → IsFraction m
same_fraction k m h e f =
    let hk : pos 0 <ℤ k.under = omega (arith, ints, f.above_zero) in
    let swap : m.over *ℤ k.under ≡ k.under *ℤ m.over =
    by_ring (mul (var 0) (var 1)) (mul (var 1) (var 0)) (m.over ∷ k.under ∷ []) refl in
    let low = factor_nonneg k.under m.over hk
    (omega (arith, ints, e, swap, times_nonneg k.over m.under f.low (weaken h))) in
    let high = factor_nonneg k.under (m.under -ℤ m.over) hk
    (omega (
      arith,
      ints,
      e,
      times_nonneg (k.under -ℤ k.over) m.under (omega (arith, ints, f.high)) (weaken h),
      by_ring (mul (var 0) (sub (var 1) (var 2)))
          (add (mul (sub (var 0) (var 3)) (var 1)) (sub (mul (var 3) (var 1)) (mul (var 2) (var 0))))
          (k.under ∷ m.under ∷ m.over ∷ k.over ∷ []) refl,
    )) in
    record { above_zero = omega (arith, ints, h); low = low; high = omega (arith, ints, high) }

same_found : (ts : List Tri) (p q : Point) (k m : Ratio) → pos 0 <ℤ k.under → IsSame k m → Found ts p q k
    → Found ts p q m
same_found ts p q k m h e (First z) = First (same_nought k m h e z)
same_found ts p q k m h e (Last z) = Last (same_whole k m h e z)
same_found ts p q k m h e (Crossed a) =
    Crossed (
      a.0,
      a.1,
      a.2,
      a.3,
      each_side (CrossesAt p q k) (CrossesAt p q m) (λ c d x. go c d x) a.1 a.4,
    )
  where
    go : (c d : Corner) → CrossesAt p q k c d → CrossesAt p q m c d
    go c d (inl x) = inl (x.0, same_trans m k (crossing p q c d) h (sym e) x.1)
    go c d (inr x) = inr (x.0, same_trans m k (crossing p q d c) h (sym e) x.1)

module _ (ts : List Tri) (p q : Point) where
  made_break : (r : Ranked) (b : Break) → IsFoundAt ts p q r → IsMade r b → IsBreakOf ts p q b
  made_break r b f m =
      let k = ratio r.crossing.over r.crossing.under in
      let w = f.ranked.on_way in
      let fk : IsFraction k = record {
        above_zero = omega (arith, ints, w.above_zero);
        low = w.low;
        high = w.high;
      } in
      let fb = same_fraction k b.at m.at_lowest.above_zero m.at fk in
      record {
        at_lowest = m.at_lowest;
        metres_lowest = m.metres_lowest;
        is_break = record {
          fraction = fb;
          cause = caused ts p q b.at fb (same_found ts p q k b.at w.above_zero m.at f.found);
        };
        surface = same_law ts p q k b.at (ratio r.crossing.height r.crossing.under) b.metres w.above_zero
            m.at_lowest.above_zero m.metres_lowest.above_zero m.at m.metres f.surface;
      }

  abbrev pub Rises : List Ranked → Type 0
  Rises [] = Unit {0}
  Rises (r ∷ rs) = AllByRecursion (λ s. r.rank < s.rank) rs × Rises rs

  made_each : (rs : List Ranked) (bs : List Break) → AllByRecursion (IsFoundAt ts p q) rs → AreMade rs bs
      → AllByRecursion (IsBreakOf ts p q) bs
  made_each [] [] f m = tt
  made_each [] (b ∷ bs) f m = elim m [ ]
  made_each (r ∷ rs) [] f m = elim m [ ]
  made_each (r ∷ rs) (b ∷ bs) f m = (made_break r b f.0 m.0, made_each rs bs f.1 m.1)

  made_small : (r : Ranked) (b : Break) → IsFoundAt ts p q r → IsMade r b → IsSmall b
  made_small r b f m = record {
    at = omega (arith, ints, m.at_size, f.ranked.on_way.under_size);
    metres = omega (arith, m.metres_size, f.height_size);
    metres_under = omega (arith, ints, m.metres_under_size, f.ranked.on_way.under_size);
  }

  -- so each break made of them has small numbers
  pub each_small : (rs : List Ranked) (bs : List Break) → AllByRecursion (IsFoundAt ts p q) rs → AreMade rs bs
      → AllByRecursion IsSmall bs
  each_small [] [] f m = tt
  each_small [] (b ∷ bs) f m = elim m [ ]
  each_small (r ∷ rs) [] f m = elim m [ ]
  each_small (r ∷ rs) (b ∷ bs) f m = (made_small r b f.0 m.0, each_small rs bs f.1 m.1)

  made_ascending : (rs : List Ranked) (bs : List Break) → AllByRecursion (IsFoundAt ts p q) rs → Rises rs
      → AreMade rs bs → Neighbours (λ b c. IsBelow b.at c.at) bs
  made_ascending [] [] f u m = tt
  made_ascending [] (b ∷ bs) f u m = elim m [ ]
  made_ascending (r ∷ rs) [] f u m = elim m [ ]
  made_ascending (r ∷ []) (b ∷ []) f u m = tt
  made_ascending (r ∷ []) (b ∷ (c ∷ bs)) f u m = elim m.1 [ ]
  made_ascending (r ∷ (s ∷ rs)) (b ∷ []) f u m = elim m.1 [ ]
  made_ascending (r ∷ (s ∷ rs)) (b ∷ (c ∷ bs)) f u m = (
    below_same (ratio r.crossing.over r.crossing.under) b.at (ratio s.crossing.over s.crossing.under) c.at
        f.0.ranked.on_way.above_zero m.0.at_lowest.above_zero f.1.0.ranked.on_way.above_zero
        m.1.0.at_lowest.above_zero m.0.at m.1.0.at
        (rank_below r s f.0.ranked f.1.0.ranked u.0.0),
    made_ascending (s ∷ rs) (c ∷ bs) f.1 u.1 m.1,
  )

  made_every : (rs : List Ranked) (bs : List Break) (k : Ratio) → AllByRecursion (IsFoundAt ts p q) rs
      → AreMade rs bs → Any (At k) rs → Any (λ b. IsSame b.at k) bs
  made_every [] [] k f m a = absurd (any_none (At k) a)
  made_every [] (b ∷ bs) k f m a = elim m [ ]
  made_every (r ∷ rs) [] k f m a = elim m [ ]
  made_every (r ∷ rs) (b ∷ bs) k f m a = go (any_cases (At k) r rs a) (made_every rs bs k f.1 m.1)
    where
      go : At k r ⊎ Any (At k) rs → (Any (At k) rs → Any (λ (c : Break). IsSame c.at k) bs)
          → Any (λ (c : Break). IsSame c.at k) (b ∷ bs)
      go (inl e) g =
          any_here (λ (c : Break). IsSame c.at k) b bs
          (same_trans b.at (ratio r.crossing.over r.crossing.under) k f.0.ranked.on_way.above_zero (sym m.0.at) e)
      go (inr e) g = any_there (λ (c : Break). IsSame c.at k) b bs (g e)

  -- the breaks made of all crossings, one at each place, in order, are the profile
  pub listed_profile : (rs : List Ranked) (bs : List Break) → AllByRecursion (IsFoundAt ts p q) rs → Rises rs
      → ((k : Ratio) → IsBreak ts p q k → Any (At k) rs) → AreMade rs bs → IsProfile ts p q bs
  listed_profile rs bs f u e m = record {
    each = all_from (IsBreakOf ts p q) bs (made_each rs bs f m);
    every = λ k i. made_every rs bs k f m (e k i);
    ascending = made_ascending rs bs f u m;
  }
