-- Strips along the four sides of a square.
use Rattle.std.proofs.Common.{◌≡◌, refl, ap, ◌∙◌, List, [], ◌∷◌, map, subst}
use Rattle.std.specs.Prelude.{ℤ, pos, ◌-ℤ◌, ◌<ℤ◌}
use Rattle.mesh_plane.specs.Plane.{Point}
use Rattle.terrain_base.specs.declared.side.Side.{Side}
use Rattle.terrain_base.specs.declared.side.Side.TheVariants.{South, East, North, West}
use Rattle.mesh_plane.specs.Triangles.{Triple, Step, Outer, Inner, cornered, strip, outer_end, inner_end}
use Rattle.mesh_plane.specs.Strip.{along, across, IsOutside, Ascend}
use Rattle.mesh_plane.proofs.Turns.{turn}
use Rattle.mesh_plane.proofs.Tilings.{Tiling}
use Rattle.mesh_plane.proofs.Moves.{Alike, tiling_moved, same_alike, swapped, flipped, flipped_alike}
use Rattle.mesh_plane.proofs.Sweeps.{Goes, Between, StrictlyBetween, Moves, sweep, Band, OpenBand, sweep_tiles}
use Rattle.mesh_plane.proofs.Sides.{reach, no_reach, depth, depth_above, depth_left, full_depth}
use Rattle.mesh_plane.proofs.Lines.{goes, goes_back}

-- north and west strips are sweeps once u and v are exchanged
abbrev pub seen : Side → Point → Point
seen South p = p
seen East p = p
seen North p = swapped p
seen West p = swapped p

pub seen_twice : (side : Side) (p : Point) → seen side (seen side p) ≡ p
seen_twice South p = refl
seen_twice East p = refl
seen_twice North p = refl
seen_twice West p = refl

abbrev pub faced : {A : Type 0} → Side → Triple A → Triple A
faced South t = t
faced East t = t
faced North t = flipped t
faced West t = flipped t

faced_alike : {A : Type 0} (at : A → Point) (side : Side)
    → Alike (λ k. seen side (at k)) at (faced side) (seen side)
faced_alike at South = same_alike at
faced_alike at East = same_alike at
faced_alike at North = flipped_alike at
faced_alike at West = flipped_alike at

-- a turn as it is seen so, and how far inside of a line a point lies that is seen so
abbrev pub lean : Side → Point → Point → Point → ℤ
lean side a b p = turn (seen side a) (seen side b) (seen side p)

abbrev pub rise : Side → ℤ → Point → ℤ
rise side line p = reach side line (seen side p)

-- between the lines, and between the first segment and the last
abbrev pub InBand : (side : Side) (outer inner : ℤ) (o n o' n' p : Point) → Type 0
InBand side outer inner o n o' n' p =
    Between (reach side outer p) (depth side outer inner) (lean side o n p) (lean side o' n' p)

abbrev pub InsideBand : (side : Side) (outer inner : ℤ) (o n o' n' p : Point) → Type 0
InsideBand side outer inner o n o' n' p =
    StrictlyBetween (reach side outer p) (depth side outer inner) (lean side o n p) (lean side o' n' p)

pub goes_along : (side : Side) (line : ℤ) (a b : Point) → across side a ≡ line → across side b ≡ line
    → along side a <ℤ along side b → Goes (rise side line) (seen side a) (seen side b)
goes_along South line a b e f l = goes South line a b e (f, l)
goes_along East line a b e f l = goes East line a b e (f, l)
goes_along North line a b e f l = goes East line (swapped a) (swapped b) e (f, l)
goes_along West line a b e f l = goes South line (swapped a) (swapped b) e (f, l)

-- the same back, along the inner line
pub goes_inner : (side : Side) (outer inner : ℤ) (a b : Point) → across side a ≡ inner → across side b ≡ inner
    → along side a <ℤ along side b
    → Goes (λ p. depth side outer inner -ℤ rise side outer p) (seen side b) (seen side a)
goes_inner side outer inner a b e f l =
    goes_back (rise side inner) (λ p. depth side outer inner -ℤ rise side outer p) (seen side a) (seen side b)
    (λ p. depth_left side outer inner (seen side p)) (goes_along side inner a b e f l)

cornered_is : {A : Type 0} (side : Side) (o n x : A) → faced side (record { a = o; b = x; c = n }) ≡ cornered side o n x
cornered_is South o n x = refl
cornered_is East o n x = refl
cornered_is North o n x = refl
cornered_is West o n x = refl

module _ {A : Type 0} (at : A → Point) (side : Side) where
  abbrev pub seen_at : A → Point
  seen_at k = seen side (at k)

  pub strip_is : (o n : A) (steps : List (Step A)) → map (faced side) (sweep seen_at o n steps) ≡ strip side o n steps
  strip_is o n [] = refl
  strip_is o n (Outer x ∷ steps) =
      ap (λ (t : Triple A). t ∷ map (faced side) (sweep seen_at x n steps)) (cornered_is side o n x)
      ∙ ap (λ (ts : List (Triple A)). cornered side o n x ∷ ts) (strip_is x n steps)
  strip_is o n (Inner x ∷ steps) =
      ap (λ (t : Triple A). t ∷ map (faced side) (sweep seen_at o x steps)) (cornered_is side o n x)
      ∙ ap (λ (ts : List (Triple A)). cornered side o n x ∷ ts) (strip_is o x steps)

  module _ (outer inner : ℤ) where
    pub no_rise : (k : A) → across side (at k) ≡ outer → rise side outer (seen_at k) ≡ pos 0
    no_rise k e = ap (reach side outer) (seen_twice side (at k)) ∙ no_reach side outer (at k) e

    pub full_rise : (k : A) → across side (at k) ≡ inner → rise side outer (seen_at k) ≡ depth side outer inner
    full_rise k e = ap (reach side outer) (seen_twice side (at k)) ∙ full_depth side outer inner (at k) e

    pub strip_moves : (o n : A) (steps : List (Step A)) → across side (at o) ≡ outer → across side (at n) ≡ inner
        → Ascend at side outer inner o n steps → Moves seen_at (rise side outer) (depth side outer inner) o n steps
    strip_moves o n [] ho hn s = tt
    strip_moves o n (Outer x ∷ steps) ho hn s = (
      goes_along side outer (at o) (at x) ho s.0 s.1,
      no_rise x s.0,
      strip_moves x n steps s.0 hn s.2,
    )
    strip_moves o n (Inner x ∷ steps) ho hn s = (
      goes_inner side outer inner (at n) (at x) hn s.0 s.1,
      full_rise x s.0,
      strip_moves o x steps ho s.0 s.2,
    )

module _ {A : Type 0} (at : A → Point) where
  swept : (side : Side) (outer inner : ℤ) (o n : A) (t : Step A) (steps : List (Step A)) → IsOutside side outer inner
      → across side (at o) ≡ outer → across side (at n) ≡ inner → Ascend at side outer inner o n (t ∷ steps)
      → let o' = outer_end o (t ∷ steps) in let n' = inner_end n (t ∷ steps) in
      Tiling at
      (λ p. Band (seen_at at side) (rise side outer) (depth side outer inner) o n o' n' (seen side p))
      (λ p. OpenBand (seen_at at side) (rise side outer) (depth side outer inner) o n o' n' (seen side p))
      (strip side o n (t ∷ steps))
  swept side outer inner o n t steps l ho hn s =
      let o' = outer_end o (t ∷ steps) in let n' = inner_end n (t ∷ steps) in
      let seen_from = seen_at at side in let h = rise side outer in let m = depth side outer inner in
      let R = Band seen_from h m o n o' n' in let S = OpenBand seen_from h m o n o' n' in
      subst (λ (ts : List (Triple A)). Tiling at (λ p. R (seen side p)) (λ p. S (seen side p)) ts)
      (strip_is at side o n (t ∷ steps))
      (tiling_moved seen_from at (faced side) (seen side) (faced_alike at side) R S (sweep seen_from o n (t ∷ steps))
      (sweep_tiles seen_from h m o n t steps (depth_above side outer inner l)
      (no_rise at side outer inner o ho) (full_rise at side outer inner n hn)
      (strip_moves at side outer inner o n (t ∷ steps) ho hn s)))

  -- a strip tiles what lies between its lines and its end segments
  pub strip_tiles : (side : Side) (outer inner : ℤ) (o n : A) (t : Step A) (steps : List (Step A))
      → IsOutside side outer inner
      → across side (at o) ≡ outer → across side (at n) ≡ inner → Ascend at side outer inner o n (t ∷ steps)
      → Tiling at
      (InBand side outer inner (at o) (at n) (at (outer_end o (t ∷ steps)))
      (at (inner_end n (t ∷ steps))))
      (InsideBand side outer inner (at o) (at n) (at (outer_end o (t ∷ steps)))
      (at (inner_end n (t ∷ steps))))
      (strip side o n (t ∷ steps))
  strip_tiles South outer inner o n t steps l ho hn s = swept South outer inner o n t steps l ho hn s
  strip_tiles East outer inner o n t steps l ho hn s = swept East outer inner o n t steps l ho hn s
  strip_tiles North outer inner o n t steps l ho hn s = swept North outer inner o n t steps l ho hn s
  strip_tiles West outer inner o n t steps l ho hn s = swept West outer inner o n t steps l ho hn s

  -- the ends lie on the lines
  pub outer_end_on : (side : Side) (outer inner : ℤ) (o n : A) (steps : List (Step A))
      → across side (at o) ≡ outer
      → Ascend at side outer inner o n steps → across side (at (outer_end o steps)) ≡ outer
  outer_end_on side outer inner o n [] e s = e
  outer_end_on side outer inner o n (Outer x ∷ steps) e s = outer_end_on side outer inner x n steps s.0 s.2
  outer_end_on side outer inner o n (Inner x ∷ steps) e s = outer_end_on side outer inner o x steps e s.2

  pub inner_end_on : (side : Side) (outer inner : ℤ) (o n : A) (steps : List (Step A))
      → across side (at n) ≡ inner
      → Ascend at side outer inner o n steps → across side (at (inner_end n steps)) ≡ inner
  inner_end_on side outer inner o n [] e s = e
  inner_end_on side outer inner o n (Outer x ∷ steps) e s = inner_end_on side outer inner x n steps e s.2
  inner_end_on side outer inner o n (Inner x ∷ steps) e s = inner_end_on side outer inner o x steps s.0 s.2
