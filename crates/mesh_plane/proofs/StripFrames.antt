-- Four strips round an inner rectangle, and what tiles that rectangle, tile the outer one.
use Rattle.std.proofs.Common.{◌≡◌, refl, ap, arith, ◌∙◌, List, [], ◌∷◌, ◌++◌, inl, inr, ⊎_elim, subst}
use Rattle.std.specs.Prelude.{ℤ, ◌-ℤ◌, ◌*ℤ◌}
use Rattle.std.proofs.lemmas.Int.{ints, by_lt_z}
use Rattle.mesh_plane.specs.Plane.{Point, point}
use Rattle.terrain_base.specs.declared.side.Side.{Side}
use Rattle.terrain_base.specs.declared.side.Side.TheVariants.{South, East, North, West}
use Rattle.mesh_plane.specs.Triangles.{Triple, Step, strip, outer_end, inner_end}
use Rattle.mesh_plane.specs.Fan.{Rect, InRect, InsideRect}
use Rattle.mesh_plane.specs.Strip.{across, IsOutside, Ascend}
use Rattle.mesh_plane.proofs.Turns.{turn, turned_back}
use Rattle.mesh_plane.proofs.Tilings.{Tiling, tiling_append, tiling_same}
use Rattle.mesh_plane.proofs.Moves.{swapped, turn_swapped}
use Rattle.mesh_plane.proofs.Sides.{before, border, start_of, inset, gap}
use Rattle.mesh_plane.proofs.Lines.{band_sector}
use Rattle.mesh_plane.proofs.Strips.{lean, InBand, InsideBand, strip_tiles}
use Rattle.mesh_plane.proofs.Frames.{SectorBetween, OpenSectorBetween, SectorOf, OpenSectorOf, InFrame, InsideFrame, IsInner, is_outside, corner_turn, frame_tiles}

-- the eight corners of a frame
pub record Corners (A : Type 0) : Type 0 where
  pub south_west : A
  pub south_east : A
  pub north_east : A
  pub north_west : A
  pub inner_south_west : A
  pub inner_south_east : A
  pub inner_north_east : A
  pub inner_north_west : A

-- they lie at the corners of both rectangles
pub record AreAt {A : Type 0} (at : A → Point) (r q : Rect) (k : Corners A) : Type 0 where
  pub south_west : at k.south_west ≡ point r.west r.south
  pub south_east : at k.south_east ≡ point r.east r.south
  pub north_east : at k.north_east ≡ point r.east r.north
  pub north_west : at k.north_west ≡ point r.west r.north
  pub inner_south_west : at k.inner_south_west ≡ point q.west q.south
  pub inner_south_east : at k.inner_south_east ≡ point q.east q.south
  pub inner_north_east : at k.inner_north_east ≡ point q.east q.north
  pub inner_north_west : at k.inner_north_west ≡ point q.west q.north

-- a strip from one pair of corners to another
pub record Runs {A : Type 0} (at : A
    → Point) (side : Side) (outer inner : ℤ) (o n o' n' : A) (t : Step A)
    (steps : List (Step A)) : Type 0 where
  pub ascends : Ascend at side outer inner o n (t ∷ steps)
  pub outer_to : outer_end o (t ∷ steps) ≡ o'
  pub inner_to : inner_end n (t ∷ steps) ≡ n'

-- the corners where a side of a frame begins, counter-clockwise
abbrev pub outer_corner : {A : Type 0} → Corners A → Side → A
outer_corner k South = k.south_west
outer_corner k East = k.south_east
outer_corner k North = k.north_east
outer_corner k West = k.north_west

abbrev pub inner_corner : {A : Type 0} → Corners A → Side → A
inner_corner k South = k.inner_south_west
inner_corner k East = k.inner_south_east
inner_corner k North = k.inner_north_east
inner_corner k West = k.inner_north_west

-- a strip runs eastwards or northwards: from where the side `run_from` begins to where `run_to` does
abbrev pub run_from : Side → Side
run_from South = South
run_from East = East
run_from North = West
run_from West = South

abbrev pub run_to : Side → Side
run_to South = East
run_to East = North
run_to North = North
run_to West = West

-- the sides next to it there
abbrev beside_from : Side → Side
beside_from South = West
beside_from East = South
beside_from North = West
beside_from West = South

abbrev beside_to : Side → Side
beside_to South = East
beside_to East = North
beside_to North = East
beside_to West = North

pub from_across : (side : Side) (r : Rect) → across side (start_of (run_from side) r) ≡ border side r
from_across South r = refl
from_across East r = refl
from_across North r = refl
from_across West r = refl

-- a turn where u and v are exchanged
exchanged_turn : (r q : Rect) (side : Side) (p : Point)
    → turn (swapped (start_of side r)) (swapped (start_of side q)) (swapped p)
    ≡ gap r q side *ℤ inset r (before side) p -ℤ gap r q (before side) *ℤ inset r side p
exchanged_turn r q side p =
    omega (
      arith,
      ints,
      turn_swapped (start_of side r) (start_of side q) p,
      turned_back (start_of side r) (start_of side q) p,
      corner_turn r q side p,
    )

-- the turns about the ends of a strip
lean_from : (r q : Rect) (side : Side) (p : Point)
    → lean side (start_of (run_from side) r) (start_of (run_from side) q) p
    ≡ gap r q (beside_from side) *ℤ inset r side p -ℤ gap r q side *ℤ inset r (beside_from side) p
lean_from r q South p = corner_turn r q South p
lean_from r q East p = corner_turn r q East p
lean_from r q North p = exchanged_turn r q West p
lean_from r q West p = exchanged_turn r q South p

lean_to : (r q : Rect) (side : Side) (p : Point)
    → lean side (start_of (run_to side) r) (start_of (run_to side) q) p
    ≡ gap r q side *ℤ inset r (beside_to side) p -ℤ gap r q (beside_to side) *ℤ inset r side p
lean_to r q South p = corner_turn r q East p
lean_to r q East p = corner_turn r q North p
lean_to r q North p = exchanged_turn r q North p
lean_to r q West p = exchanged_turn r q West p

module _ {A : Type 0} (at : A → Point) where
  -- the two neighbours of a side, the other way round
  sector_swapped : (r q : Rect) (side back ahead : Side) (ts : List (Triple A))
      → Tiling at (SectorBetween r q side back ahead) (OpenSectorBetween r q side back ahead) ts
      → Tiling at (SectorBetween r q side ahead back) (OpenSectorBetween r q side ahead back) ts
  sector_swapped r q side back ahead ts t =
      tiling_same at (SectorBetween r q side back ahead) (OpenSectorBetween r q side back ahead)
      (SectorBetween r q side ahead back) (OpenSectorBetween r q side ahead back) ts
      (λ p i. record { above = i.above; below = i.below; first = i.second; second = i.first })
      (λ p i. record { above = i.above; below = i.below; first = i.second; second = i.first })
      (λ p i. record { above = i.above; below = i.below; first = i.second; second = i.first }) t

  pub runs_tile : (side : Side) (outer inner : ℤ) (o n o' n' : A) (t : Step A) (steps : List (Step A))
      → IsOutside side outer inner
      → across side (at o) ≡ outer → across side (at n) ≡ inner → Runs at side outer inner o n o' n' t steps
      → Tiling at (InBand side outer inner (at o) (at n) (at o') (at n'))
      (InsideBand side outer inner (at o) (at n) (at o') (at n'))
      (strip side o n (t ∷ steps))
  runs_tile side outer inner o n o' n' t steps l ho hn r =
      let ts = strip side o n (t ∷ steps) in
      subst (λ (k : A). Tiling at (InBand side outer inner (at o) (at n) (at o') (at k))
      (InsideBand side outer inner (at o) (at n) (at o') (at k)) ts) r.inner_to
      (subst
      (λ (k : A). Tiling at (InBand side outer inner (at o) (at n) (at k) (at (inner_end n (t ∷ steps))))
      (InsideBand side outer inner (at o) (at n) (at k) (at (inner_end n (t ∷ steps)))) ts) r.outer_to
      (strip_tiles at side outer inner o n t steps l ho hn r.ascends))

  module _ (r q : Rect) (i : IsInner r q) (k : Corners A) (places : AreAt at r q k) where
    pub outer_at : (side : Side) → at (outer_corner k side) ≡ start_of side r
    outer_at South = places.south_west
    outer_at East = places.south_east
    outer_at North = places.north_east
    outer_at West = places.north_west

    pub inner_at : (side : Side) → at (inner_corner k side) ≡ start_of side q
    inner_at South = places.inner_south_west
    inner_at East = places.inner_south_east
    inner_at North = places.inner_north_east
    inner_at West = places.inner_north_west

    -- the strip of a side, from corners to corners
    abbrev pub side_list : Side → Step A → List (Step A) → List (Triple A)
    side_list side t steps = strip side (outer_corner k (run_from side)) (inner_corner k (run_from side)) (t ∷ steps)

    abbrev pub SideRuns : Side → Step A → List (Step A) → Type 0
    SideRuns side t steps =
        Runs at side (border side r) (border side q) (outer_corner k (run_from side)) (inner_corner k (run_from side))
        (outer_corner k (run_to side)) (inner_corner k (run_to side)) t steps

    pub outer_across : (side : Side) → across side (at (outer_corner k (run_from side))) ≡ border side r
    outer_across side = ap (across side) (outer_at (run_from side)) ∙ from_across side r

    pub inner_across : (side : Side) → across side (at (inner_corner k (run_from side))) ≡ border side q
    inner_across side = ap (across side) (inner_at (run_from side)) ∙ from_across side q

    lean_at : (side corner : Side) (p : Point) → lean side (at (outer_corner k corner)) (at (inner_corner k corner)) p
        ≡ lean side (start_of corner r) (start_of corner q) p
    lean_at side corner p =
        ap (λ j. lean side j (at (inner_corner k corner)) p) (outer_at corner)
        ∙ ap (λ j. lean side (start_of corner r) j p) (inner_at corner)

    -- the neighbours of a north or west strip the other way round
    ordered : (side : Side) (ts : List (Triple A))
        → Tiling at (SectorBetween r q side (beside_from side) (beside_to side))
        (OpenSectorBetween r q side (beside_from side) (beside_to side)) ts
        → Tiling at (SectorOf r q side) (OpenSectorOf r q side) ts
    ordered South ts t = t
    ordered East ts t = t
    ordered North ts t = sector_swapped r q North West East ts t
    ordered West ts t = sector_swapped r q West South North ts t

    -- a strip tiles the sector of its side
    pub side_strip : (side : Side) (t : Step A) (steps : List (Step A)) → SideRuns side t steps
        → Tiling at (SectorOf r q side) (OpenSectorOf r q side) (side_list side t steps)
    side_strip side t steps run =
        let from = run_from side in let to = run_to side in
        ordered side (side_list side t steps)
        (band_sector at (inset r side) (inset r (beside_from side)) (inset r (beside_to side))
        (lean side (at (outer_corner k from)) (at (inner_corner k from)))
        (lean side (at (outer_corner k to)) (at (inner_corner k to)))
        (gap r q side) (gap r q (beside_from side)) (gap r q (beside_to side)) (side_list side t steps)
        (λ p. lean_at side from p ∙ lean_from r q side p) (λ p. lean_at side to p ∙ lean_to r q side p)
        (runs_tile side (border side r) (border side q) (outer_corner k from) (inner_corner k from) (outer_corner k to)
        (inner_corner k to) t steps (is_outside r q i side) (outer_across side) (inner_across side) run))

    joined : (s e n w qs : List (Triple A)) → (s ++ (e ++ (n ++ w))) ++ qs ≡ s ++ (e ++ (n ++ (w ++ qs)))
    joined s e n w qs =
        split s (e ++ (n ++ w))
        ∙ ap (λ (ts : List (Triple A)). s ++ ts) (split e (n ++ w)
        ∙ ap (λ (ts : List (Triple A)). e ++ ts) (split n w))
      where
        split : (xs ys : List (Triple A)) → (xs ++ ys) ++ qs ≡ xs ++ (ys ++ qs)
        split [] ys = refl
        split (x ∷ xs) ys = ap (λ (ts : List (Triple A)). x ∷ ts) (split xs ys)

    -- four strips and the inner rectangle
    pub framed : (s e n w qs : List (Triple A)) → Tiling at (SectorOf r q South) (OpenSectorOf r q South) s
        → Tiling at (SectorOf r q East) (OpenSectorOf r q East) e
        → Tiling at (SectorOf r q North) (OpenSectorOf r q North) n
        → Tiling at (SectorOf r q West) (OpenSectorOf r q West) w
        → Tiling at (InRect q) (InsideRect q) qs
        → Tiling at (InRect r) (InsideRect r) (s ++ (e ++ (n ++ (w ++ qs))))
    framed s e n w qs hs he hn hw hq =
        subst (λ (ts : List (Triple A)). Tiling at (InRect r) (InsideRect r) ts) (joined s e n w qs)
        (tiling_append at (InRect r) (InsideRect r) (InFrame r q) (InsideFrame r q) (InRect q) (InsideRect q)
        (s ++ (e ++ (n ++ w))) qs
        (frame_tiles r q i at s e n w hs he hn hw) hq
        (λ p f. by_lt_z q.south p.v
        (λ a. by_lt_z p.u q.east
        (λ b. by_lt_z p.v q.north
        (λ c. by_lt_z q.west p.u
        (λ d. inr (omega (arith, ints, a, b, c, d)))
        (λ d. inl (f, inr (inr (inr d)))))
        (λ c. inl (f, inr (inr (inl c)))))
        (λ b. inl (f, inr (inl b))))
        (λ a. inl (f, inl a)))
        (λ p f. f.0) (λ p f. omega (arith, ints, i, f)) (λ p f. f.0) (λ p f. omega (arith, ints, i, f))
        (λ p f g. ⊎_elim (λ a. omega (arith, ints, a, g.south)) (⊎_elim (λ a. omega (arith, ints, a, g.east))
        (⊎_elim (λ a. omega (arith, ints, a, g.north)) (λ a. omega (arith, ints, a, g.west)))) f.1))
