-- Fans round a point of a rectangle: four sweeps about the point, one for each side.
use Rattle.std.proofs.Common.{◌≡◌, refl, ap, sym, arith, ◌∙◌, List, [], ◌∷◌, ◌++◌, map, inl, inr, subst}
use Rattle.std.proofs.lemmas.Int.{ints}
use Rattle.polynomial.proofs.Signs.{by_le_z}
use Rattle.mesh_plane.specs.Plane.{Point}
use Rattle.terrain_base.specs.declared.side.Side.{Side}
use Rattle.terrain_base.specs.declared.side.Side.TheVariants.{South, East, North, West}
use Rattle.mesh_plane.specs.Triangles.{Triple, fan, Outer}
use Rattle.mesh_plane.specs.Fan.{Rect, InRect, InsideRect, Ring, IsRing, Follow, east_of, north_of, west_of, round}
use Rattle.mesh_plane.specs.Strip.{across}
use Rattle.mesh_plane.proofs.Turns.{turn}
use Rattle.mesh_plane.proofs.Tilings.{Tiling, tiling_same}
use Rattle.mesh_plane.proofs.Moves.{tiling_moved, shifted, shifted_alike}
use Rattle.mesh_plane.proofs.Sweeps.{sweep}
use Rattle.mesh_plane.proofs.Sides.{next, before, no_reach, border, start_of, start_across, inset, gap}
use Rattle.mesh_plane.proofs.Lines.{follow_moves, outers_tile, band_sector}
use Rattle.mesh_plane.proofs.Frames.{SectorOf, OpenSectorOf, InFrame, InsideFrame, IsInner, corner_turn, corner_end, gap_above, frame_tiles}

-- the rectangle that is one point
abbrev pub only : Point → Rect
only c = record { west = c.u; south = c.v; east = c.u; north = c.v }

pub only_start : (c : Point) (side : Side) → start_of side (only c) ≡ c
only_start c South = refl
only_start c East = refl
only_start c North = refl
only_start c West = refl

pub only_gap : (r : Rect) (c : Point) (side : Side) → inset r side c ≡ gap r (only c) side
only_gap r c South = refl
only_gap r c East = refl
only_gap r c North = refl
only_gap r c West = refl

pub only_inner : (r : Rect) (c : Point) → InsideRect r c → IsInner r (only c)
only_inner r c i = record {
  west = i.west;
  south = i.south;
  east = i.east;
  north = i.north;
  wide = omega (arith, ints);
  high = omega (arith, ints);
}

-- ---- rings, side by side
-- the corner of a ring where a side begins, and that side after it, up to the next corner
abbrev pub begins : {A : Type 0} → Ring A → Side → A
begins g South = g.south_west
begins g East = g.south_east
begins g North = g.north_east
begins g West = g.north_west

abbrev pub inside_of : {A : Type 0} → Ring A → Side → List A
inside_of g South = g.south
inside_of g East = g.east
inside_of g North = g.north
inside_of g West = g.west

-- the triangles of a fan on one side
abbrev pub fan_on : {A : Type 0} → A → Ring A → Side → List (Triple A)
fan_on c g side = fan c (begins g side) (inside_of g side ++ begins g (next side) ∷ [])

module _ {A : Type 0} (at : A → Point) where
  pub fan_is : (c o : A) (rs : List A) → map shifted (sweep at o c (map Outer rs)) ≡ fan c o rs
  fan_is c o [] = refl
  fan_is c o (r ∷ rs) = ap (λ (ts : List (Triple A)). record { a = c; b = o; c = r } ∷ ts) (fan_is c r rs)

  pub fan_append : (c o e : A) (xs rs : List A)
      → fan c o ((xs ++ e ∷ []) ++ rs) ≡ fan c o (xs ++ e ∷ []) ++ fan c e rs
  fan_append c o e [] rs = refl
  fan_append c o e (x ∷ xs) rs =
      ap (λ (ts : List (Triple A)). record { a = c; b = o; c = x } ∷ ts) (fan_append c x e xs rs)

  -- the whole fan is those of its sides
  pub fan_sides : (c : A) (g : Ring A)
      → fan_on c g South ++ (fan_on c g East ++ (fan_on c g North ++ fan_on c g West)) ≡ fan c g.south_west (round g)
  fan_sides c g =
      sym (fan_append c g.south_west g.south_east g.south (east_of g ++ (north_of g ++ west_of g))
      ∙ ap (λ (ts : List (Triple A)). fan_on c g South ++ ts)
      (fan_append c g.south_east g.north_east g.east (north_of g ++ west_of g)
      ∙ ap (λ (ts : List (Triple A)). fan_on c g East ++ ts)
      (fan_append c g.north_east g.north_west g.north (west_of g))))

  module _ (r : Rect) (c : A) (g : Ring A) (i : InsideRect r (at c)) (ring : IsRing at r g) where
    pub begins_at : (side : Side) → at (begins g side) ≡ start_of side r
    begins_at South = ring.south_west
    begins_at East = ring.south_east
    begins_at North = ring.north_east
    begins_at West = ring.north_west

    pub begins_across : (side : Side) → across side (at (begins g side)) ≡ border side r
    begins_across side = ap (across side) (begins_at side) ∙ start_across side r

    pub follows : (side : Side)
        → Follow at side (border side r) (begins g side) (inside_of g side ++ begins g (next side) ∷ [])
    follows South = ring.south
    follows East = ring.east
    follows North = ring.north
    follows West = ring.west

    -- the turn about the ray to a corner
    ray : (side : Side) (p : Point)
        → turn (at (begins g side)) (at c) p ≡ turn (start_of side r) (start_of side (only (at c))) p
    ray side p =
        ap (λ k. turn k (at c) p) (begins_at side)
        ∙ ap (λ k. turn (start_of side r) k p) (sym (only_start (at c) side))

    -- the triangles of one side
    pub side_tiles : (side : Side)
        → Tiling at (SectorOf r (only (at c)) side) (OpenSectorOf r (only (at c)) side) (fan_on c g side)
    side_tiles side =
        let q = only (at c) in let m = gap r q side in let h = inset r side in
        let o = begins g side in let e = begins g (next side) in let xs = inside_of g side in
        let ts = sweep at o c (map Outer (xs ++ e ∷ [])) in
        subst (λ (us : List (Triple A)). Tiling at (SectorOf r q side) (OpenSectorOf r q side) us)
        (fan_is c o (xs ++ e ∷ []))
        (tiling_moved at at shifted (λ p. p) (shifted_alike at) (SectorOf r q side) (OpenSectorOf r q side) ts
        (band_sector at h (inset r (before side)) (inset r (next side)) (turn (at o) (at c)) (turn (at e) (at c)) m
        (gap r q (before side)) (gap r q (next side)) ts (λ p. ray side p ∙ corner_turn r q side p)
        (λ p. ray (next side) p ∙ corner_end r q side p)
        (outers_tile at h m c o e xs (gap_above r q (only_inner r (at c) i) side)
        (no_reach side (border side r) (at o) (begins_across side)) (only_gap r (at c) side)
        (follow_moves at side (border side r) m c o (xs ++ e ∷ []) (begins_across side) (follows side)))))

  -- the whole fan
  pub fan_tiles : (r : Rect) (c : A) (g : Ring A) → InsideRect r (at c) → IsRing at r g
      → Tiling at (InRect r) (InsideRect r) (fan c g.south_west (round g))
  fan_tiles r c g i ring =
      let q = only (at c) in let tiled = side_tiles r c g i ring in
      subst (λ (ts : List (Triple A)). Tiling at (InRect r) (InsideRect r) ts) (fan_sides c g)
      (tiling_same at (InFrame r q) (InsideFrame r q) (InRect r) (InsideRect r)
      (fan_on c g South ++ (fan_on c g East ++ (fan_on c g North ++ fan_on c g West)))
      (λ p f. f.0) (λ p f. (f, by_le_z p.v q.south (λ k. inl k) (λ k. inr (inr (inl k))))) (λ p f. f.0)
      (frame_tiles r q (only_inner r (at c) i) at (fan_on c g South) (fan_on c g East) (fan_on c g North)
      (fan_on c g West) (tiled South) (tiled East) (tiled North) (tiled West)))
