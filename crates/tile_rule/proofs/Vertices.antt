-- The vertices of the mesh of a grid, and their frame.
use Rattle.std.proofs.Common.{ℕ, suc, ◌<◌, ◌≤◌, arith, refl, sym, subst, List, [], ◌∷◌, length, All}
use Rattle.std.specs.Prelude.{ℤ, pos, ◌+ℤ◌, ◌-ℤ◌, ◌≤ℤ◌, fold, map}
use Rattle.std.specs.Int.{int_min, int_max}
use Rattle.std.proofs.lemmas.Int.{ints, clamps}
use Rattle.std.proofs.lemmas.List.Elements.{All-nil, All-cons}
use Rattle.std.proofs.lemmas.Nat.Gcd.{dvd_of_mod-eq-zero}
use Rattle.terrain_base.specs.Height.{IsHeight}
use Rattle.terrain_base.specs.Grid.{IsGrid}
use Rattle.height_lattice.specs.declared.height_frame.HeightFrame.{HeightFrame}
use Rattle.height_lattice.specs.HeightFrame.{IsFrame, IsWithin}
use Rattle.tile_mesh.specs.declared.point.MeshPoint.{MeshPoint}
use Rattle.tile_mesh.specs.Mesh.{Mesh, mesh_of_grid}
use Rattle.tile_mesh.proofs.VertexHeights.{heights_in_range}
use Rattle.post_bound.specs.Span.{least_metres, most_metres}
use Rattle.tile_rule.specs.Tile.{frame_in}
use Rattle.height_lattice.proofs.Frames.{frame_is}

-- ---- heights
-- ---- the least and the greatest
lows : (a : ℤ) (ps : List MeshPoint) → let n = fold int_min a (map (λ p. p.metres) ps) in (n ≤ℤ a) × All (λ p. n ≤ℤ p.metres) ps
lows a [] = (omega (arith, ints), All-nil (λ p. a ≤ℤ p.metres))
lows a (p ∷ ps) =
    let r = lows (int_min a p.metres) ps in
    let n = fold int_min (int_min a p.metres) (map (λ p. p.metres) ps) in
    (omega (arith, ints, clamps, r.0), All-cons (λ q. n ≤ℤ q.metres) p ps (omega (arith, ints, clamps, r.0)) r.1)

highs : (a : ℤ) (ps : List MeshPoint) → let n = fold int_max a (map (λ p. p.metres) ps) in (a ≤ℤ n) × All (λ p. p.metres ≤ℤ n) ps
highs a [] = (omega (arith, ints), All-nil (λ p. p.metres ≤ℤ a))
highs a (p ∷ ps) =
    let r = highs (int_max a p.metres) ps in
    let n = fold int_max (int_max a p.metres) (map (λ p. p.metres) ps) in
    (omega (arith, ints, clamps, r.0), All-cons (λ q. q.metres ≤ℤ n) p ps (omega (arith, ints, clamps, r.0)) r.1)

-- both are heights where all are
pub low_is_high : (a : ℤ) (ps : List MeshPoint) → IsHeight a → All (λ p. IsHeight p.metres) ps → IsHeight (fold int_min a (map (λ p. p.metres) ps))
low_is_high a [] h all = h
low_is_high a (p ∷ ps) h all =
    let g = all 0 p (omega arith) in
    low_is_high (int_min a p.metres) ps (record { above = omega (arith, ints, clamps, h.above, g.above); below = omega (arith, ints, clamps, h.below, g.below) })
    (λ k d l. all (suc k) d (omega (arith, l)))

pub high_is_high : (a : ℤ) (ps : List MeshPoint) → IsHeight a → All (λ p. IsHeight p.metres) ps → IsHeight (fold int_max a (map (λ p. p.metres) ps))
high_is_high a [] h all = h
high_is_high a (p ∷ ps) h all =
    let g = all 0 p (omega arith) in
    high_is_high (int_max a p.metres) ps (record { above = omega (arith, ints, clamps, h.above, g.above); below = omega (arith, ints, clamps, h.below, g.below) })
    (λ k d l. all (suc k) d (omega (arith, l)))

-- the frame of vertices
pub record HasFrame (m : Mesh) : Type 0 where
  pub frame : IsFrame (least_metres m.points) (most_metres m.points) (frame_in m)
  pub within : All (λ p. IsWithin (frame_in m) p.metres) m.points
  pub base : IsHeight (frame_in m).base
  pub range : (frame_in m).range ≤ 32767

pub ends_in_order : (ps : List MeshPoint) → 0 < length ps → least_metres ps ≤ℤ most_metres ps
ends_in_order [] h = absurd (omega (arith, h))
ends_in_order (p ∷ ps) h =
    let a = (lows (pos 16000) (p ∷ ps)).1 0 p (omega arith) in
    let b = (highs (pos 0 -ℤ pos 16000) (p ∷ ps)).1 0 p (omega arith) in
    omega (arith, ints, a, b)

framed : (ps : List MeshPoint) (frame : HeightFrame) → IsFrame (least_metres ps) (most_metres ps) frame → All (λ p. IsWithin frame p.metres) ps
framed ps frame h k d l =
    let a = (lows (pos 16000) ps).1 k d l in
    let b = (highs (pos 0 -ℤ pos 16000) ps).1 k d l in
    record { low = omega (arith, ints, a, h.base); high = omega (arith, ints, b, h.base, h.reaches) }

pub has_frame : (m : Mesh) → 0 < length m.points → All (λ p. IsHeight p.metres) m.points → HasFrame m
unfolding frame_in
has_frame m some all =
    let least = least_metres m.points in
    let most = most_metres m.points in
    let low = low_is_high (pos 16000) m.points (record { above = omega (arith, ints); below = omega (arith, ints) }) all in
    let high = high_is_high (pos 0 -ℤ pos 16000) m.points (record { above = omega (arith, ints); below = omega (arith, ints) }) all in
    let near : most ≤ℤ (least +ℤ pos 32767) = omega (arith, ints, low.above, high.below) in
    let is = frame_is least most (ends_in_order m.points some) near in
    record {
      frame = is;
      within = framed m.points (frame_in m) is;
      base = subst IsHeight (sym is.base) low;
      range = is.shortest 32767 (dvd_of_mod-eq-zero 32767 refl) near;
    }
