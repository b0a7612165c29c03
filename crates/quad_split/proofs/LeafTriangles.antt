-- The triangles of a leaf are among the twelve of its node, whichever sides have midpoints.
use Rattle.std.proofs.Common.{ℕ, suc, ◌+◌, ◌*◌, arith, Bool, true, false, List, [], ◌∷◌, ◌++◌}
use Rattle.std.specs.Prelude.{All}
use Rattle.std.proofs.lemmas.List.Elements.{All-cons}
use Rattle.mesh_plane.specs.Triangles.{Triple, fan}
use Rattle.mesh_plane.specs.Fan.{east_of, north_of, west_of}
use Rattle.mesh_plane.specs.Quadtree.{line_of, midpoint, Midpoints, leaf_ring, leaf}
use Rattle.quad_split.specs.Fan.{fan_triangles}

module _ {A : Type 0} (P : Triple A → Type 0) (c : A) where
  none : All P []
  none = λ k d l. absurd (omega arith)

  -- one more side of the ring, with its midpoint or without
  side : (has : Bool) (a m b : A) (rest : List A) → P (record { a = c; b = a; c = b })
      → P (record { a = c; b = a; c = m })
      → P (record { a = c; b = m; c = b }) → All P (fan c b rest)
      → All P (fan c a ((midpoint has m ++ b ∷ []) ++ rest))
  side true a m b rest p q r s =
      All-cons P (record { a = c; b = a; c = m }) (record { a = c; b = m; c = b } ∷ fan c b rest) q
      (All-cons P (record { a = c; b = m; c = b }) (fan c b rest) r s)
  side false a m b rest p q r s = All-cons P (record { a = c; b = a; c = b }) (fan c b rest) p s

  last : (has : Bool) (a m b : A) → P (record { a = c; b = a; c = b }) → P (record { a = c; b = a; c = m })
      → P (record { a = c; b = m; c = b }) → All P (fan c a (midpoint has m ++ b ∷ []))
  last true a m b p q r =
      All-cons P (record { a = c; b = a; c = m }) (record { a = c; b = m; c = b } ∷ []) q
      (All-cons P (record { a = c; b = m; c = b }) [] r none)
  last false a m b p q r = All-cons P (record { a = c; b = a; c = b }) [] p none

pub leaf_triangles : {A : Type 0} (P : Triple A → Type 0) (grid : ℕ → ℕ → A) (k x y : ℕ) (m : Midpoints)
    → All P (fan_triangles grid k x y) → All P (leaf grid k x y m)
leaf_triangles {A} P grid k x y m h =
    let W = line_of (suc k) x in let X = line_of k (2 * x + 1) in let E = line_of (suc k) (x + 1) in
    let S = line_of (suc k) y in let Y = line_of k (2 * y + 1) in let N = line_of (suc k) (y + 1) in
    let c = grid X Y in
    let t : Triple A = record { a = c; b = c; c = c } in
    let g = leaf_ring grid k x y m in
    side P c m.south (grid W S) (grid X S) (grid E S) (east_of g ++ (north_of g ++ west_of g))
    (h 0 t (omega arith)) (h 1 t (omega arith)) (h 2 t (omega arith))
    (side P c m.east (grid E S) (grid E Y) (grid E N) (north_of g ++ west_of g)
    (h 3 t (omega arith)) (h 4 t (omega arith)) (h 5 t (omega arith))
    (side P c m.north (grid E N) (grid X N) (grid W N) (west_of g)
    (h 6 t (omega arith)) (h 7 t (omega arith)) (h 8 t (omega arith))
    (last P c m.west (grid W N) (grid W Y) (grid W S) (h 9 t (omega arith)) (h 10 t (omega arith))
    (h 11 t (omega arith)))))
