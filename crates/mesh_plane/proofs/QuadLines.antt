-- The lines between the nodes of a quadtree, as lists of edges. A line is one list for the nodes on both of
-- its sides.
use Rattle.std.proofs.Common.{◌≡◌, ℕ, zero, suc, ◌+◌, ◌*◌, ◌<◌, refl, ap, sym, arith, ◌∙◌, Bool, true, false, List, [], ◌∷◌, ◌++◌, inl, inr, subst}
use Rattle.std.specs.Prelude.{ℤ, ◌≤ℤ◌, ◌<ℤ◌, if◌then◌else◌}
use Rattle.std.proofs.lemmas.Int.{ints}
use Rattle.polynomial.proofs.Signs.{by_le_z}
use Rattle.mesh_plane.specs.Plane.{Point, point}
use Rattle.terrain_base.specs.declared.side.Side.TheVariants.{South}
use Rattle.mesh_plane.specs.Triangles.{Triple}
use Rattle.mesh_plane.specs.Quadtree.{line_of, midpoint}
use Rattle.mesh_plane.proofs.Edges.{Edge, Met, met_left, met_right, Shows, edge_flip, chain}
use Rattle.mesh_plane.proofs.Moves.{swapped}
use Rattle.mesh_plane.proofs.StripHeights.{is_on_swapped}
use Rattle.mesh_plane.proofs.FrameHeights.{line_on}
use Rattle.mesh_plane.proofs.Quads.{line_left, line_right, next_line, v_is, u_is}

-- a side from a to b, with its midpoint m or without
abbrev pub seg : {A : Type 0} → A → A → A → Bool → List (Edge A)
seg a m b has = chain a (midpoint has m ++ b ∷ [])

pub seg_flip : {A : Type 0} (at : A → Point) (z : A → ℤ) (a m b : A) (has : Bool) (ts : List (Triple A))
    → Shows at z (seg a m b has) ts → Shows at z (seg b m a has) ts
seg_flip at z a m b true ts h = (edge_flip at z m b ts h.1.0, (edge_flip at z a m ts h.0, tt))
seg_flip at z a m b false ts h = (edge_flip at z a b ts h.0, tt)

module _ {A : Type 0} (grid : ℕ → ℕ → A) (hb vb : ℕ → ℕ → ℕ → Bool) where
  -- a whole edge of level k eastwards, and northwards
  abbrev pub whole_h : ℕ → ℕ → ℕ → Edge A
  whole_h k x y =
      record { from = grid (line_of k x) (line_of k y); to = grid (line_of k (x + 1)) (line_of k y) }

  abbrev pub whole_v : ℕ → ℕ → ℕ → Edge A
  whole_v k x y =
      record { from = grid (line_of k x) (line_of k y); to = grid (line_of k x) (line_of k (y + 1)) }

  -- the edges along the south side of the node (x, y) of level k, where hb says which sides are broken in
  -- two, and
  -- along its west side
  abbrev pub hline : ℕ → ℕ → ℕ → List (Edge A)
  hline zero x y = whole_h zero x y ∷ []
  hline (suc k) x y =
      if hb (suc k) x y then hline k (2 * x) (2 * y) ++ hline k (2 * x + 1) (2 * y) else whole_h
      (suc k) x y ∷ []

  abbrev pub vline : ℕ → ℕ → ℕ → List (Edge A)
  vline zero x y = whole_v zero x y ∷ []
  vline (suc k) x y =
      if vb (suc k) x y then vline k (2 * x) (2 * y) ++ vline k (2 * x) (2 * y + 1) else whole_v
      (suc k) x y ∷ []

  h_whole : (k x y : ℕ) → hb k x y ≡ false → hline k x y ≡ whole_h k x y ∷ []
  h_whole zero x y e = refl
  h_whole (suc k) x y e =
      ap (λ (b : Bool). if b then hline k (2 * x) (2 * y) ++ hline k (2 * x + 1) (2 * y) else whole_h
      (suc k) x y ∷ []) e

  -- two edges that meet on the line m
  abbrev two_h : ℕ → ℕ → ℕ → ℕ → List (Edge A)
  two_h m i j l = record { from = grid i j; to = grid m j } ∷ record { from = grid m j; to = grid l j } ∷ []

  h_two : (k x y : ℕ) → (hb k (2 * x) (2 * y) ≡ false) × (hb k (2 * x + 1) (2 * y) ≡ false)
      → hline k (2 * x) (2 * y) ++ hline k (2 * x + 1) (2 * y)
      ≡ two_h (line_of k (2 * x + 1)) (line_of (suc k) x) (line_of (suc k) y) (line_of (suc k) (x + 1))
  h_two k x y e =
      ap (λ (es : List (Edge A)). es ++ hline k (2 * x + 1) (2 * y)) (h_whole k (2 * x) (2 * y) e.0)
      ∙ ap (λ (es : List (Edge A)). (whole_h k (2 * x) (2 * y) ∷ []) ++ es)
      (h_whole k (2 * x + 1) (2 * y) e.1)
      ∙ ap (λ i. two_h (line_of k (2 * x + 1)) i (line_of k (2 * y)) (line_of k (2 * x + 1 + 1)))
      (line_left k x)
      ∙ ap (λ i. two_h (line_of k (2 * x + 1)) (line_of (suc k) x) i (line_of k (2 * x + 1 + 1)))
      (line_left k y)
      ∙ ap (λ i. two_h (line_of k (2 * x + 1)) (line_of (suc k) x) (line_of (suc k) y) i) (line_right k x)

  -- a line of which the halves are whole is a side with its midpoint or without
  pub h_seg : (k x y : ℕ) → (hb k (2 * x) (2 * y) ≡ false) × (hb k (2 * x + 1) (2 * y) ≡ false)
      → seg (grid (line_of (suc k) x) (line_of (suc k) y)) (grid (line_of k (2 * x + 1)) (line_of (suc k) y))
      (grid (line_of (suc k) (x + 1)) (line_of (suc k) y)) (hb (suc k) x y) ≡ hline (suc k) x y
  h_seg k x y e = go (hb (suc k) x y)
    where
      go : (b : Bool)
          → seg (grid (line_of (suc k) x) (line_of (suc k) y))
          (grid (line_of k (2 * x + 1)) (line_of (suc k) y))
          (grid (line_of (suc k) (x + 1)) (line_of (suc k) y)) b
          ≡ (if b then hline k (2 * x) (2 * y) ++ hline k (2 * x + 1) (2 * y) else whole_h (suc k) x y ∷ [])
      go true = sym (h_two k x y e)
      go false = refl

-- ---- a line northwards is one eastwards, once u and v are exchanged
module _ {A : Type 0} (grid : ℕ → ℕ → A) (hb vb : ℕ → ℕ → ℕ → Bool) where
  abbrev turned_grid : ℕ → ℕ → A
  turned_grid i j = grid j i

  abbrev turned : (ℕ → ℕ → ℕ → Bool) → ℕ → ℕ → ℕ → Bool
  turned broken k x y = broken k y x

  vline_is : (k x y : ℕ) → hline turned_grid (turned vb) (turned hb) k y x ≡ vline grid hb vb k x y
  vline_is zero x y = refl
  vline_is (suc k) x y =
      let line = hline turned_grid (turned vb) (turned hb) k in
      let other = whole_v grid hb vb (suc k) x y ∷ [] in
      ap (λ (es : List (Edge A)). if vb (suc k) x y then es ++ line (2 * y + 1) (2 * x) else other)
      (vline_is k (2 * x) (2 * y))
      ∙ ap (λ (es : List (Edge A)). if vb (suc k) x y then vline grid hb vb k (2 * x) (2 * y) ++ es else other)
      (vline_is k (2 * x) (2 * y + 1))

  pub v_seg : (k x y : ℕ) → (vb k (2 * x) (2 * y) ≡ false) × (vb k (2 * x) (2 * y + 1) ≡ false)
      → seg (grid (line_of (suc k) x) (line_of (suc k) y)) (grid (line_of (suc k) x) (line_of k (2 * y + 1)))
      (grid (line_of (suc k) x) (line_of (suc k) (y + 1))) (vb (suc k) x y) ≡ vline grid hb vb (suc k) x y
  v_seg k x y e = h_seg turned_grid (turned vb) (turned hb) k y x e ∙ vline_is (suc k) x y

met_swapped : {A : Type 0} (at : A → Point) (z : A → ℤ) (p : Point) (es : List (Edge A))
    → Met (λ k. swapped (at k)) z (swapped p) es → Met at z p es
met_swapped at z p [] h = elim h [ ]
met_swapped at z p (e ∷ es) (inl h) = inl (is_on_swapped (at e.from) (at e.to) p h)
met_swapped at z p (e ∷ es) (inr h) = inr (met_swapped at z p es h)

module _ {A : Type 0} (at : A → Point) (grid : ℕ → ℕ → A) (g : ℕ → ℤ) (up : (i j : ℕ) → i < j → g i <ℤ g j)
    (on : (i j : ℕ) → at (grid i j) ≡ point (g i) (g j)) (hb vb : ℕ → ℕ → ℕ → Bool) (z : A
    → ℤ) (p : Point) where
  whole_h_met : (k x y : ℕ) → p.v ≡ g (line_of k y) → g (line_of k x) ≤ℤ p.u → p.u ≤ℤ g (line_of k (x + 1))
      → Met at z p (whole_h grid hb vb k x y ∷ [])
  whole_h_met k x y e f t =
      let i = line_of k x in let j = line_of k y in let l = line_of k (x + 1) in
      let a = u_is at grid g up on i j in let b = u_is at grid g up on l j in
      inl (line_on South (g j) (at (grid i j)) (at (grid l j)) p (v_is at grid g up on i j)
      (v_is at grid g up on l j) e
      (omega (arith, ints, a, b, up i l (next_line k x))) (omega (arith, ints, a, f))
      (omega (arith, ints, b, t)))

  -- each point of a line lies on one of its edges
  pub h_met : (k x y : ℕ) → p.v ≡ g (line_of k y) → g (line_of k x) ≤ℤ p.u → p.u ≤ℤ g (line_of k (x + 1))
      → Met at z p (hline grid hb vb k x y)
  h_met zero x y e f t = whole_h_met zero x y e f t
  h_met (suc k) x y e f t =
      go (hb (suc k) x y) (h_met k (2 * x) (2 * y)) (h_met k (2 * x + 1) (2 * y))
    where
      go : (b : Bool)
          → (p.v ≡ g (line_of k (2 * y)) → g (line_of k (2 * x)) ≤ℤ p.u → p.u ≤ℤ g (line_of k (2 * x + 1))
          → Met at z p (hline grid hb vb k (2 * x) (2 * y)))
          → (p.v ≡ g (line_of k (2 * y)) → g (line_of k (2 * x + 1)) ≤ℤ p.u
          → p.u ≤ℤ g (line_of k (2 * x + 1 + 1)) → Met at z p (hline grid hb vb k (2 * x + 1) (2 * y)))
          → Met at z p
          (if b then hline grid hb vb k (2 * x) (2 * y) ++ hline grid hb vb k (2 * x + 1)
          (2 * y) else whole_h grid hb vb (suc k) x y ∷ [])
      go false left right = whole_h_met (suc k) x y e f t
      go true left right =
          let e' : p.v ≡ g (line_of k (2 * y)) = e ∙ ap g (sym (line_left k y)) in
          let f' : g (line_of k (2 * x)) ≤ℤ p.u = subst (λ (i : ℕ). g i ≤ℤ p.u) (sym (line_left k x)) f in
          let t' : p.u ≤ℤ g (line_of k (2 * x + 1 + 1)) =
          subst (λ (i : ℕ). p.u ≤ℤ g i) (sym (line_right k x)) t in
          by_le_z p.u (g (line_of k (2 * x + 1)))
          (λ h. met_left at z p (hline grid hb vb k (2 * x) (2 * y)) (hline grid hb vb k (2 * x + 1) (2 * y))
          (left e' f' h))
          (λ h. met_right at z p (hline grid hb vb k (2 * x) (2 * y))
          (hline grid hb vb k (2 * x + 1) (2 * y)) (right e' h t'))

module _ {A : Type 0} (at : A → Point) (grid : ℕ → ℕ → A) (g : ℕ → ℤ) (up : (i j : ℕ) → i < j → g i <ℤ g j)
    (on : (i j : ℕ) → at (grid i j) ≡ point (g i) (g j)) (hb vb : ℕ → ℕ → ℕ → Bool) (z : A
    → ℤ) (p : Point) where
  pub v_met : (k x y : ℕ) → p.u ≡ g (line_of k x) → g (line_of k y) ≤ℤ p.v → p.v ≤ℤ g (line_of k (y + 1))
      → Met at z p (vline grid hb vb k x y)
  v_met k x y e f t =
      met_swapped at z p (vline grid hb vb k x y)
      (subst (λ (es : List (Edge A)). Met (λ k. swapped (at k)) z (swapped p) es) (vline_is grid hb vb k x y)
      (h_met (λ k. swapped (at k)) (turned_grid grid hb vb) g up (λ i j. ap swapped (on j i)) (turned grid hb vb vb)
      (turned grid hb vb hb) z (swapped p) k y x e f t))
