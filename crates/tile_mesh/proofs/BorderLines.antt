-- The inner points of a strip are the ends of the edges along a side of the quadtree's square.
use Rattle.std.proofs.Common.{◌≡◌, ℕ, zero, suc, ◌+◌, ◌*◌, ◌≤◌, refl, ap, sym, ◌∙◌, arith, Bool, true, false, List, [], ◌∷◌, ◌++◌, map, subst}
use Rattle.std.specs.Prelude.{if◌then◌else◌}
use Rattle.mesh_plane.specs.Quadtree.{line_of}
use Rattle.mesh_plane.proofs.Edges.{Edge, chain}
use Rattle.mesh_plane.proofs.FrameHeights.{last_of}
use Rattle.mesh_plane.proofs.Quads.{line_left, line_right, next_line}
use Rattle.mesh_plane.proofs.QuadLines.{hline, vline, whole_h, whole_v}
use Rattle.tile_mesh.specs.Kept.{Rises}
use Rattle.tile_mesh.specs.Rule.{leaf_ends}
use Rattle.tile_mesh.proofs.Merges.{rises_last}

-- ---- leaf ends rise
rises_append : (a b c : ℕ) (xs ys : List ℕ) → Rises a xs b → Rises b ys c → Rises a (xs ++ ys) c
rises_append a b c [] ys h k = subst (λ (i : ℕ). Rises i ys c) (sym h) k
rises_append a b c (x ∷ xs) ys h k = (h.0, rises_append x b c xs ys h.1 k)

pub ends_rise : (b : ℕ → ℕ → Bool) (k m : ℕ) → Rises (line_of k m) (leaf_ends b k m) (line_of k (m + 1))
ends_rise b zero m = (next_line zero m, refl)
ends_rise b (suc k) m = go (b (suc k) m) (ends_rise b k (2 * m)) (ends_rise b k (2 * m + 1))
  where
    go : (c : Bool) → Rises (line_of k (2 * m)) (leaf_ends b k (2 * m)) (line_of k (2 * m + 1))
        → Rises (line_of k (2 * m + 1)) (leaf_ends b k (2 * m + 1)) (line_of k (2 * m + 1 + 1))
        → Rises (line_of (suc k) m)
        (if c then leaf_ends b k (2 * m) ++ leaf_ends b k (2 * m + 1) else line_of (suc k) (m + 1) ∷ [])
        (line_of (suc k) (m + 1))
    go true h i =
        let xs = leaf_ends b k (2 * m) ++ leaf_ends b k (2 * m + 1) in
        subst (λ (e : ℕ). Rises (line_of (suc k) m) xs e) (line_right k m)
        (subst (λ (a : ℕ). Rises a xs (line_of k (2 * m + 1 + 1))) (line_left k m)
        (rises_append (line_of k (2 * m)) (line_of k (2 * m + 1)) (line_of k (2 * m + 1 + 1)) (leaf_ends b k (2 * m))
        (leaf_ends b k (2 * m + 1)) h i))
    go false h i = (next_line (suc k) m, refl)

-- ---- chains
chain_join : {A : Type 0} (o : A) (xs rest : List A) → chain o (xs ++ rest) ≡ chain o xs ++ chain (last_of o xs) rest
chain_join o [] rest = refl
chain_join {A} o (x ∷ xs) rest =
    ap (λ (es : List (Edge A)). record { from = o; to = x } ∷ es) (chain_join x xs rest)

map_append : {A : Type 0} (f : ℕ → A) (xs ys : List ℕ) → map f (xs ++ ys) ≡ map f xs ++ map f ys
map_append f [] ys = refl
map_append {A} f (x ∷ xs) ys = ap (λ (zs : List A). f x ∷ zs) (map_append f xs ys)

map_last : {A : Type 0} (f : ℕ → A) (a : ℕ) (xs : List ℕ) → last_of (f a) (map f xs) ≡ f (last_of a xs)
map_last f a [] = refl
map_last f a (x ∷ xs) = map_last f x xs

-- the ends of two nodes beside each other
both : {A : Type 0} (f : ℕ → A) (b : ℕ → ℕ → Bool) (k m : ℕ)
    → chain (f (line_of (suc k) m)) (map f (leaf_ends b k (2 * m) ++ leaf_ends b k (2 * m + 1)))
    ≡ chain (f (line_of k (2 * m))) (map f (leaf_ends b k (2 * m)))
    ++ chain (f (line_of k (2 * m + 1))) (map f (leaf_ends b k (2 * m + 1)))
both {A} f b k m =
    let xs = leaf_ends b k (2 * m) in let ys = leaf_ends b k (2 * m + 1) in let o = line_of k (2 * m) in
    ap (λ (a : ℕ). chain (f a) (map f (xs ++ ys))) (sym (line_left k m))
    ∙ ap (λ (zs : List A). chain (f o) zs) (map_append f xs ys)
    ∙ chain_join (f o) (map f xs) (map f ys)
    ∙ ap (λ (e : A). chain (f o) (map f xs) ++ chain e (map f ys))
    (map_last f o xs ∙ ap f (rises_last o (line_of k (2 * m + 1)) xs (ends_rise b k (2 * m))))

module _ {A : Type 0} (grid : ℕ → ℕ → A) (hb vb : ℕ → ℕ → ℕ → Bool) (b : ℕ → ℕ → Bool) (at : ℕ → ℕ) (j : ℕ)
    (fixed : (k : ℕ) → k ≤ 6 → line_of k (at k) ≡ j) (halved : (k : ℕ) → suc k ≤ 6 → 2 * at (suc k) ≡ at k) where
  pub h_chain : ((k m : ℕ) → k ≤ 6 → b k m ≡ hb k m (at k)) → (k m : ℕ) → k ≤ 6
      → chain (grid (line_of k m) j) (map (λ i. grid i j) (leaf_ends b k m)) ≡ hline grid hb vb k m (at k)
  h_chain same zero m l =
      ap (λ (i : ℕ). record { from = grid (line_of zero m) i; to = grid (line_of zero (m + 1)) i } ∷ [])
      (sym (fixed zero l))
  h_chain same (suc k) m l =
      go (b (suc k) m) (hb (suc k) m (at (suc k))) (same (suc k) m l) (h_chain same k (2 * m) (omega (arith, l)))
      (h_chain same k (2 * m + 1) (omega (arith, l)))
    where
      go : (c d : Bool) → c ≡ d
          → chain (grid (line_of k (2 * m)) j) (map (λ i. grid i j) (leaf_ends b k (2 * m)))
          ≡ hline grid hb vb k (2 * m) (at k)
          → chain (grid (line_of k (2 * m + 1)) j) (map (λ i. grid i j) (leaf_ends b k (2 * m + 1)))
          ≡ hline grid hb vb k (2 * m + 1) (at k)
          → chain (grid (line_of (suc k) m) j)
          (map (λ i. grid i j) (if c then leaf_ends b k (2 * m) ++ leaf_ends b k (2 * m + 1) else line_of (suc k) (m + 1) ∷ []))
          ≡ (if d then hline grid hb vb k (2 * m) (2 * at (suc k)) ++ hline grid hb vb k (2 * m + 1) (2 * at (suc k))
          else whole_h grid hb vb (suc k) m (at (suc k)) ∷ [])
      go true true e left right =
          both (λ i. grid i j) b k m
          ∙ ap (λ (es : List (Edge A)). es ++ chain (grid (line_of k (2 * m + 1)) j) (map (λ i. grid i j) (leaf_ends b k (2 * m + 1)))) left
          ∙ ap (λ (es : List (Edge A)). hline grid hb vb k (2 * m) (at k) ++ es) right
          ∙ ap (λ (y : ℕ). hline grid hb vb k (2 * m) y ++ hline grid hb vb k (2 * m + 1) y) (sym (halved k l))
      go false false e left right =
          ap (λ (i : ℕ). record { from = grid (line_of (suc k) m) i; to = grid (line_of (suc k) (m + 1)) i } ∷ [])
          (sym (fixed (suc k) l))
      go true false e left right = absurd (let z = e in cc)
      go false true e left right = absurd (let z = e in cc)

  pub v_chain : ((k m : ℕ) → k ≤ 6 → b k m ≡ vb k (at k) m) → (k m : ℕ) → k ≤ 6
      → chain (grid j (line_of k m)) (map (λ i. grid j i) (leaf_ends b k m)) ≡ vline grid hb vb k (at k) m
  v_chain same zero m l =
      ap (λ (i : ℕ). record { from = grid i (line_of zero m); to = grid i (line_of zero (m + 1)) } ∷ [])
      (sym (fixed zero l))
  v_chain same (suc k) m l =
      go (b (suc k) m) (vb (suc k) (at (suc k)) m) (same (suc k) m l) (v_chain same k (2 * m) (omega (arith, l)))
      (v_chain same k (2 * m + 1) (omega (arith, l)))
    where
      go : (c d : Bool) → c ≡ d
          → chain (grid j (line_of k (2 * m))) (map (λ i. grid j i) (leaf_ends b k (2 * m)))
          ≡ vline grid hb vb k (at k) (2 * m)
          → chain (grid j (line_of k (2 * m + 1))) (map (λ i. grid j i) (leaf_ends b k (2 * m + 1)))
          ≡ vline grid hb vb k (at k) (2 * m + 1)
          → chain (grid j (line_of (suc k) m))
          (map (λ i. grid j i) (if c then leaf_ends b k (2 * m) ++ leaf_ends b k (2 * m + 1) else line_of (suc k) (m + 1) ∷ []))
          ≡ (if d then vline grid hb vb k (2 * at (suc k)) (2 * m) ++ vline grid hb vb k (2 * at (suc k)) (2 * m + 1)
          else whole_v grid hb vb (suc k) (at (suc k)) m ∷ [])
      go true true e left right =
          both (λ i. grid j i) b k m
          ∙ ap (λ (es : List (Edge A)). es ++ chain (grid j (line_of k (2 * m + 1))) (map (λ i. grid j i) (leaf_ends b k (2 * m + 1)))) left
          ∙ ap (λ (es : List (Edge A)). vline grid hb vb k (at k) (2 * m) ++ es) right
          ∙ ap (λ (x : ℕ). vline grid hb vb k x (2 * m) ++ vline grid hb vb k x (2 * m + 1)) (sym (halved k l))
      go false false e left right =
          ap (λ (i : ℕ). record { from = grid i (line_of (suc k) m); to = grid i (line_of (suc k) (m + 1)) } ∷ [])
          (sym (fixed (suc k) l))
      go true false e left right = absurd (let z = e in cc)
      go false true e left right = absurd (let z = e in cc)
