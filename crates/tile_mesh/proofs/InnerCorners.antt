-- The inner points of a strip are the corners of leaves on its line.
use Rattle.std.proofs.Common.{◌≡◌, ℕ, zero, suc, ◌+◌, ◌-◌, ◌/◌, ◌^◌, ◌<◌, ◌≤◌, arith, Bool, true, List, [], ◌∷◌, refl, ap, sym, ◌∙◌, inl, inr, subst}
use Rattle.std.specs.Prelude.{ℤ, ◌⊎◌, Contains}
use Rattle.std.specs.List.{AllByRecursion}
use Rattle.std.proofs.lemmas.Nat.{pow_pos}
use Rattle.std.proofs.lemmas.List.Elements.{Contains-append_right}
use Rattle.common_laws.proofs.Lists.{all_weaker}
use Rattle.mesh_plane.specs.Quadtree.{line_of}
use Rattle.mesh_plane.proofs.ListWords.{all_from}
use Rattle.quad_split.specs.Split.{is_split}
use Rattle.quad_split.proofs.Nodes.{node_x, node_y, is_node_yes, level_small}
use Rattle.terrain_base.specs.declared.side.Side.{Side}
use Rattle.terrain_base.specs.declared.side.Side.TheVariants.{West, South, East, North}
use Rattle.tile_mesh.specs.InnerPoints.{IsLeafCorner, AreInnerPoints}
use Rattle.tile_mesh.specs.Kept.{Rises}
use Rattle.tile_mesh.specs.Rule.{border_split, leaf_ends, inner_points}
use Rattle.tile_mesh.specs.Sides.{inner_at}
use Rattle.tile_mesh.proofs.BorderLeaves.{IsBorder, IsLeafAt, HasBoth, ends_are, first_leaf, leaf_has, has_cons, rises_has}
use Rattle.tile_mesh.proofs.BorderLines.{ends_rise}
use Rattle.tile_mesh.proofs.Borders.{near_line, far_line}
use Rattle.tile_mesh.proofs.InnerLists.{across}
use Rattle.tile_mesh.proofs.MergeOrder.{Pairs, pairs_from}
use Rattle.tile_mesh.proofs.Parents.{parent_split}

-- ---- the last node of a level
last_half : (k : ℕ) → suc k ≤ 6 → (2 ^ (6 - k) - 1) / 2 ≡ 2 ^ (6 - suc k) - 1
last_half zero h = refl
last_half (suc zero) h = refl
last_half (suc (suc zero)) h = refl
last_half (suc (suc (suc zero))) h = refl
last_half (suc (suc (suc (suc zero)))) h = refl
last_half (suc (suc (suc (suc (suc zero))))) h = refl
last_half (suc (suc (suc (suc (suc (suc k)))))) h = absurd (omega (arith, h))

last_end : (k : ℕ) → k ≤ 6 → line_of k (2 ^ (6 - k) - 1 + 1) ≡ 65
last_end k h =
    let e : 2 ^ (6 - k) - 1 + 1 ≡ 2 ^ (6 - k) = omega (arith, pow_pos (6 - k)) in ap (line_of k) e ∙ far_line k h

near_row : (k y : ℕ) → k ≤ 6 → (1 ≡ line_of k y) ⊎ (1 ≡ line_of k (y + 1)) → y ≡ 0
near_row zero y h (inl e) = omega (arith, e)
near_row zero y h (inr e) = absurd (omega (arith, e))
near_row (suc zero) y h (inl e) = omega (arith, e)
near_row (suc zero) y h (inr e) = absurd (omega (arith, e))
near_row (suc (suc zero)) y h (inl e) = omega (arith, e)
near_row (suc (suc zero)) y h (inr e) = absurd (omega (arith, e))
near_row (suc (suc (suc zero))) y h (inl e) = omega (arith, e)
near_row (suc (suc (suc zero))) y h (inr e) = absurd (omega (arith, e))
near_row (suc (suc (suc (suc zero)))) y h (inl e) = omega (arith, e)
near_row (suc (suc (suc (suc zero)))) y h (inr e) = absurd (omega (arith, e))
near_row (suc (suc (suc (suc (suc zero))))) y h (inl e) = omega (arith, e)
near_row (suc (suc (suc (suc (suc zero))))) y h (inr e) = absurd (omega (arith, e))
near_row (suc (suc (suc (suc (suc (suc zero)))))) y h (inl e) = omega (arith, e)
near_row (suc (suc (suc (suc (suc (suc zero)))))) y h (inr e) = absurd (omega (arith, e))
near_row (suc (suc (suc (suc (suc (suc (suc k))))))) y h e = absurd (omega (arith, h))

far_row : (k y : ℕ) → k ≤ 6 → y < 2 ^ (6 - k) → (65 ≡ line_of k y) ⊎ (65 ≡ line_of k (y + 1)) → y ≡ 2 ^ (6 - k) - 1
far_row zero y h l (inl e) = absurd (omega (arith, e, l))
far_row zero y h l (inr e) = omega (arith, e)
far_row (suc zero) y h l (inl e) = absurd (omega (arith, e, l))
far_row (suc zero) y h l (inr e) = omega (arith, e)
far_row (suc (suc zero)) y h l (inl e) = absurd (omega (arith, e, l))
far_row (suc (suc zero)) y h l (inr e) = omega (arith, e)
far_row (suc (suc (suc zero))) y h l (inl e) = absurd (omega (arith, e, l))
far_row (suc (suc (suc zero))) y h l (inr e) = omega (arith, e)
far_row (suc (suc (suc (suc zero)))) y h l (inl e) = absurd (omega (arith, e, l))
far_row (suc (suc (suc (suc zero)))) y h l (inr e) = omega (arith, e)
far_row (suc (suc (suc (suc (suc zero))))) y h l (inl e) = absurd (omega (arith, e, l))
far_row (suc (suc (suc (suc (suc zero))))) y h l (inr e) = omega (arith, e)
far_row (suc (suc (suc (suc (suc (suc zero)))))) y h l (inl e) = absurd (omega (arith, e, l))
far_row (suc (suc (suc (suc (suc (suc zero)))))) y h l (inr e) = omega (arith, e)
far_row (suc (suc (suc (suc (suc (suc (suc k))))))) y h l e = absurd (omega (arith, h))

at_top : (k : ℕ) → k ≤ 6 → (k ≡ 6) ⊎ (suc k ≤ 6)
at_top zero h = inr (omega arith)
at_top (suc zero) h = inr (omega arith)
at_top (suc (suc zero)) h = inr (omega arith)
at_top (suc (suc (suc zero))) h = inr (omega arith)
at_top (suc (suc (suc (suc zero)))) h = inr (omega arith)
at_top (suc (suc (suc (suc (suc zero))))) h = inr (omega arith)
at_top (suc (suc (suc (suc (suc (suc k)))))) h = inl (omega (arith, h))

some_node : (k : ℕ) → k ≤ 6 → 0 < 64 / 2 ^ k
some_node k h = let e = across k h in omega (arith, e, pow_pos (6 - k))

last_node : (k : ℕ) → k ≤ 6 → 2 ^ (6 - k) - 1 < 64 / 2 ^ k
last_node k h = let e = across k h in omega (arith, e, pow_pos (6 - k))

module _ (grid : List ℤ) (tol : ℕ) where
  abbrev p : ℕ → ℕ → ℕ → Bool
  p = is_split grid tol

  border_is : (side : Side) → IsBorder (border_split (is_split grid tol) side)
  border_is South = record { smallest = λ m. refl; parents = λ k m e l. parent_split grid tol k m 0 e l }
  border_is West = record { smallest = λ m. refl; parents = λ k m e l. parent_split grid tol k 0 m e l }
  border_is North = record {
    smallest = λ m. refl;
    parents = λ k m e l. ap (p (suc k) (m / 2)) (sym (last_half k l)) ∙ parent_split grid tol k m (2 ^ (6 - k) - 1) e l;
  }
  border_is East = record {
    smallest = λ m. refl;
    parents = λ k m e l.
        ap (λ (x : ℕ). p (suc k) x (m / 2)) (sym (last_half k l)) ∙ parent_split grid tol k (2 ^ (6 - k) - 1) m e l;
  }

  -- ---- a leaf along the side, as a leaf
  far_parent : (k m : ℕ) → k ≤ 6 → (f : ℕ → Bool) → (k ≡ 6) ⊎ (f (2 ^ (6 - suc k) - 1) ≡ true)
      → (k ≡ 6) ⊎ (f ((2 ^ (6 - k) - 1) / 2) ≡ true)
  far_parent k m h f q = go (at_top k h) q
    where
      go : (k ≡ 6) ⊎ (suc k ≤ 6) → (k ≡ 6) ⊎ (f (2 ^ (6 - suc k) - 1) ≡ true) → (k ≡ 6) ⊎ (f ((2 ^ (6 - k) - 1) / 2) ≡ true)
      go (inl e) q = inl e
      go (inr l) (inl e) = inl e
      go (inr l) (inr e) = inr (ap f (last_half k l) ∙ e)

  corner_by : (side : Side) (k m i : ℕ) → IsLeafAt (border_split (is_split grid tol) side) k m
      → (i ≡ line_of k m) ⊎ (i ≡ line_of k (m + 1)) → IsLeafCorner grid tol (inner_at side i)
  corner_by South k m i leaf c = record {
    level = k;
    x = m;
    y = 0;
    leaf = record {
      place = is_node_yes k m 0 (omega (arith, leaf.place, across k leaf.level)) (some_node k leaf.level);
      whole = leaf.whole;
      parent = leaf.parent;
    };
    corner = record { column = c; row = inl (sym (near_line k leaf.level)) };
  }
  corner_by West k m i leaf c = record {
    level = k;
    x = 0;
    y = m;
    leaf = record {
      place = is_node_yes k 0 m (some_node k leaf.level) (omega (arith, leaf.place, across k leaf.level));
      whole = leaf.whole;
      parent = leaf.parent;
    };
    corner = record { column = inl (sym (near_line k leaf.level)); row = c };
  }
  corner_by North k m i leaf c = record {
    level = k;
    x = m;
    y = 2 ^ (6 - k) - 1;
    leaf = record {
      place = is_node_yes k m (2 ^ (6 - k) - 1) (omega (arith, leaf.place, across k leaf.level)) (last_node k leaf.level);
      whole = leaf.whole;
      parent = far_parent k m leaf.level (p (suc k) (m / 2)) leaf.parent;
    };
    corner = record { column = c; row = inr (sym (last_end k leaf.level)) };
  }
  corner_by East k m i leaf c = record {
    level = k;
    x = 2 ^ (6 - k) - 1;
    y = m;
    leaf = record {
      place = is_node_yes k (2 ^ (6 - k) - 1) m (last_node k leaf.level) (omega (arith, leaf.place, across k leaf.level));
      whole = leaf.whole;
      parent = far_parent k m leaf.level (λ x. p (suc k) x (m / 2)) leaf.parent;
    };
    corner = record { column = inr (sym (last_end k leaf.level)); row = c };
  }

  -- ---- a leaf with a corner on the line, as one along the side
  pub record IsAlong (side : Side) (i : ℕ) : Type 0 where
    pub k : ℕ
    pub m : ℕ
    pub leaf : IsLeafAt (border_split (is_split grid tol) side) k m
    pub corner : (i ≡ line_of k m) ⊎ (i ≡ line_of k (m + 1))

  near_parent : (k : ℕ) → k ≤ 6 → (f : ℕ → Bool) → (k ≡ 6) ⊎ (f ((2 ^ (6 - k) - 1) / 2) ≡ true)
      → (k ≡ 6) ⊎ (f (2 ^ (6 - suc k) - 1) ≡ true)
  near_parent k h f q = go (at_top k h) q
    where
      go : (k ≡ 6) ⊎ (suc k ≤ 6) → (k ≡ 6) ⊎ (f ((2 ^ (6 - k) - 1) / 2) ≡ true) → (k ≡ 6) ⊎ (f (2 ^ (6 - suc k) - 1) ≡ true)
      go (inl e) q = inl e
      go (inr l) (inl e) = inl e
      go (inr l) (inr e) = inr (ap f (sym (last_half k l)) ∙ e)

  along : (side : Side) (i : ℕ) → IsLeafCorner grid tol (inner_at side i) → IsAlong side i
  along South i c =
      let k = c.level in let h = level_small k c.x c.y c.leaf.place in
      let e : c.y ≡ 0 = near_row k c.y h c.corner.row in
      record {
        k = k;
        m = c.x;
        leaf = record {
          level = h;
          place = omega (arith, node_x k c.x c.y c.leaf.place, across k h);
          whole = ap (p k c.x) (sym e) ∙ c.leaf.whole;
          parent = subst (λ (y : ℕ). (k ≡ 6) ⊎ (p (suc k) (c.x / 2) (y / 2) ≡ true)) e c.leaf.parent;
        };
        corner = c.corner.column;
      }
  along West i c =
      let k = c.level in let h = level_small k c.x c.y c.leaf.place in
      let e : c.x ≡ 0 = near_row k c.x h c.corner.column in
      record {
        k = k;
        m = c.y;
        leaf = record {
          level = h;
          place = omega (arith, node_y k c.x c.y c.leaf.place, across k h);
          whole = ap (λ (x : ℕ). p k x c.y) (sym e) ∙ c.leaf.whole;
          parent = subst (λ (x : ℕ). (k ≡ 6) ⊎ (p (suc k) (x / 2) (c.y / 2) ≡ true)) e c.leaf.parent;
        };
        corner = c.corner.row;
      }
  along North i c =
      let k = c.level in let h = level_small k c.x c.y c.leaf.place in
      let e : c.y ≡ 2 ^ (6 - k) - 1 =
      far_row k c.y h (omega (arith, node_y k c.x c.y c.leaf.place, across k h)) c.corner.row in
      record {
        k = k;
        m = c.x;
        leaf = record {
          level = h;
          place = omega (arith, node_x k c.x c.y c.leaf.place, across k h);
          whole = ap (p k c.x) (sym e) ∙ c.leaf.whole;
          parent = near_parent k h (p (suc k) (c.x / 2))
              (subst (λ (y : ℕ). (k ≡ 6) ⊎ (p (suc k) (c.x / 2) (y / 2) ≡ true)) e c.leaf.parent);
        };
        corner = c.corner.column;
      }
  along East i c =
      let k = c.level in let h = level_small k c.x c.y c.leaf.place in
      let e : c.x ≡ 2 ^ (6 - k) - 1 =
      far_row k c.x h (omega (arith, node_x k c.x c.y c.leaf.place, across k h)) c.corner.column in
      record {
        k = k;
        m = c.y;
        leaf = record {
          level = h;
          place = omega (arith, node_y k c.x c.y c.leaf.place, across k h);
          whole = ap (λ (x : ℕ). p k x c.y) (sym e) ∙ c.leaf.whole;
          parent = near_parent k h (λ x. p (suc k) x (c.y / 2))
              (subst (λ (x : ℕ). (k ≡ 6) ⊎ (p (suc k) (x / 2) (c.y / 2) ≡ true)) e c.leaf.parent);
        };
        corner = c.corner.row;
      }

  module _ (side : Side) where
    abbrev b : ℕ → ℕ → Bool
    b = border_split (is_split grid tol) side

    abbrev ends : List ℕ
    ends = leaf_ends (border_split (is_split grid tol) side) 6 0

    rise : Rises 1 ends 65
    rise = ends_rise (border_split (is_split grid tol) side) 6 0

    is_corner : (i : ℕ) → Contains (1 ∷ ends) i → IsLeafCorner grid tol (inner_at side i)
    is_corner i h = go (has_cons 1 i ends h)
      where
        go : (1 ≡ i) ⊎ Contains ends i → IsLeafCorner grid tol (inner_at side i)
        go (inl e) =
            let f = first_leaf b (border_is side) 6 (omega arith) (inl refl) in
            corner_by side f.k 0 i f.leaf (inl (sym e ∙ sym (near_line f.k f.leaf.level)))
        go (inr c) =
            let f = ends_are b (border_is side) 6 0 i (omega arith) (omega arith) (inl refl) c in
            corner_by side f.k f.m i f.leaf (inr f.end)

    has_corner : (i : ℕ) → IsLeafCorner grid tol (inner_at side i) → Contains (1 ∷ ends) i
    has_corner i c =
        let a = along side i c in let h = leaf_has b (border_is side) a.k a.m a.leaf in go a h a.corner
      where
        first : (i : ℕ) → 1 ≡ i → Contains (1 ∷ ends) i
        first i e = (0, omega arith, e)

        near : (j : ℕ) → (j ≡ 1) ⊎ Contains ends j → Contains (1 ∷ ends) j
        near j (inl e) = first j (sym e)
        near j (inr c) = Contains-append_right (1 ∷ []) ends j c

        go : (a : IsAlong side i) → HasBoth b (border_is side) a.k a.m 6 0 → (i ≡ line_of a.k a.m) ⊎ (i ≡ line_of a.k (a.m + 1))
            → Contains (1 ∷ ends) i
        go a h (inl e) = subst (λ (j : ℕ). Contains (1 ∷ ends) j) (sym e) (near (line_of a.k a.m) h.begin)
        go a h (inr e) =
            subst (λ (j : ℕ). Contains (1 ∷ ends) j) (sym e) (Contains-append_right (1 ∷ []) ends (line_of a.k (a.m + 1)) h.end)

    -- ---- order
    above_all : (a c : ℕ) (xs : List ℕ) → Rises a xs c → AllByRecursion (λ x. a < x) xs
    above_all a c [] r = tt
    above_all a c (x ∷ xs) r = (r.0, all_weaker (λ y. x < y) (λ y. a < y) (λ y l. omega (arith, r.0, l)) xs (above_all x c xs r.1))

    ordered : (a c : ℕ) (xs : List ℕ) → Rises a xs c → Pairs (λ i j. i < j) (a ∷ xs)
    ordered a c [] r = (tt, tt)
    ordered a c (x ∷ xs) r = (above_all a c (x ∷ xs) r, ordered x c xs r.1)

    below_end : (a c : ℕ) (xs : List ℕ) → Rises a xs c → a ≤ c
    below_end a c [] r = omega (arith, r)
    below_end a c (x ∷ xs) r = omega (arith, r.0, below_end x c xs r.1)

    between : (a c : ℕ) (xs : List ℕ) → Rises a xs c → 1 ≤ a → AllByRecursion (λ i. (1 ≤ i) × (i ≤ c)) (a ∷ xs)
    between a c [] r l = ((l, omega (arith, r)), tt)
    between a c (x ∷ xs) r l = ((l, below_end a c (x ∷ xs) r), between x c xs r.1 (omega (arith, l, r.0)))

    pub inner_law : AreInnerPoints grid tol side (inner_points (is_split grid tol) side)
    unfolding inner_points
    inner_law = record {
      first = (0, omega arith, refl);
      last = Contains-append_right (1 ∷ []) ends 65 (rises_has 1 65 ends rise (omega arith));
      within = all_from (λ i. (1 ≤ i) × (i ≤ 65)) (1 ∷ ends) (between 1 65 ends rise (omega arith));
      order = pairs_from (λ i j. i < j) (1 ∷ ends) (ordered 1 65 ends rise);
      members = λ i. (is_corner i, has_corner i);
    }
