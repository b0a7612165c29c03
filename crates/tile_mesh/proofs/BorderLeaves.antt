-- The leaves along a side, and the ends of their sides.
use Rattle.std.proofs.Common.{◌≡◌, ℕ, zero, suc, ◌+◌, ◌-◌, ◌*◌, ◌/◌, ◌^◌, ◌<◌, ◌≤◌, arith, Bool, true, false, List, [], ◌∷◌, ◌++◌, refl, ap, sym, ◌∙◌, inl, inr, subst}
use Rattle.std.specs.Prelude.{◌⊎◌, Contains, if◌then◌else◌}
use Rattle.std.proofs.lemmas.Nat.{pow_pos}
use Rattle.std.proofs.lemmas.List.Elements.{Contains-append_left, Contains-append_right, Contains-append_cases}
use Rattle.mesh_plane.specs.Quadtree.{line_of}
use Rattle.mesh_plane.proofs.Quads.{line_left, next_line}
use Rattle.tile_mesh.specs.Kept.{Rises}
use Rattle.tile_mesh.specs.Rule.{leaf_ends}
use Rattle.tile_mesh.proofs.BorderLines.{ends_rise}
use Rattle.tile_mesh.proofs.Parents.{halves_of}

-- ---- lists of numbers
pub has_one : (x i : ℕ) → Contains (x ∷ []) i → x ≡ i
has_one x i (zero, l, e) = e
has_one x i (suc n, l, e) = absurd (omega (arith, l))

pub one_has : (x i : ℕ) → x ≡ i → Contains (x ∷ []) i
one_has x i e = (0, omega arith, e)

pub has_cons : (x i : ℕ) (xs : List ℕ) → Contains (x ∷ xs) i → (x ≡ i) ⊎ Contains xs i
has_cons x i xs h = go (Contains-append_cases (x ∷ []) xs i h)
  where
    go : Contains (x ∷ []) i ⊎ Contains xs i → (x ≡ i) ⊎ Contains xs i
    go (inl h) = inl (has_one x i h)
    go (inr h) = inr h

rises_le : (a b : ℕ) (xs : List ℕ) → Rises a xs b → a ≤ b
rises_le a b [] h = omega (arith, h)
rises_le a b (x ∷ xs) h = omega (arith, h.0, rises_le x b xs h.1)

pub rises_has : (a b : ℕ) (xs : List ℕ) → Rises a xs b → a < b → Contains xs b
rises_has a b [] h l = absurd (omega (arith, h, l))
rises_has a b (x ∷ []) h l = one_has x b h.1
rises_has a b (x ∷ y ∷ ys) h l =
    Contains-append_right (x ∷ []) (y ∷ ys) b
    (rises_has x b (y ∷ ys) h.1 (omega (arith, h.1.0, rises_le y b ys h.1.1)))

-- ---- which nodes along a side are split: none of level 0, and the parents of those that are
pub record IsBorder (b : ℕ → ℕ → Bool) : Type 0 where
  pub smallest : (m : ℕ) → b zero m ≡ false
  pub parents : (k m : ℕ) → b k m ≡ true → suc k ≤ 6 → b (suc k) (m / 2) ≡ true

-- the node m of level k along the side is not split, and is the root or has a split parent
pub record IsLeafAt (b : ℕ → ℕ → Bool) (k m : ℕ) : Type 0 where
  pub level : k ≤ 6
  pub place : m < 2 ^ (6 - k)
  pub whole : b k m ≡ false
  pub parent : (k ≡ 6) ⊎ (b (suc k) (m / 2) ≡ true)

pub record EndsLeaf (b : ℕ → ℕ → Bool) (e : ℕ) : Type 0 where
  pub k : ℕ
  pub m : ℕ
  pub leaf : IsLeafAt b k m
  pub end : e ≡ line_of k (m + 1)

pub record BeginsLeaf (b : ℕ → ℕ → Bool) : Type 0 where
  pub k : ℕ
  pub leaf : IsLeafAt b k 0

two_places : (k m : ℕ) → suc k ≤ 6 → m < 2 ^ (6 - suc k) → 2 * m + 1 < 2 ^ (6 - k)
two_places zero m h l = omega (arith, l)
two_places (suc zero) m h l = omega (arith, l)
two_places (suc (suc zero)) m h l = omega (arith, l)
two_places (suc (suc (suc zero))) m h l = omega (arith, l)
two_places (suc (suc (suc (suc zero)))) m h l = omega (arith, l)
two_places (suc (suc (suc (suc (suc zero))))) m h l = omega (arith, l)
two_places (suc (suc (suc (suc (suc (suc k)))))) m h l = absurd (omega (arith, h))

module _ (b : ℕ → ℕ → Bool) (border : IsBorder b) where
  -- each end is that of a leaf
  pub ends_are : (k m e : ℕ) → k ≤ 6 → m < 2 ^ (6 - k) → (k ≡ 6) ⊎ (b (suc k) (m / 2) ≡ true)
      → Contains (leaf_ends b k m) e → EndsLeaf b e
  ends_are zero m e h l p c = record {
    k = zero;
    m = m;
    leaf = record { level = h; place = l; whole = border.smallest m; parent = p };
    end = sym (has_one (line_of zero (m + 1)) e c);
  }
  ends_are (suc k) m e h l p c =
      go (b (suc k) m) refl c (ends_are k (2 * m) e (omega (arith, h))) (ends_are k (2 * m + 1) e (omega (arith, h)))
    where
      go : (t : Bool) → b (suc k) m ≡ t
          → Contains (if t then leaf_ends b k (2 * m) ++ leaf_ends b k (2 * m + 1) else line_of (suc k) (m + 1) ∷ []) e
          → (2 * m < 2 ^ (6 - k) → (k ≡ 6) ⊎ (b (suc k) (2 * m / 2) ≡ true) → Contains (leaf_ends b k (2 * m)) e → EndsLeaf b e)
          → (2 * m + 1 < 2 ^ (6 - k) → (k ≡ 6) ⊎ (b (suc k) ((2 * m + 1) / 2) ≡ true) → Contains (leaf_ends b k (2 * m + 1)) e → EndsLeaf b e)
          → EndsLeaf b e
      go false q c left right = record {
        k = suc k;
        m = m;
        leaf = record { level = h; place = l; whole = q; parent = p };
        end = sym (has_one (line_of (suc k) (m + 1)) e c);
      }
      go true q c left right =
          let n = two_places k m h l in
          let i : 2 * m / 2 ≡ m = omega arith in let j : (2 * m + 1) / 2 ≡ m = omega arith in
          pick (Contains-append_cases (leaf_ends b k (2 * m)) (leaf_ends b k (2 * m + 1)) e c)
          (left (omega (arith, n)) (inr (ap (b (suc k)) i ∙ q))) (right n (inr (ap (b (suc k)) j ∙ q)))
        where
          pick : Contains (leaf_ends b k (2 * m)) e ⊎ Contains (leaf_ends b k (2 * m + 1)) e
              → (Contains (leaf_ends b k (2 * m)) e → EndsLeaf b e) → (Contains (leaf_ends b k (2 * m + 1)) e → EndsLeaf b e)
              → EndsLeaf b e
          pick (inl x) f g = f x
          pick (inr x) f g = g x

  -- the first leaf
  pub first_leaf : (k : ℕ) → k ≤ 6 → (k ≡ 6) ⊎ (b (suc k) 0 ≡ true) → BeginsLeaf b
  first_leaf zero h p = record {
    k = zero;
    leaf = record { level = h; place = omega arith; whole = border.smallest 0; parent = p };
  }
  first_leaf (suc k) h p = go (b (suc k) 0) refl (first_leaf k (omega (arith, h)))
    where
      go : (t : Bool) → b (suc k) 0 ≡ t → ((k ≡ 6) ⊎ (b (suc k) 0 ≡ true) → BeginsLeaf b) → BeginsLeaf b
      go true q f = f (inr q)
      go false q f = record {
        k = suc k;
        leaf = record { level = h; place = pow_pos (6 - suc k); whole = q; parent = p };
      }

  -- ---- both ends of a leaf are among the ends
  module _ (k m : ℕ) where
    pub record HasBoth (j n : ℕ) : Type 0 where
      pub end : Contains (leaf_ends b j n) (line_of k (m + 1))
      pub begin : (line_of k m ≡ line_of j n) ⊎ Contains (leaf_ends b j n) (line_of k m)

    itself : (whole : b k m ≡ false) → HasBoth k m
    itself whole = record { end = go k refl; begin = inl refl }
      where
        go : (j : ℕ) → j ≡ k → Contains (leaf_ends b k m) (line_of k (m + 1))
        go zero e = subst (λ (i : ℕ). Contains (leaf_ends b i m) (line_of i (m + 1))) e (one_has _ _ refl)
        go (suc j) e =
            let w : b (suc j) m ≡ false = ap (λ (i : ℕ). b i m) e ∙ whole in
            subst (λ (i : ℕ). Contains (leaf_ends b i m) (line_of i (m + 1))) e
            (subst (λ (t : Bool). Contains (if t then leaf_ends b j (2 * m) ++ leaf_ends b j (2 * m + 1) else line_of (suc j) (m + 1) ∷ []) (line_of (suc j) (m + 1)))
            (sym w) (one_has _ _ refl))

    abbrev left : ℕ → ℕ → List ℕ
    left j n = leaf_ends b j (2 * (n / 2))

    abbrev right : ℕ → ℕ → List ℕ
    right j n = leaf_ends b j (2 * (n / 2) + 1)

    up : (j n : ℕ) → b (suc j) (n / 2) ≡ true → HasBoth j n → HasBoth (suc j) (n / 2)
    up j n q h = record {
      end = subst (λ (xs : List ℕ). Contains xs (line_of k (m + 1))) (sym whole) (in_half (line_of k (m + 1)) (halves_of n) h.end);
      begin = begins (halves_of n) h.begin;
    }
      where
        whole : leaf_ends b (suc j) (n / 2) ≡ (left j n) ++ (right j n)
        whole = ap (λ (t : Bool). if t then (left j n) ++ (right j n) else line_of (suc j) (n / 2 + 1) ∷ []) q

        in_half : (e : ℕ) → (n ≡ 2 * (n / 2)) ⊎ (n ≡ 2 * (n / 2) + 1) → Contains (leaf_ends b j n) e → Contains ((left j n) ++ (right j n)) e
        in_half e (inl z) c = Contains-append_left (left j n) (right j n) e (subst (λ (i : ℕ). Contains (leaf_ends b j i) e) z c)
        in_half e (inr z) c = Contains-append_right (left j n) (right j n) e (subst (λ (i : ℕ). Contains (leaf_ends b j i) e) z c)

        begins : (n ≡ 2 * (n / 2)) ⊎ (n ≡ 2 * (n / 2) + 1)
            → (line_of k m ≡ line_of j n) ⊎ Contains (leaf_ends b j n) (line_of k m)
            → (line_of k m ≡ line_of (suc j) (n / 2)) ⊎ Contains (leaf_ends b (suc j) (n / 2)) (line_of k m)
        begins z (inr c) = inr (subst (λ (xs : List ℕ). Contains xs (line_of k m)) (sym whole) (in_half (line_of k m) z c))
        begins (inl z) (inl e) = inl (e ∙ ap (line_of j) z ∙ line_left j (n / 2))
        begins (inr z) (inl e) =
            let last : Contains (left j n) (line_of j (2 * (n / 2) + 1)) =
            rises_has (line_of j (2 * (n / 2))) (line_of j (2 * (n / 2) + 1)) (left j n) (ends_rise b j (2 * (n / 2))) (next_line j (2 * (n / 2))) in
            inr (subst (λ (xs : List ℕ). Contains xs (line_of k m)) (sym whole)
            (Contains-append_left (left j n) (right j n) (line_of k m)
            (subst (λ (i : ℕ). Contains (left j n) i) (sym (e ∙ ap (line_of j) z)) last)))

    climb : (n j i : ℕ) → j + n ≡ 6 → i < 2 ^ n → (n ≡ 0) ⊎ (b (suc j) (i / 2) ≡ true) → HasBoth j i → HasBoth 6 0
    climb zero j i e l p h =
        let f : j ≡ 6 = omega (arith, e) in let g : i ≡ 0 = omega (arith, l) in
        subst (λ (o : ℕ). HasBoth 6 o) g (subst (λ (o : ℕ). HasBoth o i) f h)
    climb (suc n) j i e l (inl z) h = absurd (omega (arith, z))
    climb (suc n) j i e l (inr q) h =
        climb n (suc j) (i / 2) (omega (arith, e)) (omega (arith, l)) (next n (omega (arith, e))) (up j i q h)
      where
        next : (n : ℕ) → suc j + n ≡ 6 → (n ≡ 0) ⊎ (b (suc (suc j)) (i / 2 / 2) ≡ true)
        next zero f = inl refl
        next (suc n) f = inr (border.parents (suc j) (i / 2) q (omega (arith, f)))

    pub leaf_has : IsLeafAt b k m → HasBoth 6 0
    leaf_has leaf =
        climb (6 - k) k m (omega (arith, leaf.level)) leaf.place (go leaf.parent) (itself leaf.whole)
      where
        go : (k ≡ 6) ⊎ (b (suc k) (m / 2) ≡ true) → (6 - k ≡ 0) ⊎ (b (suc k) (m / 2) ≡ true)
        go (inl e) = inl (omega (arith, e))
        go (inr q) = inr q
