-- The columns and rows of a level.
use Rattle.std.proofs.Common.{◌≡◌, ◌∙◌, ℕ, zero, suc, ◌+◌, ◌-◌, ◌*◌, ◌/◌, ◌%◌, ◌^◌, ◌<◌, ◌≤◌, arith, true, refl, sym, ap, subst}
use Rattle.std.proofs.lemmas.Bool.Decides.{nat_tests}
use Rattle.std.proofs.lemmas.Nat.{pow_pos}
use Rattle.std.proofs.Math.Nat.{div-eq_of_lt}
use Rattle.mesh_plane.specs.Quadtree.{line_of}
use Rattle.quad_split.specs.Node.{IsNode, level_of, is_node}

pub across_small : (k : ℕ) → k < 6 → 64 / 2 ^ suc k ≤ 32
across_small zero h = omega arith
across_small (suc zero) h = omega arith
across_small (suc (suc zero)) h = omega arith
across_small (suc (suc (suc zero))) h = omega arith
across_small (suc (suc (suc (suc zero)))) h = omega arith
across_small (suc (suc (suc (suc (suc zero))))) h = omega arith
across_small (suc (suc (suc (suc (suc (suc k)))))) h = absurd (omega arith)

pub node_x : (k x y : ℕ) → is_node k x y ≡ true → x < 64 / 2 ^ k
unfolding is_node
node_x k x y h = grind (arith, nat_tests)

pub node_y : (k x y : ℕ) → is_node k x y ≡ true → y < 64 / 2 ^ k
unfolding is_node
node_y k x y h = grind (arith, nat_tests)

pub is_node_yes : (k x y : ℕ) → x < 64 / 2 ^ k → y < 64 / 2 ^ k → is_node k x y ≡ true
unfolding is_node
is_node_yes k x y h j = grind (arith, nat_tests)

-- nothing has a level above 6
pub no_level : (k : ℕ) → 64 / 2 ^ suc (suc (suc (suc (suc (suc (suc k)))))) ≡ 0
no_level k = div-eq_of_lt (omega (arith, pow_pos k))

-- there are twice as many of half the side
pub twice : (k x : ℕ) → x < 64 / 2 ^ suc (suc k) → 2 * x + 1 < 64 / 2 ^ suc k
twice zero x h = omega arith
twice (suc zero) x h = omega arith
twice (suc (suc zero)) x h = omega arith
twice (suc (suc (suc zero))) x h = omega arith
twice (suc (suc (suc (suc zero)))) x h = omega arith
twice (suc (suc (suc (suc (suc k))))) x h = let e = no_level k in absurd (omega arith)

pub level_small : (k x y : ℕ) → is_node k x y ≡ true → k ≤ 6
level_small zero x y h = omega arith
level_small (suc zero) x y h = omega arith
level_small (suc (suc zero)) x y h = omega arith
level_small (suc (suc (suc zero))) x y h = omega arith
level_small (suc (suc (suc (suc zero)))) x y h = omega arith
level_small (suc (suc (suc (suc (suc zero))))) x y h = omega arith
level_small (suc (suc (suc (suc (suc (suc zero)))))) x y h = omega arith
level_small (suc (suc (suc (suc (suc (suc (suc k))))))) x y h =
    let i = node_x (suc (suc (suc (suc (suc (suc (suc k))))))) x y h in let e = no_level k in
    absurd (omega arith)

-- a fact of each level
by_level : (P : ℕ → Type 0) → P 0 → P 1 → P 2 → P 3 → P 4 → P 5 → P 6 → (k : ℕ) → k ≤ 6 → P k
by_level P a b c d e f g zero h = a
by_level P a b c d e f g (suc zero) h = b
by_level P a b c d e f g (suc (suc zero)) h = c
by_level P a b c d e f g (suc (suc (suc zero))) h = d
by_level P a b c d e f g (suc (suc (suc (suc zero)))) h = e
by_level P a b c d e f g (suc (suc (suc (suc (suc zero))))) h = f
by_level P a b c d e f g (suc (suc (suc (suc (suc (suc zero)))))) h = g
by_level P a b c d e f g (suc (suc (suc (suc (suc (suc (suc k))))))) h = absurd (omega arith)

-- a node ends at grid line 65 or before
pub room : (k : ℕ) → k ≤ 6 → (x : ℕ) → x < 64 / 2 ^ k → (x + 1) * 2 ^ k ≤ 64
room =
    by_level (λ k. (x : ℕ) → x < 64 / 2 ^ k → (x + 1) * 2 ^ k ≤ 64)
    (λ x h. omega arith) (λ x h. omega arith) (λ x h. omega arith) (λ x h. omega arith) (λ x h. omega arith)
    (λ x h. omega arith) (λ x h. omega arith)

-- sides are at most 64
pub side_small : (k : ℕ) → k ≤ 6 → 2 ^ k ≤ 64
side_small =
    by_level (λ k. 2 ^ k ≤ 64) (omega arith) (omega arith) (omega arith) (omega arith) (omega arith)
    (omega arith) (omega arith)

pub level_of_side : (k : ℕ) → k ≤ 6 → level_of (2 ^ k) ≡ k
unfolding level_of
level_of_side = by_level (λ k. level_of (2 ^ k) ≡ k) refl refl refl refl refl refl refl

pub place_of_line : (k : ℕ) → k ≤ 6 → (x : ℕ) → (1 + x * 2 ^ k - 1) / 2 ^ k ≡ x
place_of_line =
    by_level (λ k. (x : ℕ) → (1 + x * 2 ^ k - 1) / 2 ^ k ≡ x)
    (λ x. omega arith) (λ x. omega arith) (λ x. omega arith) (λ x. omega arith) (λ x. omega arith)
    (λ x. omega arith) (λ x. omega arith)

-- the node (x, y) of level k, of which n is the side
pub record NodeFacts (k x y n : ℕ) : Type 0 where
  pub node : IsNode (record { i = 1 + x * n; j = 1 + y * n; side = n })
  pub level : level_of n ≡ k
  pub column : (1 + x * n - 1) / n ≡ x
  pub row : (1 + y * n - 1) / n ≡ y
  pub wide : x * n ≤ 63
  pub high : y * n ≤ 63

pub node_facts : (k x y n : ℕ) → is_node k x y ≡ true → n ≡ 2 ^ k → NodeFacts k x y n
node_facts k x y n h e = subst (λ (m : ℕ). NodeFacts k x y m) (sym e) (whole (2 ^ k) refl)
  where
    whole : (m : ℕ) → m ≡ 2 ^ k → NodeFacts k x y (2 ^ k)
    whole m d =
        let l = level_small k x y h in
        let c = level_of_side k l in
        let p = place_of_line k l x in let q = place_of_line k l y in
        let r = room k l x (node_x k x y h) in let s = room k l y (node_y k x y h) in
        record {
          node = record {
            side = ap (λ (i : ℕ). 2 ^ i) (sym c);
            column = sym (ap (λ (i : ℕ). line_of i ((1 + x * 2 ^ k - 1) / 2 ^ k)) c ∙ ap (line_of k) p);
            row = sym (ap (λ (i : ℕ). line_of i ((1 + y * 2 ^ k - 1) / 2 ^ k)) c ∙ ap (line_of k) q);
            east = omega (arith, r);
            north = omega (arith, s);
          };
          level = c;
          column = p;
          row = q;
          wide = omega (arith, r, pow_pos k);
          high = omega (arith, s, pow_pos k);
        }

-- a place of a node, which begins at lines that are a side apart
pub same_side : (k x y : ℕ) → is_node k x y ≡ true → 1 * 2 ^ k % 256 ≡ 2 ^ k
same_side k x y h = omega (arith, side_small k (level_small k x y h))
