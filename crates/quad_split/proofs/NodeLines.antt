-- The grid lines of a node.
use Rattle.std.proofs.Common.{◌≡◌, ℕ, suc, ◌+◌, ◌-◌, ◌*◌, ◌/◌, ◌^◌, ◌<◌, ◌≤◌, arith, ap, ◌∙◌}
use Rattle.std.proofs.lemmas.Bool.Decides.{nat_tests}
use Rattle.std.proofs.lemmas.Nat.{mul-le, pow_pos}
use Rattle.mesh_plane.specs.Quadtree.{line_of}
use Rattle.quad_split.specs.Node.{level_of}

pub level_above : (side : ℕ) → 2 ≤ side → 1 ≤ level_of side
unfolding level_of
level_above side h = grind (arith, nat_tests)

pub level_is : (side : ℕ) → 2 ≤ side → level_of side ≡ suc (level_of side - 1)
level_is side h = omega (arith, level_above side h)

-- the middle line and the last one of a node that begins at i
pub middle_line : (i side k x : ℕ) → side ≡ 2 ^ suc k → i ≡ line_of (suc k) x → i + side / 2
    ≡ line_of k (2 * x + 1)
middle_line i side k x s e = go (2 ^ k) side (s ∙ twice k) (e ∙ ap (λ (n : ℕ). 1 + x * n) (twice k))
  where
    twice : (k : ℕ) → 2 ^ suc k ≡ 2 * 2 ^ k
    twice k = omega arith

    go : (p side : ℕ) → side ≡ 2 * p → i ≡ 1 + x * (2 * p) → i + side / 2 ≡ 1 + (2 * x + 1) * p
    go p side s e = omega arith

pub last_line : (i side k x : ℕ) → side ≡ 2 ^ k → i ≡ line_of k x → i + side ≡ line_of k (x + 1)
last_line i side k x s e = go (2 ^ k) s e
  where
    go : (p : ℕ) → side ≡ p → i ≡ 1 + x * p → i + side ≡ 1 + (x + 1) * p
    go p s e = omega arith

pub level_most : (side : ℕ) → level_of side ≤ 6
unfolding level_of
level_most side = grind (arith, nat_tests)

-- grid lines of nodes are in the order of their numbers
pub line_le : (k a b : ℕ) → a ≤ b → line_of k a ≤ line_of k b
line_le k a b h = omega (arith, mul-le a (2 ^ k) b (2 ^ k) h (omega arith))

pub line_lt : (k a b : ℕ) → a < b → line_of k a < line_of k b
line_lt k a b h = omega (arith, pow_pos k, mul-le (a + 1) (2 ^ k) b (2 ^ k) (omega arith) (omega arith))

pub number_le : (k a b : ℕ) → line_of k a ≤ line_of k b → a ≤ b
number_le k a b h = by_le a b (λ l. l) (λ l. absurd (omega (arith, line_lt k b a l)))
  where
    by_le : {P : Type 0} (m n : ℕ) → (m ≤ n → P) → (n < m → P) → P
    by_le m n f g = grind arith

pub number_lt : (k a b : ℕ) → line_of k a < line_of k b → a < b
number_lt k a b h = by_lt a b (λ l. l) (λ l. absurd (omega (arith, line_le k b a l)))
  where
    by_lt : {P : Type 0} (m n : ℕ) → (m < n → P) → (n ≤ m → P) → P
    by_lt m n f g = grind arith
