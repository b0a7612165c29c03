-- A node whose child is split is split.
use Rattle.std.proofs.Common.{◌≡◌, ℕ, zero, suc, ◌+◌, ◌-◌, ◌*◌, ◌/◌, ◌^◌, ◌<◌, ◌≤◌, arith, Bool, true, not, ◌&&◌, ◌||◌, List, ap, sym, ◌∙◌, inl, inr}
use Rattle.std.specs.Prelude.{ℤ, ◌⊎◌}
use Rattle.std.proofs.lemmas.Bool.{or_right, or_left}
use Rattle.quad_split.specs.Node.{is_node}
use Rattle.quad_split.specs.Fits.{fits_at}
use Rattle.quad_split.specs.Split.{touching, is_split}
use Rattle.quad_split.proofs.Nodes.{node_x, node_y, is_node_yes}
use Rattle.quad_split.proofs.Nearby.{split_is_node}

pub halves_of : (x : ℕ) → (x ≡ 2 * (x / 2)) ⊎ (x ≡ 2 * (x / 2) + 1)
halves_of x = go (x - 2 * (x / 2)) (omega arith) (omega arith)
  where
    go : (r : ℕ) → x ≡ 2 * (x / 2) + r → r < 2 → (x ≡ 2 * (x / 2)) ⊎ (x ≡ 2 * (x / 2) + 1)
    go zero e l = inl (omega (arith, e))
    go (suc zero) e l = inr e
    go (suc (suc r)) e l = absurd (omega (arith, l))

pub half_place : (k x : ℕ) → suc k ≤ 6 → x < 64 / 2 ^ k → x / 2 < 64 / 2 ^ suc k
half_place zero x h l = omega (arith, l)
half_place (suc zero) x h l = omega (arith, l)
half_place (suc (suc zero)) x h l = omega (arith, l)
half_place (suc (suc (suc zero))) x h l = omega (arith, l)
half_place (suc (suc (suc (suc zero)))) x h l = omega (arith, l)
half_place (suc (suc (suc (suc (suc zero))))) x h l = omega (arith, l)
half_place (suc (suc (suc (suc (suc (suc k)))))) x h l = absurd (omega (arith, h))

-- one of the four quarters is touched
touched : (f : ℕ → ℕ → Bool) (x y u v : ℕ) → f u v ≡ true → (u ≡ 2 * x) ⊎ (u ≡ 2 * x + 1) → (v ≡ 2 * y) ⊎ (v ≡ 2 * y + 1)
    → touching f x y ≡ true
touched f x y u v e (inl a) (inl b) =
    or_left (f (2 * x) (2 * y)) _ (ap (λ (i : ℕ). f i (2 * y)) (sym a) ∙ ap (f u) (sym b) ∙ e)
touched f x y u v e (inr a) (inl b) =
    or_right (f (2 * x) (2 * y)) _
    (or_left (f (2 * x + 1) (2 * y)) _ (ap (λ (i : ℕ). f i (2 * y)) (sym a) ∙ ap (f u) (sym b) ∙ e))
touched f x y u v e (inl a) (inr b) =
    or_right (f (2 * x) (2 * y)) _ (or_right (f (2 * x + 1) (2 * y)) _
    (or_left (f (2 * x) (2 * y + 1)) _ (ap (λ (i : ℕ). f i (2 * y + 1)) (sym a) ∙ ap (f u) (sym b) ∙ e)))
touched f x y u v e (inr a) (inr b) =
    or_right (f (2 * x) (2 * y)) _ (or_right (f (2 * x + 1) (2 * y)) _ (or_right (f (2 * x) (2 * y + 1)) _
    (or_left (f (2 * x + 1) (2 * y + 1)) _ (ap (λ (i : ℕ). f i (2 * y + 1)) (sym a) ∙ ap (f u) (sym b) ∙ e))))

pub parent_split : (grid : List ℤ) (tol k x y : ℕ) → is_split grid tol k x y ≡ true → suc k ≤ 6
    → is_split grid tol (suc k) (x / 2) (y / 2) ≡ true
parent_split grid tol k x y e l =
    let n = split_is_node grid tol k x y e in
    let node : is_node (suc k) (x / 2) (y / 2) ≡ true =
    is_node_yes (suc k) (x / 2) (y / 2) (half_place k x l (node_x k x y n)) (half_place k y l (node_y k x y n)) in
    let touch = touched (is_split grid tol k) (x / 2) (y / 2) x y e (halves_of x) (halves_of y) in
    ap (λ (b : Bool). b && (not (fits_at grid tol (suc k) (x / 2) (y / 2)) || touching (is_split grid tol k) (x / 2) (y / 2))) node
    ∙ or_right (not (fits_at grid tol (suc k) (x / 2) (y / 2))) (touching (is_split grid tol k) (x / 2) (y / 2)) touch
