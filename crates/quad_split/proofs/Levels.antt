-- The bits of the nodes of a level.
use Rattle.std.proofs.Common.{◌≡◌, ℕ, zero, suc, ◌+◌, ◌-◌, ◌*◌, ◌/◌, ◌^◌, ◌<◌, ◌≤◌, refl, sym, ◌∙◌, arith, Bool, true, false, not, ◌&&◌, ◌||◌, List, length, set, get_or, subst}
use Rattle.std.specs.Prelude.{ℤ}
use Rattle.std.proofs.lemmas.List.{get_or-set_same, get_or-set_other}
use Rattle.quad_split.specs.Fits.{fits_at}
use Rattle.quad_split.specs.Node.{is_node}
use Rattle.quad_split.specs.Split.{touching, is_split}
use Rattle.quad_split.specs.SplitMap.{bit_at, IsRight}
use Rattle.quad_split.proofs.Nodes.{across_small, node_x, node_y, is_node_yes}

pub touching_same : (f g : ℕ → ℕ → Bool) → ((x y : ℕ) → f x y ≡ g x y) → (x y : ℕ) → touching f x y
    ≡ touching g x y
touching_same f g h x y = simp h

-- a bit of this level at another place
pub set_other : (bits : List Bool) (k x y u v : ℕ) (b : Bool) → k < 6 → x < 64 / 2 ^ suc k
    → y < 64 / 2 ^ suc k → (u ≡ x → v ≡ y → ⊥) → bit_at (set bits (1024 * k + 32 * y + x) b) (suc k) u v
    ≡ bit_at bits (suc k) u v
set_other bits k x y u v b l hx hy d = go (is_node (suc k) u v) refl
  where
    go : (n : Bool) → is_node (suc k) u v ≡ n → (n
        && get_or (set bits (1024 * k + 32 * y + x) b) (1024 * k + 32 * v + u) false)
        ≡ (n && get_or bits (1024 * k + 32 * v + u) false)
    go false e = refl
    go true e =
        let a = across_small k l in
        let p = node_x (suc k) u v e in let q = node_y (suc k) u v e in
        get_or-set_other bits (1024 * k + 32 * y + x) (1024 * k + 32 * v + u) b false
        (λ i. d (omega arith) (omega arith))

-- the bit that was set
pub set_same : (bits : List Bool) (k x y : ℕ) (b : Bool) → k < 6 → x < 64 / 2 ^ suc k
    → y < 64 / 2 ^ suc k → length bits ≡ 6144 → bit_at (set bits (1024 * k + 32 * y + x) b) (suc k) x y ≡ b
set_same bits k x y b l hx hy n =
    let a = across_small k l in
    rw (is_node_yes (suc k) x y hx hy) (get_or-set_same bits (1024 * k + 32 * y + x) b false (omega arith))

-- a bit of a lower level
pub set_lower : (bits : List Bool) (k x y : ℕ) (b : Bool) → k < 6 → (l u v : ℕ) → l ≤ k
    → bit_at (set bits (1024 * k + 32 * y + x) b) l u v ≡ bit_at bits l u v
set_lower bits k x y b h zero u v i = refl
set_lower bits k x y b h (suc l) u v i = go (is_node (suc l) u v) refl
  where
    go : (n : Bool) → is_node (suc l) u v ≡ n → (n
        && get_or (set bits (1024 * k + 32 * y + x) b) (1024 * l + 32 * v + u) false)
        ≡ (n && get_or bits (1024 * l + 32 * v + u) false)
    go false e = refl
    go true e =
        let a = across_small l (omega arith) in
        let p = node_x (suc l) u v e in let q = node_y (suc l) u v e in
        get_or-set_other bits (1024 * k + 32 * y + x) (1024 * l + 32 * v + u) b false (λ j. absurd
        (omega arith))

pub in_bounds : (k x y n : ℕ) → 1 ≤ k → k ≤ 6 → is_node k x y ≡ true → n ≡ 6144
    → 1024 * (k - 1) + 32 * y + x < n
in_bounds zero x y n a b h e = absurd (omega arith)
in_bounds (suc k) x y n a b h e = let s = across_small k (omega arith) in
    let p = node_x (suc k) x y h in let q = node_y (suc k) x y h in omega arith

pub bit_no : (bits : List Bool) (k x y : ℕ) → is_node k x y ≡ false → false ≡ bit_at bits k x y
bit_no bits zero x y h = refl
bit_no bits (suc k) x y h = rw h

pub bit_yes : (bits : List Bool) (k x y : ℕ) → 1 ≤ k → is_node k x y ≡ true
    → get_or bits (1024 * (k - 1) + 32 * y + x) false ≡ bit_at bits k x y
bit_yes bits zero x y a h = absurd (omega arith)
bit_yes bits (suc k) x y a h = let e : suc k - 1 ≡ k = omega arith in rw (h, e)

-- the row as far as x, and as far as x + 1
pub here_on : (grid : List ℤ) (tol k x y : ℕ) (bits : List Bool) (b : Bool) → k < 6 → x < 64 / 2 ^ suc k
    → y < 64 / 2 ^ suc k → length bits ≡ 6144 → IsRight grid tol bits k
    → b ≡ (not (fits_at grid tol (suc k) x y) || touching (bit_at bits k) x y)
    → ((u : ℕ) → u < x → bit_at bits (suc k) u y ≡ is_split grid tol (suc k) u y)
    → (u : ℕ) → u < x + 1 → bit_at (set bits (1024 * k + 32 * y + x) b) (suc k) u y
    ≡ is_split grid tol (suc k) u y
here_on grid tol k x y bits b l hx hy n right e before u i = by_cases
    (λ h. set_other bits k x y u y b l hx hy (λ c d. omega arith) ∙ before u h) (λ h. at_x u h)
  where
    at_x : (u : ℕ) → u ≡ x → bit_at (set bits (1024 * k + 32 * y + x) b) (suc k) u y
        ≡ is_split grid tol (suc k) u y
    at_x u h = rw h (set_same bits k x y b l hx hy n ∙ e
        ∙ rw (is_node_yes (suc k) x y hx hy, touching_same (bit_at bits k) (is_split grid tol k) right x y))

    by_cases : {P : Type 0} → (u < x → P) → (u ≡ x → P) → P
    by_cases f g = grind arith

-- past the last node of a row there is none
pub row_end : (grid : List ℤ) (tol k y : ℕ) (bits : List Bool) → ((u : ℕ) → u < 64 / 2 ^ suc k
    → bit_at bits (suc k) u y ≡ is_split grid tol (suc k) u y) → (u : ℕ) → bit_at bits (suc k) u y
    ≡ is_split grid tol (suc k) u y
row_end grid tol k y bits h u = go (is_node (suc k) u y) refl
  where
    go : (n : Bool) → is_node (suc k) u y ≡ n → bit_at bits (suc k) u y ≡ is_split grid tol (suc k) u y
    go false e = rw e
    go true e = h u (node_x (suc k) u y e)

pub by_last : {P : Type 0} (v y : ℕ) → v < y + 1 → (v < y → P) → (v ≡ y → P) → P
by_last v y i f g = grind arith

-- above the last row there is none
pub level_end : (grid : List ℤ) (tol k : ℕ) (bits : List Bool) → ((v : ℕ) → v < 64 / 2 ^ suc k → (u : ℕ)
    → bit_at bits (suc k) u v ≡ is_split grid tol (suc k) u v) → IsRight grid tol bits (suc k)
level_end grid tol k bits h u v = go (is_node (suc k) u v) refl
  where
    go : (n : Bool) → is_node (suc k) u v ≡ n → bit_at bits (suc k) u v ≡ is_split grid tol (suc k) u v
    go false e = rw e
    go true e = h v (node_y (suc k) u v e) u

pub level_same : (grid : List ℤ) (tol k l : ℕ) (bits : List Bool) → l ≡ k → IsRight grid tol bits k
    → IsRight grid tol bits l
level_same grid tol k l bits e h = let P : ℕ → Type 0 = λ n. IsRight grid tol bits n in subst P (sym e) h

pub row_here : (grid : List ℤ) (tol k y v : ℕ) (bits : List Bool) → v ≡ y → ((u : ℕ)
    → bit_at bits (suc k) u y ≡ is_split grid tol (suc k) u y) → (u : ℕ) → bit_at bits (suc k) u v
    ≡ is_split grid tol (suc k) u v
row_here grid tol k y v bits e h = let P : ℕ → Type 0 = λ n. (u : ℕ) → bit_at bits (suc k) u n
    ≡ is_split grid tol (suc k) u n in subst P (sym e) h
