-- A bit for each node of side 2 to 64.
use Rattle.std.specs.Prelude.{◌≡◌, ◌≢◌, ℕ, zero, suc, ◌+◌, ◌*◌, ◌≤◌, ℤ, ◌&&◌, Bool, false, List, slice_index_or}
use Rattle.quad_split.specs.Node.{is_node}
use Rattle.quad_split.specs.Split.{is_split}

-- the bit of the node (x, y) of level k: false where there is no such node, and at side 1
abbrev pub bit_at : List Bool → ℕ → ℕ → ℕ → Bool
bit_at bits zero x y = false
bit_at bits (suc k) x y = is_node (suc k) x y && slice_index_or bits (1024 * k + 32 * y + x) false

-- the bits of level k say which nodes are split
abbrev pub IsRight : List ℤ → ℕ → List Bool → ℕ → Type 0
IsRight grid tol bits k = (x y : ℕ) → bit_at bits k x y ≡ is_split grid tol k x y

-- so do those of all levels
abbrev pub IsSplitMap : List ℤ → ℕ → List Bool → Type 0
IsSplitMap grid tol bits = (k : ℕ) → k ≤ 6 → IsRight grid tol bits k

-- the bits have the row y of level k + 1, and are as before elsewhere
pub record IsRowFilled (grid : List ℤ) (tol k y : ℕ) (old bits : List Bool) : Type 0 where
  pub here : (x : ℕ) → bit_at bits (suc k) x y ≡ is_split grid tol (suc k) x y
  pub others : (x z : ℕ) → z ≢ y → bit_at bits (suc k) x z ≡ bit_at old (suc k) x z
  pub lower : (l x z : ℕ) → l ≤ k → bit_at bits l x z ≡ bit_at old l x z
