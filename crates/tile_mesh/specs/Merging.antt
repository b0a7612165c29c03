-- What the merge of a strip's two lines gives.
use Rattle.std.specs.Prelude.{◌≡◌, ℕ, ◌<◌, ◌≤◌, List, [], ◌∷◌, AllPairs}
use Rattle.mesh_plane.specs.Triangles.{Step, Outer, Inner}
use Rattle.tile_mesh.specs.Merge.{merge}

-- the points of each line, in the order in which they are taken
abbrev pub outers_in : List (Step ℕ) → List ℕ
outers_in [] = []
outers_in (Outer i ∷ steps) = i ∷ outers_in steps
outers_in (Inner i ∷ steps) = outers_in steps

abbrev pub inners_in : List (Step ℕ) → List ℕ
inners_in [] = []
inners_in (Outer i ∷ steps) = inners_in steps
inners_in (Inner i ∷ steps) = i ∷ inners_in steps

-- by their indexes, and the outer one first where an outer and an inner point have the same
abbrev pub ComesBefore : Step ℕ → Step ℕ → Type 0
ComesBefore (Outer i) (Outer j) = i < j
ComesBefore (Outer i) (Inner j) = i ≤ j
ComesBefore (Inner i) (Outer j) = i < j
ComesBefore (Inner i) (Inner j) = i < j

-- all points of both lines are taken, each once, in this order
pub record IsMerge (xs ys : List ℕ) (steps : List (Step ℕ)) : Type 0 where
  pub outer : outers_in steps ≡ xs
  pub inner : inners_in steps ≡ ys
  pub order : AllPairs ComesBefore steps

abbrev pub MergeLaw : Type 0
MergeLaw = (xs ys : List ℕ) → AllPairs (λ i j. i < j) xs → AllPairs (λ i j. i < j) ys
    → IsMerge xs ys (merge xs ys)
