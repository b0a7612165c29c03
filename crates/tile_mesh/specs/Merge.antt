-- The order in which a strip takes the points of its two lines.
use Rattle.std.specs.Prelude.{ℕ, List, [], ◌∷◌, map, nat_le, if◌then◌else◌}
use Rattle.mesh_plane.specs.Triangles.{Step, Outer, Inner}

-- the inner points whose index is below x, then the outer point x, then the rest
abbrev pub outer_after : ℕ → (List ℕ → List (Step ℕ)) → List ℕ → List (Step ℕ)
outer_after x rest [] = Outer x ∷ rest []
outer_after x rest (y ∷ ys) =
    if nat_le x y then Outer x ∷ rest (y ∷ ys)
    else Inner y ∷ outer_after x rest ys

-- all points by their index, the outer one first where an outer and an inner one have the same
abbrev pub merge : List ℕ → List ℕ → List (Step ℕ)
merge [] ys = map Inner ys
merge (x ∷ xs) ys = outer_after x (merge xs) ys
