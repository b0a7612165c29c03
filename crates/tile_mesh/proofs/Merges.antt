-- The merge ascends, ends where its lists end, and has the points of both lists.
use Rattle.std.proofs.Common.{◌≡◌, ℕ, ◌<◌, true, false, cond, List, [], ◌∷◌, map, nat_le, refl, ap}
use Rattle.mesh_plane.specs.Triangles.{Step, Outer, Inner, outer_end, inner_end}
use Rattle.mesh_plane.proofs.StripHeights.{outers, inners}
use Rattle.mesh_plane.proofs.FrameHeights.{last_of}
use Rattle.tile_mesh.specs.Kept.{Rises}
use Rattle.tile_mesh.specs.Merge.{outer_after, merge}

-- each step goes further along its line than the one before it there
abbrev pub Ascend : ℕ → ℕ → List (Step ℕ) → Type 0
Ascend o n [] = Unit {0}
Ascend o n (Outer x ∷ steps) = (o < x) × Ascend x n steps
Ascend o n (Inner x ∷ steps) = (n < x) × Ascend o x steps

abbrev pub Climbs : ℕ → List ℕ → Type 0
Climbs a [] = Unit {0}
Climbs a (x ∷ xs) = (a < x) × Climbs x xs

pub rises_climbs : (a b : ℕ) (xs : List ℕ) → Rises a xs b → Climbs a xs
rises_climbs a b [] h = tt
rises_climbs a b (x ∷ xs) h = (h.0, rises_climbs x b xs h.1)

pub rises_last : (a b : ℕ) (xs : List ℕ) → Rises a xs b → last_of a xs ≡ b
rises_last a b [] h = h
rises_last a b (x ∷ xs) h = rises_last x b xs h.1

inner_ascend : (o n : ℕ) (ys : List ℕ) → Climbs n ys → Ascend o n (map Inner ys)
inner_ascend o n [] h = tt
inner_ascend o n (y ∷ ys) h = (h.0, inner_ascend o y ys h.1)

-- the steps up to x and on, if the rest ascends from any inner point
after_ascends : (o n x : ℕ) (rest : List ℕ → List (Step ℕ)) → o < x → ((m : ℕ) (zs : List ℕ) → Climbs m zs → Ascend x m (rest zs)) → (ys : List ℕ) → Climbs n ys → Ascend o n (outer_after x rest ys)
after_ascends o n x rest l f [] h = (l, f n [] h)
after_ascends o n x rest l f (y ∷ ys) h = (elim (nat_le x y) as (λ b. Ascend o n (cond b (Outer x ∷ rest (y ∷ ys)) (Inner y ∷ outer_after x rest ys))) [
  | true ↦ (l, f n (y ∷ ys) h)
  | false ↦ (h.0, after_ascends o y x rest l f ys h.1)
])

pub merge_ascends : (o n : ℕ) (xs ys : List ℕ) → Climbs o xs → Climbs n ys → Ascend o n (merge xs ys)
merge_ascends o n [] ys h k = inner_ascend o n ys k
merge_ascends o n (x ∷ xs) ys h k = after_ascends o n x (merge xs) h.0 (λ m zs j. merge_ascends x m xs zs h.1 j) ys k

-- ---- the ends
inner_outer : (o : ℕ) (ys : List ℕ) → outer_end o (map Inner ys) ≡ o
inner_outer o [] = refl
inner_outer o (y ∷ ys) = inner_outer o ys

inner_inner : (n : ℕ) (ys : List ℕ) → inner_end n (map Inner ys) ≡ last_of n ys
inner_inner n [] = refl
inner_inner n (y ∷ ys) = inner_inner y ys

outer_after_outer : (o e x : ℕ) (rest : List ℕ → List (Step ℕ)) → ((zs : List ℕ) → outer_end x (rest zs) ≡ e) → (ys : List ℕ) → outer_end o (outer_after x rest ys) ≡ e
outer_after_outer o e x rest f [] = f []
outer_after_outer o e x rest f (y ∷ ys) = (elim (nat_le x y) as (λ b. outer_end o (cond b (Outer x ∷ rest (y ∷ ys)) (Inner y ∷ outer_after x rest ys)) ≡ e) [
  | true ↦ f (y ∷ ys)
  | false ↦ outer_after_outer o e x rest f ys
])

pub merge_outer : (o : ℕ) (xs ys : List ℕ) → outer_end o (merge xs ys) ≡ last_of o xs
merge_outer o [] ys = inner_outer o ys
merge_outer o (x ∷ xs) ys = outer_after_outer o (last_of x xs) x (merge xs) (merge_outer x xs) ys

outer_after_inner : (n x : ℕ) (rest : List ℕ → List (Step ℕ)) → ((m : ℕ) (zs : List ℕ) → inner_end m (rest zs) ≡ last_of m zs) → (ys : List ℕ) → inner_end n (outer_after x rest ys) ≡ last_of n ys
outer_after_inner n x rest f [] = f n []
outer_after_inner n x rest f (y ∷ ys) = (elim (nat_le x y) as (λ b. inner_end n (cond b (Outer x ∷ rest (y ∷ ys)) (Inner y ∷ outer_after x rest ys)) ≡ last_of y ys) [
  | true ↦ f n (y ∷ ys)
  | false ↦ outer_after_inner y x rest f ys
])

pub merge_inner : (n : ℕ) (xs ys : List ℕ) → inner_end n (merge xs ys) ≡ last_of n ys
merge_inner n [] ys = inner_inner n ys
merge_inner n (x ∷ xs) ys = outer_after_inner n x (merge xs) (λ m zs. merge_inner m xs zs) ys

-- ---- the points of each line, in their order
no_outers : (ys : List ℕ) → outers (map Inner ys) ≡ []
no_outers [] = refl
no_outers (y ∷ ys) = no_outers ys

all_inners : (ys : List ℕ) → inners (map Inner ys) ≡ ys
all_inners [] = refl
all_inners (y ∷ ys) = ap (λ (zs : List ℕ). y ∷ zs) (all_inners ys)

after_outers : (x : ℕ) (xs : List ℕ) (rest : List ℕ → List (Step ℕ)) → ((zs : List ℕ) → outers (rest zs) ≡ xs) → (ys : List ℕ) → outers (outer_after x rest ys) ≡ x ∷ xs
after_outers x xs rest f [] = ap (λ (zs : List ℕ). x ∷ zs) (f [])
after_outers x xs rest f (y ∷ ys) = (elim (nat_le x y) as (λ b. outers (cond b (Outer x ∷ rest (y ∷ ys)) (Inner y ∷ outer_after x rest ys)) ≡ x ∷ xs) [
  | true ↦ ap (λ (zs : List ℕ). x ∷ zs) (f (y ∷ ys))
  | false ↦ after_outers x xs rest f ys
])

pub merge_outers : (xs ys : List ℕ) → outers (merge xs ys) ≡ xs
merge_outers [] ys = no_outers ys
merge_outers (x ∷ xs) ys = after_outers x xs (merge xs) (merge_outers xs) ys

after_inners : (x : ℕ) (rest : List ℕ → List (Step ℕ)) → ((zs : List ℕ) → inners (rest zs) ≡ zs) → (ys : List ℕ) → inners (outer_after x rest ys) ≡ ys
after_inners x rest f [] = f []
after_inners x rest f (y ∷ ys) = (elim (nat_le x y) as (λ b. inners (cond b (Outer x ∷ rest (y ∷ ys)) (Inner y ∷ outer_after x rest ys)) ≡ y ∷ ys) [
  | true ↦ f (y ∷ ys)
  | false ↦ ap (λ (zs : List ℕ). y ∷ zs) (after_inners x rest f ys)
])

pub merge_inners : (xs ys : List ℕ) → inners (merge xs ys) ≡ ys
merge_inners [] ys = all_inners ys
merge_inners (x ∷ xs) ys = after_inners x (merge xs) (merge_inners xs) ys
