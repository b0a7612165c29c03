-- The mesh that is made.
use Rattle.std.proofs.Common.{◌≡◌, ℕ, Ok, Err, Result, IfOk, subst, List, [], map, refl, ap, sym, ◌∙◌, Bool, true, false, zero, suc}
use Rattle.std.specs.Prelude.{ℤ}
use Rattle.std.proofs.Math.Path.{fun_ext}
use Rattle.mesh_plane.specs.declared.corner.Tri.{Tri}
use Rattle.mesh_plane.specs.Cover.{Covers}
use Rattle.mesh_plane.specs.Triangles.{Triple}
use Rattle.terrain_base.specs.Grid.{tolerance_of}
use Rattle.terrain_base.specs.declared.indexes.Indexes.{Indexes}
use Rattle.quad_split.specs.Node.{is_node}
use Rattle.quad_split.specs.Split.{is_split}
use Rattle.quad_split.specs.SplitMap.{bit_at, IsSplitMap}
use Rattle.quad_split.proofs.Nodes.{level_small}
use Rattle.tile_mesh.specs.declared.point.GridPoint.{GridPoint}
use Rattle.tile_mesh.specs.Mesh.{mesh_on, mesh_from, edge_heights, kept_on, mesh_of_grid}
use Rattle.tile_mesh.specs.Numbers.{first_uses, corners, numbered, Adds}
use Rattle.tile_mesh.specs.Plane.{triangles_in}
use Rattle.tile_mesh.specs.Rule.{triangles_of}
use Rattle.tile_mesh.proofs.Corners.{triangles_placed}
use Rattle.tile_mesh.proofs.Framing.{triangles_cover}
use Rattle.tile_mesh.proofs.KeptLists.{kept_to_66}
use Rattle.tile_mesh.proofs.Steps.{keys_after, numbered_are}

pub is_mesh : (grid : List ℤ) (ts : List (Triple GridPoint)) (points : List GridPoint) (is : List Indexes)
    → Adds ts [] points [] is → mesh_on grid points is ≡ mesh_from grid ts
is_mesh grid ts points is h =
    let firsts : points ≡ first_uses [] (corners ts) = h.points ∙ keys_after (corners ts) [] in
    let places : is ≡ map (numbered points) ts =
    h.triangles ∙ numbered_are ts [] ∙ ap (λ (ks : List GridPoint). map (numbered ks) ts) (sym h.points) in
    ap (λ (js : List Indexes). mesh_on grid points js) places
    ∙ ap (λ (ks : List GridPoint). mesh_on grid ks (map (numbered ks) ts)) firsts

-- the map of bits as a rule of splitting
pub same_split : (grid : List ℤ) (tol : ℕ) (bits : List Bool) → IsSplitMap grid tol bits → bit_at bits ≡ is_split grid tol
same_split grid tol bits h = fun_ext (λ k. fun_ext (λ x. fun_ext (λ y. same_at k x y)))
  where
    no_node : (k x y : ℕ) → is_node (suc k) x y ≡ false → bit_at bits (suc k) x y ≡ is_split grid tol (suc k) x y
    no_node k x y e = rw e refl

    at_place : (k x y : ℕ) (b : Bool) → is_node (suc k) x y ≡ b → bit_at bits (suc k) x y ≡ is_split grid tol (suc k) x y
    at_place k x y true e = h (suc k) (level_small (suc k) x y e) x y
    at_place k x y false e = no_node k x y e

    same_at : (k x y : ℕ) → bit_at bits k x y ≡ is_split grid tol k x y
    same_at zero x y = refl
    same_at (suc k) x y = at_place k x y (is_node (suc k) x y) refl

-- what holds of a value, if there is one, by what is known of it
pub if_ok : {T E : Type 0} (r : Result T E) (P Q : T → Type 0) → ((x : T) → P x → Q x) → IfOk r P → IfOk r Q
if_ok (Ok x) P Q f h = f x h
if_ok (Err e) P Q f h = h

pub mesh_covers : (grid : List ℤ) (z : ℕ) → Covers (triangles_in (mesh_of_grid grid z))
unfolding mesh_of_grid
mesh_covers grid z =
    let tol = tolerance_of z in let ts = triangles_of (is_split grid tol) (kept_on grid tol) in
    subst (λ (us : List Tri). Covers us) (sym (triangles_placed grid ts))
    (triangles_cover grid tol (kept_on grid tol) (λ side. kept_to_66 (edge_heights grid side) tol))
