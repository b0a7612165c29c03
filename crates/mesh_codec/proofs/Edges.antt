-- The lists along the edges of a mesh.
use Rattle.std.proofs.Common.{◌≡◌, ℕ, List, refl}
use Rattle.terrain_base.specs.declared.side.Side.{Side}
use Rattle.terrain_base.specs.declared.side.Side.TheVariants.{West, South, East, North}
use Rattle.mesh_codec.specs.Mesh.{Mesh, edge_of, with_list}

pub edge_of_list : (mesh : Mesh) (edge : Side) (list : List ℕ) → edge_of (with_list mesh edge list) edge ≡ list
edge_of_list mesh West list = refl
edge_of_list mesh South list = refl
edge_of_list mesh East list = refl
edge_of_list mesh North list = refl

pub with_list_again : (mesh : Mesh) (edge : Side) (list other : List ℕ) → with_list (with_list mesh edge list) edge other ≡ with_list mesh edge other
with_list_again mesh West list other = refl
with_list_again mesh South list other = refl
with_list_again mesh East list other = refl
with_list_again mesh North list other = refl

pub same_list : (mesh : Mesh) (edge : Side) → with_list mesh edge (edge_of mesh edge) ≡ mesh
same_list mesh West = refl
same_list mesh South = refl
same_list mesh East = refl
same_list mesh North = refl

pub vertices_of_list : (mesh : Mesh) (edge : Side) (list : List ℕ) → (with_list mesh edge list).vertices ≡ mesh.vertices
vertices_of_list mesh West list = refl
vertices_of_list mesh South list = refl
vertices_of_list mesh East list = refl
vertices_of_list mesh North list = refl
