-- Levels of a mesh, sorted and each once.
use Rattle.std.proofs.Common.{◌≡◌, ℕ, zero, suc, ◌<◌, refl, ap, sym, subst, ◌∙◌, arith, List, [], ◌∷◌, map, eqb, length}
use Rattle.std.proofs.Common.{slice_index_or, IsPermutation}
use Rattle.std.specs.Prelude.{ℤ, pos, Contains}
use Rattle.std.specs.List.{dedup}
use Rattle.std.proofs.lemmas.List.Sorted.{Contains-permutation, IsPermutation-sym}
use Rattle.std.proofs.lemmas.List.Kept.{Contains-dedup_nat, Contains-from_dedup}
use Rattle.mesh_codec.specs.declared.codes.Codes.{Codes}
use Rattle.mesh_codec.specs.Mesh.{Mesh}
use Rattle.mesh_check.specs.CodeMesh.{levels_of, AreLevels}
use Rattle.mesh_check.proofs.ListFacts.{any_default}

module _ {X Y : Type 0} (f : X → Y) where
  pub map_length : (xs : List X) → length (map f xs) ≡ length xs
  map_length [] = refl
  map_length (x ∷ xs) = let e : length (map f xs) ≡ length xs = map_length xs in omega (arith, e)

  pub map_at : (xs : List X) (k : ℕ) (d : Y) (e : X) → k < length xs → slice_index_or (map f xs) k d ≡ f
      (slice_index_or xs k e)
  map_at [] k d e l = absurd (omega (arith, l))
  map_at (x ∷ xs) zero d e l = refl
  map_at (x ∷ xs) (suc k) d e l = map_at xs k d e (omega (arith, l))

  pub map_has : (xs : List X) (x : X) → Contains xs x → Contains (map f xs) (f x)
  map_has xs x c = let e : length (map f xs) ≡ length xs = map_length xs in
      (c.0, omega (arith, c.1, e), map_at xs c.0 (f x) x c.1 ∙ ap f c.2)

  pub map_from : (xs : List X) (y : Y) (e : X) → Contains (map f xs) y → (x : X) × Contains xs x × (f x ≡ y)
  map_from xs y e c =
      let n : length (map f xs) ≡ length xs = map_length xs in
      let l : c.0 < length xs = omega (arith, c.1, n) in
      let x = slice_index_or xs c.0 e in
      (x, (c.0, l, any_default xs c.0 x e l), sym (map_at xs c.0 y e l) ∙ c.2)

twice : {X Y Z : Type 0} (g : Y → Z) (f : X → Y) (xs : List X) → map g (map f xs) ≡ map (λ x. g (f x)) xs
twice g f [] = refl
twice g f (x ∷ xs) = ap (λ zs. g (f x) ∷ zs) (twice g f xs)

pub are_levels : (mesh : Mesh) (all sorted once : List ℕ) → all ≡ 0 ∷ (32767 ∷ map (λ codes. codes.v) mesh.vertices)
    → IsPermutation all sorted → once ≡ dedup eqb sorted → AreLevels mesh once
are_levels mesh all sorted once a p o v = (to, from)
  where
    same : map pos all ≡ levels_of mesh
    same = ap (λ (xs : List ℕ). map pos xs) a ∙ ap (λ (xs : List ℤ). pos 0 ∷ (pos 32767 ∷ xs))
        (twice pos (λ (codes : Codes). codes.v) mesh.vertices)

    to : Contains (map pos once) v → Contains (levels_of mesh) v
    to c =
        let x = map_from pos once v 0 c in
        let d = subst (λ (xs : List ℕ). Contains xs x.0) o x.1 in
        let s = Contains-permutation sorted all x.0 (IsPermutation-sym all sorted p)
        (Contains-from_dedup eqb sorted x.0 d) in
        subst (λ (xs : List ℤ). Contains xs v) same (subst (λ (z : ℤ). Contains (map pos all) z) x.2
        (map_has pos all x.0 s))

    from : Contains (levels_of mesh) v → Contains (map pos once) v
    from c =
        let x = map_from pos all v 0 (subst (λ (xs : List ℤ). Contains xs v) (sym same) c) in
        let s = Contains-dedup_nat sorted x.0 (Contains-permutation all sorted x.0 p x.1) in
        subst (λ (z : ℤ). Contains (map pos once) z) x.2 (map_has pos once x.0 (subst (λ (xs : List ℕ). Contains xs x.0)
        (sym o) s))
