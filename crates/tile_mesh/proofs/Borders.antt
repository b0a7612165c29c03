-- The lines along the sides of the quadtree's square, as the inner lines of strips.
use Rattle.std.proofs.Common.{◌≡◌, ℕ, zero, suc, ◌-◌, ◌*◌, ◌/◌, ◌^◌, ◌≤◌, refl, ap, sym, ◌∙◌, arith, Bool, true, false, ◌||◌, ◌&&◌, List, map}
use Rattle.std.specs.Prelude.{ℤ, nat_lt}
use Rattle.std.proofs.lemmas.Bool.Decides.{nat_tests}
use Rattle.mesh_plane.specs.Quadtree.{line_of}
use Rattle.mesh_plane.proofs.Edges.{chain}
use Rattle.mesh_plane.proofs.QuadLines.{hline, vline}
use Rattle.quad_split.specs.Node.{is_node}
use Rattle.quad_split.specs.Split.{is_split}
use Rattle.quad_split.specs.Midpoints.{is_south_broken, is_west_broken}
use Rattle.terrain_base.specs.declared.side.Side.TheVariants.{West, South, East, North}
use Rattle.tile_mesh.specs.Rule.{border_split, leaf_ends}
use Rattle.tile_mesh.specs.Sides.{grid_point, inner_at}
use Rattle.tile_mesh.proofs.InnerLists.{across}
use Rattle.tile_mesh.proofs.BorderLines.{h_chain, v_chain}

-- ---- the far side
pub far_line : (k : ℕ) → k ≤ 6 → line_of k (2 ^ (6 - k)) ≡ 65
far_line zero h = refl
far_line (suc zero) h = refl
far_line (suc (suc zero)) h = refl
far_line (suc (suc (suc zero))) h = refl
far_line (suc (suc (suc (suc zero)))) h = refl
far_line (suc (suc (suc (suc (suc zero))))) h = refl
far_line (suc (suc (suc (suc (suc (suc zero)))))) h = refl
far_line (suc (suc (suc (suc (suc (suc (suc k))))))) h = absurd (omega (arith, h))

far_halved : (k : ℕ) → suc k ≤ 6 → 2 * 2 ^ (6 - suc k) ≡ 2 ^ (6 - k)
far_halved zero h = refl
far_halved (suc zero) h = refl
far_halved (suc (suc zero)) h = refl
far_halved (suc (suc (suc zero))) h = refl
far_halved (suc (suc (suc (suc zero)))) h = refl
far_halved (suc (suc (suc (suc (suc zero))))) h = refl
far_halved (suc (suc (suc (suc (suc (suc k)))))) h = absurd (omega (arith, h))

pub near_line : (k : ℕ) → k ≤ 6 → line_of k 0 ≡ 1
near_line k h = omega arith

not_below : (n : ℕ) → nat_lt n n ≡ false
not_below n = grind (arith, nat_tests)

no_row : (k x : ℕ) → k ≤ 6 → is_node k x (2 ^ (6 - k)) ≡ false
unfolding is_node
no_row k x h =
    ap (λ (n : ℕ). nat_lt x (64 / 2 ^ k) && nat_lt (2 ^ (6 - k)) n) (across k h)
    ∙ ap (λ (b : Bool). nat_lt x (64 / 2 ^ k) && b) (not_below (2 ^ (6 - k)))
    ∙ and_false (nat_lt x (64 / 2 ^ k))
  where
    and_false : (b : Bool) → (b && false) ≡ false
    and_false true = refl
    and_false false = refl

no_column : (k y : ℕ) → k ≤ 6 → is_node k (2 ^ (6 - k)) y ≡ false
unfolding is_node
no_column k y h =
    ap (λ (n : ℕ). nat_lt (2 ^ (6 - k)) n && nat_lt y (64 / 2 ^ k)) (across k h)
    ∙ ap (λ (b : Bool). b && nat_lt y (64 / 2 ^ k)) (not_below (2 ^ (6 - k)))

or_itself : (b : Bool) → b ≡ (b || b)
or_itself true = refl
or_itself false = refl

module _ (grid : List ℤ) (tol : ℕ) where
  abbrev p : ℕ → ℕ → ℕ → Bool
  p = is_split grid tol

  outside : (k x y : ℕ) → is_node k x y ≡ false → is_split grid tol k x y ≡ false
  outside zero x y e = refl
  outside (suc k) x y e = rw e refl

  pub south_line : chain (grid_point 1 1) (map (inner_at South) (leaf_ends (border_split (is_split grid tol) South) 6 0))
      ≡ hline grid_point (is_south_broken (is_split grid tol)) (is_west_broken (is_split grid tol)) 6 0 0
  south_line =
      h_chain grid_point (is_south_broken p) (is_west_broken p) (border_split p South) (λ k. 0) 1 near_line (λ k l. refl)
      (λ k m l. or_itself (p k m 0)) 6 0 (omega arith)

  pub west_line : chain (grid_point 1 1) (map (inner_at West) (leaf_ends (border_split (is_split grid tol) West) 6 0))
      ≡ vline grid_point (is_south_broken (is_split grid tol)) (is_west_broken (is_split grid tol)) 6 0 0
  west_line =
      v_chain grid_point (is_south_broken p) (is_west_broken p) (border_split p West) (λ k. 0) 1 near_line (λ k l. refl)
      (λ k m l. or_itself (p k 0 m)) 6 0 (omega arith)

  pub north_line : chain (grid_point 1 65) (map (inner_at North) (leaf_ends (border_split (is_split grid tol) North) 6 0))
      ≡ hline grid_point (is_south_broken (is_split grid tol)) (is_west_broken (is_split grid tol)) 6 0 1
  north_line =
      h_chain grid_point (is_south_broken p) (is_west_broken p) (border_split p North) (λ k. 2 ^ (6 - k)) 65 far_line far_halved
      (λ k m l. sym (ap (λ (b : Bool). b || p k m (2 ^ (6 - k) - 1)) (outside k m (2 ^ (6 - k)) (no_row k m l)))) 6 0 (omega arith)

  pub east_line : chain (grid_point 65 1) (map (inner_at East) (leaf_ends (border_split (is_split grid tol) East) 6 0))
      ≡ vline grid_point (is_south_broken (is_split grid tol)) (is_west_broken (is_split grid tol)) 6 1 0
  east_line =
      v_chain grid_point (is_south_broken p) (is_west_broken p) (border_split p East) (λ k. 2 ^ (6 - k)) 65 far_line far_halved
      (λ k m l. sym (ap (λ (b : Bool). b || p k (2 ^ (6 - k) - 1) m) (outside k (2 ^ (6 - k)) m (no_column k m l)))) 6 0 (omega arith)
