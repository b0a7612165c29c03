use Rattle.std.proofs.Common.{arith, ◌≡◌, ◌≤◌, ◌∙◌, sym, ap, subst, refl, ◌-◌, ◌^◌, suc, ℕ, List}
use Rattle.std.specs.Prelude.{◌↔◌, IsTrue, Bool, ℤ}
use Rattle.mesh_plane.specs.Quadtree.{line_of}
use Rattle.quad_split.specs.Node.{IsNode, level_of, column_of, row_of}
use Rattle.quad_split.specs.declared.node.Node.{Node}
use Rattle.quad_split.specs.Window.{AreSidesOf, middles_follow, sides_follow, fan_at}
use Rattle.quad_split.specs.Fits.{Fits, fits_at}
use Rattle.quad_split.specs.declared.fan.Fan.{Fan}
use Rattle.quad_split.proofs.FanTriangles.{sides_are_good}
use Rattle.quad_split.proofs.NodeLines.{level_is, last_line}
use Rattle.quad_split.proofs.FanLines.{sides_fit}
use Rattle.quad_split.proofs.Meanings.{fit_test}
use Rattle.quad_split.proofs.Smallest.{by_middles}
use Rattle.quad_split.proofs.fit.fits.Goals as goal

first_level : level_of 2 - 1 ≡ 0
unfolding level_of
first_level = refl

module _ (grid : List ℤ) (tol : ℕ) (node : Node) (is : IsNode node) (large : 2 ≤ node.side) where
  abbrev fan : Fan
  fan = fan_at (level_of node.side - 1) (column_of node) (row_of node)

  are_sides : AreSidesOf grid fan
  are_sides =
      let k = level_of node.side - 1 in
      let l = level_is node.side large in
      let side = is.side ∙ ap (λ (n : ℕ). 2 ^ n) l in
      let i = is.column ∙ ap (λ (n : ℕ). line_of n (column_of node)) l in
      let j = is.row ∙ ap (λ (n : ℕ). line_of n (row_of node)) l in
      let east = last_line node.i node.side (suc k) (column_of node) side i in
      let north = last_line node.j node.side (suc k) (row_of node) side j in
      sides_are_good grid k (column_of node) (row_of node) (omega (arith, east, is.east)) (omega (arith, north, is.north))

  -- the test in the words of the node
  fits_by_sides : sides_follow grid tol fan ≡ fits_at grid tol (level_of node.side) (column_of node) (row_of node)
  fits_by_sides =
      sides_fit grid tol (level_of node.side - 1) (column_of node) (row_of node)
      ∙ ap (λ (n : ℕ). fits_at grid tol n (column_of node) (row_of node)) (sym (level_is node.side large))

  fits_by_middles : node.side ≡ 2
      → middles_follow grid tol fan ≡ fits_at grid tol (level_of node.side) (column_of node) (row_of node)
  fits_by_middles e =
      let k : level_of node.side - 1 ≡ 0 = ap (λ (n : ℕ). level_of n - 1) e ∙ first_level in
      subst (λ (n : ℕ). AreSidesOf grid (fan_at n (column_of node) (row_of node))
      → middles_follow grid tol (fan_at n (column_of node) (row_of node))
      ≡ sides_follow grid tol (fan_at n (column_of node) (row_of node)))
      (sym k) (by_middles grid tol (column_of node) (row_of node)) are_sides
      ∙ fits_by_sides

  meant : (b : Bool) → b ≡ fits_at grid tol (level_of node.side) (column_of node) (row_of node)
      → (k : ℕ) → level_of node.side ≡ suc k → IsTrue b ↔ Fits grid tol k (column_of node) (row_of node)
  meant b value k e =
      subst (λ (b : Bool). IsTrue b ↔ Fits grid tol k (column_of node) (row_of node))
      (sym (value ∙ ap (λ (n : ℕ). fits_at grid tol n (column_of node) (row_of node)) e))
      (fit_test grid tol k (column_of node) (row_of node))

pub middles_follow-requires : goal.middles_follow-requires
middles_follow-requires c =
    subst (λ (f : Fan). AreSidesOf c.args.grid.now f) (sym c.fan_of-fan.ensures)
    (are_sides c.args.grid.now c.args.tol c.args.node.now c.requires.node c.requires.side)

pub fan_follows-requires : goal.fan_follows-requires
fan_follows-requires c =
    subst (λ (f : Fan). AreSidesOf c.args.grid.now f) (sym c.fan_of-fan.ensures)
    (are_sides c.args.grid.now c.args.tol c.args.node.now c.requires.node c.requires.side)

by_middles_is : (c : goal.After-middles_follow) → c.middles_follow.result
    ≡ fits_at c.args.grid.now c.args.tol (level_of c.args.node.now.side) (column_of c.args.node.now)
    (row_of c.args.node.now)
by_middles_is c =
    c.middles_follow.ensures
    ∙ ap (λ (f : Fan). middles_follow c.args.grid.now c.args.tol f) c.fan_of-fan.ensures
    ∙ fits_by_middles c.args.grid.now c.args.tol c.args.node.now c.requires.node c.requires.side c.if-node-eq2.true

by_sides_is : (c : goal.After-fan_follows) → c.fan_follows.result
    ≡ fits_at c.args.grid.now c.args.tol (level_of c.args.node.now.side) (column_of c.args.node.now)
    (row_of c.args.node.now)
by_sides_is c =
    c.fan_follows.ensures
    ∙ ap (λ (f : Fan). sides_follow c.args.grid.now c.args.tol f) c.fan_of-fan.ensures
    ∙ fits_by_sides c.args.grid.now c.args.tol c.args.node.now c.requires.node c.requires.side

pub returns-then-node-eq2-clause-value : goal.returns-then-node-eq2-clause-value
returns-then-node-eq2-clause-value c = by_middles_is c

pub returns-then-node-eq2-clause-meaning : goal.returns-then-node-eq2-clause-meaning
returns-then-node-eq2-clause-meaning c =
    meant c.args.grid.now c.args.tol c.args.node.now c.requires.node c.requires.side c.middles_follow.result (by_middles_is c)

pub returns-clause-value : goal.returns-clause-value
returns-clause-value c = by_sides_is c

pub returns-clause-meaning : goal.returns-clause-meaning
returns-clause-meaning c =
    meant c.args.grid.now c.args.tol c.args.node.now c.requires.node c.requires.side c.fan_follows.result (by_sides_is c)
