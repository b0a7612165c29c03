use Rattle.std.proofs.Common.{◌∙◌, List, ℕ, subst}
use Rattle.tile_mesh.specs.Mesh.{kept_on}
use Rattle.tile_mesh.specs.Numbers.{Adds}
use Rattle.tile_mesh.specs.Rule.{strip_triangles, border_triangles}
use Rattle.tile_mesh.proofs.builder.Builder.border.Goals as goal

pub returns : goal.returns
unfolding border_triangles
returns c =
    let adds = λ (outer inner : List ℕ). Adds (strip_triangles c.args.side outer inner) c.args.self.now.points.items
    c.strip.new.self.points.items c.args.self.now.triangles.items c.strip.new.self.triangles.items in
    subst (λ (inner : List ℕ). adds (kept_on c.args.grid.now c.args.tol c.args.side) inner)
    (c.deref-2.ensures.value ∙ c.in_ok-inner.ensures.indexes)
    (subst (λ (outer : List ℕ). adds outer c.deref-2.result.now)
    (c.deref.ensures.value ∙ c.in_ok-outer.ensures.indexes) c.in_ok-strip.ensures)
