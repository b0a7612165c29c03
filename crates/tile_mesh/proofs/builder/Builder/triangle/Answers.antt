use Rattle.std.proofs.Common.{◌∙◌, ap, [], ◌∷◌, ◌++◌}
use Rattle.tile_mesh.proofs.Steps.{emits}
use Rattle.tile_mesh.proofs.builder.Builder.triangle.Goals as goal

pub returns : goal.returns
returns c =
    let r = c.in_ok-c.ensures.rest ∙ c.in_ok-b.ensures.rest ∙ c.in_ok-a.ensures.rest in
    emits c.args.a c.args.b c.args.c c.args.self.now.points.items c.number.new.self.points.items
    c.number-2.new.self.points.items c.number-3.new.self.points.items c.args.self.now.triangles.items
    c.push.new.self.items c.in_ok-a.a c.in_ok-b.b c.in_ok-c.c
    c.in_ok-a.ensures.points c.in_ok-b.ensures.points c.in_ok-c.ensures.points
    c.in_ok-a.ensures.number c.in_ok-b.ensures.number c.in_ok-c.ensures.number
    (c.in_ok-push.ensures.items ∙ ap (λ is. is ++ record { a = c.in_ok-a.a; b = c.in_ok-b.b; c = c.in_ok-c.c } ∷ []) r)
